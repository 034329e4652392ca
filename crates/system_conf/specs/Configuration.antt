-- What a configuration says, with the defaults.
use Rattle.std.specs.Prelude.{List, codes, Option}
use Rattle.boot_model.specs.declared.boot_kind.BootKind.{BootKind}
use Rattle.keyfile.specs.Groups.{Text, Group}
use Rattle.system_conf.specs.Slots.{slots_of}
use Rattle.system_conf.specs.Values.{boot_of, compatible_of, data_directory_of, handler_of, helpers_of, mount_prefix_of, status_file_of}
use Rattle.system_conf.specs.declared.slot.Slot.{Slot}
use Rattle.system_conf.specs.declared.system.Helpers.{Helpers}

-- what a system has, as its clauses see it
pub record Configuration : Type 0 where
  pub compatible : Text
  pub boot : BootKind
  pub mount_prefix : Text
  pub status_file : Option Text
  pub data_directory : Option Text
  pub pre_install : Option Text
  pub post_install : Option Text
  pub helpers : Helpers
  pub slots : List Slot

-- what the groups say, with the defaults
unfoldable pub configuration : List Group → Configuration
configuration groups = record {
  compatible = compatible_of groups;
  boot = boot_of groups;
  mount_prefix = mount_prefix_of groups;
  status_file = status_file_of groups;
  data_directory = data_directory_of groups;
  pre_install = handler_of groups (codes "pre-install");
  post_install = handler_of groups (codes "post-install");
  helpers = helpers_of groups;
  slots = slots_of groups;
}
