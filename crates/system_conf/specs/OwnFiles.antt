-- Where the updater keeps files of its own.
use Rattle.std.specs.Prelude.{Bool, ◌||◌, List, Option, Some, None, if◌then◌else◌}
use Rattle.updater_text.specs.Paths.{lies_under}
use Rattle.keyfile.specs.Groups.{Text, Group}
use Rattle.system_conf.specs.Configuration.{Configuration}
use Rattle.system_conf.specs.Values.{boot_file, data_directory_of, grub_file_of, is_at, is_below, mount_prefix_of, status_file_of}
use Rattle.system_conf.specs.declared.slot.Slot.{Slot}

-- two files and two directories
pub record OwnFiles : Type 0 where
  pub status_file : Option Text
  pub grub_file : Option Text
  pub data_directory : Option Text
  pub mount_prefix : Text

-- the path is one of the files
abbrev pub is_own_file : OwnFiles → Text → Bool
is_own_file own path = is_at own.status_file path || is_at own.grub_file path

-- the path lies below one of the directories
abbrev pub is_below_own : OwnFiles → Text → Bool
is_below_own own path = is_below own.data_directory path || lies_under own.mount_prefix path

-- the updater keeps a file there, or may
abbrev pub is_own : OwnFiles → Text → Bool
is_own own path = is_own_file own path || is_below_own own path

-- those of a configuration
abbrev pub own_files : Configuration → OwnFiles
own_files c = record { status_file = c.status_file; grub_file = boot_file c.boot; data_directory = c.data_directory; mount_prefix = c.mount_prefix }

-- the same by the groups of its file
abbrev pub own_files_of : List Group → OwnFiles
own_files_of groups = record { status_file = status_file_of groups; grub_file = grub_file_of groups; data_directory = data_directory_of groups; mount_prefix = mount_prefix_of groups }

-- the name of a slot whose device is one of these places
abbrev pub own_device : OwnFiles → Slot → Option Text
own_device own s = if is_own own s.device then Some s.name else None
