-- The parts of a configuration, as the code reads them one after another.
use Rattle.std.specs.Prelude.{List, codes}
use Rattle.keyfile.specs.Groups.{Group}
use Rattle.system_conf.specs.Values.{boot_of, compatible_of, data_directory_of, handler_of, helpers_of, mount_prefix_of, status_file_of}
use Rattle.system_conf.specs.declared.settings.Paths.{Paths}
use Rattle.system_conf.specs.declared.settings.Programs.{Programs}
use Rattle.system_conf.specs.declared.settings.Settings.{Settings}

abbrev pub paths_of : List Group → Paths
paths_of groups = record { mount_prefix = mount_prefix_of groups; status_file = status_file_of groups; data_directory = data_directory_of groups }

abbrev pub programs_of : List Group → Programs
programs_of groups = record { pre_install = handler_of groups (codes "pre-install"); post_install = handler_of groups (codes "post-install"); helpers = helpers_of groups }

abbrev pub settings_of : List Group → Settings
settings_of groups = record { compatible = compatible_of groups; boot = boot_of groups; paths = paths_of groups; programs = programs_of groups }
