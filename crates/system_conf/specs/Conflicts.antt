-- Values of a configuration that name a place which is taken.
use Rattle.std.specs.Prelude.{Bool, false, ◌&&◌, ◌||◌, List, ◌++◌, codes, is_some, if◌then◌else◌}
use Rattle.std.specs.Option.{option_map_or}
use Rattle.std.specs.List.{list_any}
use Rattle.std.specs.Str.{bytes_eq}
use Rattle.updater_text.specs.Paths.{is_within}
use Rattle.keyfile.specs.Groups.{Text, Entry, Group}
use Rattle.conf_forms.specs.Forms.{without_slash}
use Rattle.conf_forms.specs.SlotNames.{slot_names}
use Rattle.system_conf.specs.Values.{central_file, data_directory_of, grub_file_of, is_at, mount_prefix_of, status_file_of}

-- the file of a slot's stored index in a data directory
abbrev pub index_file : Text → Text → Text
index_file directory name = directory ++ codes "/index." ++ name

-- the path is that of the stored index of one of these slots
abbrev pub has_index : Text → Text → List Text → Bool
has_index directory path names = list_any (λ name. bytes_eq path (index_file directory name)) names

-- the path is that of a slot's stored index
abbrev pub is_index_file : List Group → Text → Bool
is_index_file groups path = option_map_or (λ directory. has_index directory path (slot_names groups)) (data_directory_of groups) false

-- the status file may not be there
abbrev pub is_status_taken : List Group → Text → Bool
is_status_taken groups path = is_within (mount_prefix_of groups) path || (is_index_file groups path || is_at (grub_file_of groups) path)

-- the status file is the one that the data directory has
abbrev pub is_central : List Group → Bool
is_central groups = option_map_or (λ directory. is_at (status_file_of groups) (central_file directory)) (data_directory_of groups) false

-- GRUB's environment block may not be there
abbrev pub is_grubenv_taken : List Group → Text → Bool
is_grubenv_taken groups path = is_some (grub_file_of groups) && (is_central groups && is_at (status_file_of groups) path)

-- the path may not be that of the key of `[system]`
abbrev pub is_taken : List Group → Text → Text → Bool
is_taken groups key path =
    if bytes_eq key (codes "statusfile") then is_status_taken groups path
    else (if bytes_eq key (codes "data-directory") then is_within (mount_prefix_of groups) (without_slash path)
    else (if bytes_eq key (codes "grubenv") then is_grubenv_taken groups path else false))

-- the value is the path of such a key, and may not be there
abbrev pub is_conflict : List Group → Text → Entry → Bool
is_conflict groups group e = bytes_eq group (codes "system") && is_taken groups e.0 e.1
