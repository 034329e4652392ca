-- The forms of a system's values, and that its places are apart.
use Rattle.std.specs.Prelude.{ℕ, ◌^◌, Bool, true, false, ◌&&◌, ◌||◌, not, nat_le, nat_lt, [], ◌∷◌, ◌++◌, codes, decimal, map, Option, option_map}
use Rattle.std.specs.Option.{option_map_or}
use Rattle.std.specs.List.{list_all}
use Rattle.std.specs.Str.{bytes_eq}
use Rattle.boot_model.specs.declared.boot_kind.BootKind.{BootKind}
use Rattle.boot_model.specs.declared.boot_kind.BootKind.TheVariants as boot
use Rattle.keyfile.specs.Groups.{Text}
use Rattle.conf_forms.specs.Forms.{is_short, is_path, is_bootname, slot_types}
use Rattle.conf_forms.specs.Lists.{is_among}
use Rattle.conf_forms.specs.Classes.{is_class}
use Rattle.system_conf.specs.Configuration.{Configuration}
use Rattle.system_conf.specs.Conflicts.{has_index}
use Rattle.system_conf.specs.Slots.{word_of}
use Rattle.system_conf.specs.Values.{central_file, boot_file, is_at}
use Rattle.updater_text.specs.Paths.{is_within}
use Rattle.system_conf.specs.declared.slot.Slot.{Slot}
use Rattle.system_conf.specs.declared.system.Helpers.{Helpers}

-- a path, where there is one
abbrev pub is_path_if_any : Option Text → Bool
is_path_if_any path = option_map_or is_path path true

-- a number of boot attempts: 1 to 9
abbrev pub are_attempts : ℕ → Bool
are_attempts number = nat_le 1 number && nat_le number 9

-- the settings of a boot loader: its file and its program are paths, its attempts are 1 to 9
abbrev pub is_boot_formed : BootKind → Bool
is_boot_formed (boot.Grub file) = is_path file
is_boot_formed (boot.Uboot attempts primary) = are_attempts attempts && are_attempts primary
is_boot_formed (boot.Barebox state attempts primary) = are_attempts attempts && are_attempts primary
is_boot_formed (boot.Efi use_next) = true
is_boot_formed (boot.Custom program) = is_path program
is_boot_formed boot.Noop = true

-- the status file is a path, or the file that the data directory has
abbrev pub is_status_formed : Configuration → Bool
is_status_formed c = option_map_or (λ path. is_path path || is_at (option_map central_file c.data_directory) path) c.status_file true

-- the programs for bundles are paths
abbrev pub are_helpers_formed : Helpers → Bool
are_helpers_formed helpers = is_path helpers.check && (is_path helpers.mount && is_path helpers.umount)

-- the compatible has 1 to 1,024 bytes, and all places are paths
abbrev pub are_values_formed : Configuration → Bool
are_values_formed c =
    list_all (λ holds. holds) (is_short c.compatible ∷ is_path c.mount_prefix ∷ is_status_formed c ∷ is_path_if_any c.data_directory ∷ is_path_if_any c.pre_install ∷ is_path_if_any c.post_install ∷ [])

-- the name of a slot is its class, a dot and its index in decimal
abbrev pub has_its_name : Slot → Bool
has_its_name s = bytes_eq s.name (s.class ++ codes "." ++ decimal s.index) && (is_class s.class && nat_lt s.index (2 ^ 32))

-- a slot has its name, a path, a type and, where it has one, a bootname
abbrev pub is_slot_formed : Slot → Bool
is_slot_formed s = has_its_name s && (is_path s.device && (is_among slot_types (word_of s.kind) && option_map_or is_bootname s.bootname true))

-- a data directory is not within the mount prefix
abbrev pub is_data_apart : Configuration → Bool
is_data_apart c = option_map_or (λ directory. not (is_within c.mount_prefix directory)) c.data_directory true

-- a status file, unless it is the one of the data directory, is not within the mount prefix
abbrev pub is_status_outside : Configuration → Text → Bool
is_status_outside c path = not (is_within c.mount_prefix path) || is_at (option_map central_file c.data_directory) path

-- a status file is no stored index of a slot, and not the boot loader's file
abbrev pub is_status_apart : Configuration → Text → Bool
is_status_apart c path =
    not (option_map_or (λ directory. has_index directory path (map (λ s. s.name) c.slots)) c.data_directory false) && not (is_at (boot_file c.boot) path)

-- no place of the updater is taken by another
abbrev pub are_apart : Configuration → Bool
are_apart c = is_data_apart c && option_map_or (λ path. is_status_outside c path && is_status_apart c path) c.status_file true
