-- The values of a configuration, with their defaults.
use Rattle.std.specs.Prelude.{ℕ, Bool, true, false, List, [], ◌++◌, codes, Option, Some, None, option_map, option_and_then, unwrap_or, if◌then◌else◌}
use Rattle.std.specs.Option.{option_map_or}
use Rattle.updater_text.specs.Paths.{lies_under}
use Rattle.std.specs.Str.{bytes_eq}
use Rattle.updater_text.specs.Flags.{flag_of}
use Rattle.boot_model.specs.declared.boot_kind.BootKind.{BootKind}
use Rattle.boot_model.specs.declared.boot_kind.BootKind.TheVariants as boot
use Rattle.keyfile.specs.Groups.{Text, Group, get_in}
use Rattle.conf_forms.specs.Lists.{or_else}
use Rattle.conf_forms.specs.Forms.{attempts_of, without_slash}
use Rattle.conf_forms.specs.Values.{value_with_form}
use Rattle.conf_forms.specs.declared.form.Form.TheVariants as form
use Rattle.system_conf.specs.declared.system.Helpers.{Helpers}

-- the flag at a key
abbrev pub flag_in : List Group → Text → Text → Bool → Bool
flag_in groups group key default = unwrap_or (option_and_then flag_of (get_in groups group key)) default

-- the number of attempts at a key of `[system]`
abbrev pub attempts_in : List Group → Text → ℕ
attempts_in groups key = unwrap_or (option_and_then attempts_of (get_in groups (codes "system") key)) 3

-- the word of the boot loader
abbrev pub loader_of : List Group → Text
loader_of groups = unwrap_or (get_in groups (codes "system") (codes "bootloader")) []

-- what the system is called
abbrev pub compatible_of : List Group → Text
compatible_of groups = unwrap_or (get_in groups (codes "system") (codes "compatible")) []

abbrev pub mount_prefix_of : List Group → Text
mount_prefix_of groups = without_slash (unwrap_or (value_with_form groups form.Directory (codes "system") (codes "mountprefix")) (codes "/mnt/rauc/"))

abbrev pub data_directory_of : List Group → Option Text
data_directory_of groups = option_map without_slash (value_with_form groups form.Directory (codes "system") (codes "data-directory"))

-- GRUB's environment block
abbrev pub grubenv_of : List Group → Text
grubenv_of groups = unwrap_or (value_with_form groups form.Path (codes "system") (codes "grubenv")) (codes "/boot/grub/grubenv")

-- GRUB's environment block, where GRUB is the boot loader
abbrev pub grub_file_of : List Group → Option Text
grub_file_of groups = if bytes_eq (loader_of groups) (codes "grub") then Some (grubenv_of groups) else None

-- the status file that a data directory has
abbrev pub central_file : Text → Text
central_file directory = directory ++ codes "/central.raucs"

-- the status file: the one that is named, else the one in the data directory
abbrev pub status_file_of : List Group → Option Text
status_file_of groups = or_else (value_with_form groups form.StatusFile (codes "system") (codes "statusfile")) (option_map central_file (data_directory_of groups))

-- the program of `[handlers]` at a key
abbrev pub handler_of : List Group → Text → Option Text
handler_of groups key = value_with_form groups form.Path (codes "handlers") key

-- the program of `[x-helpers]` at a key
abbrev pub helper_of : List Group → Text → Text
helper_of groups key = unwrap_or (value_with_form groups form.Path (codes "x-helpers") key) (codes "/usr/libexec/rauc/" ++ key)

abbrev pub helpers_of : List Group → Helpers
helpers_of groups = record { check = helper_of groups (codes "bundle-check"); mount = helper_of groups (codes "bundle-mount"); umount = helper_of groups (codes "bundle-umount") }

-- the program of a custom boot loader
abbrev pub custom_program_of : List Group → Text
custom_program_of groups = unwrap_or (handler_of groups (codes "bootloader-custom-backend")) []

-- the boot loader of this word, with its settings
abbrev pub boot_named : List Group → Text → BootKind
boot_named groups word =
    if bytes_eq word (codes "grub") then boot.Grub (grubenv_of groups)
    else (if bytes_eq word (codes "uboot") then boot.Uboot (attempts_in groups (codes "boot-attempts")) (attempts_in groups (codes "boot-attempts-primary"))
    else (if bytes_eq word (codes "barebox") then boot.Barebox (get_in groups (codes "system") (codes "barebox-statename")) (attempts_in groups (codes "boot-attempts")) (attempts_in groups (codes "boot-attempts-primary"))
    else (if bytes_eq word (codes "efi") then boot.Efi (flag_in groups (codes "system") (codes "efi-use-bootnext") true)
    else (if bytes_eq word (codes "custom") then boot.Custom (custom_program_of groups)
    else boot.Noop))))

abbrev pub boot_of : List Group → BootKind
boot_of groups = boot_named groups (loader_of groups)

-- the file in which a boot loader keeps its variables, where it is one of the system's
abbrev pub boot_file : BootKind → Option Text
boot_file (boot.Grub file) = Some file
boot_file _ = None

-- the path is this place, where there is such a place
abbrev pub is_at : Option Text → Text → Bool
is_at place path = option_map_or (λ p. bytes_eq path p) place false

-- the path lies below this directory, where there is one
abbrev pub is_below : Option Text → Text → Bool
is_below directory path = option_map_or (λ d. lies_under d path) directory false
