-- The forms that the values of a configuration and of a manifest have.
use Rattle.std.specs.Prelude.{ℕ, ◌-◌, ◌==◌, Bool, true, false, ◌&&◌, not, nat_le, List, [], ◌∷◌, codes, length, take, slice_index, Option, Some, None, is_some, if◌then◌else◌}
use Rattle.std.specs.List.{list_all, slice_split}
use Rattle.std.specs.Str.{bytes_eq}
use Rattle.updater_text.specs.Flags.{flag_of}
use Rattle.updater_text.specs.Numbers.{number_of}
use Rattle.keyfile.specs.Groups.{Text}
use Rattle.keyfile.specs.Items.{items_of}
use Rattle.conf_forms.specs.Lists.{is_among, keep_if}
use Rattle.conf_forms.specs.declared.form.Form.{Form}
use Rattle.conf_forms.specs.declared.form.Form.TheVariants as form

-- the words of the boot loaders
abbrev pub loaders : List Text
loaders = codes "grub" ∷ codes "uboot" ∷ codes "barebox" ∷ codes "efi" ∷ codes "custom" ∷ codes "noop" ∷ []

-- the words of the slots' types: three that are written to, and those that are not
abbrev pub slot_types : List Text
slot_types =
    codes "raw" ∷ codes "ext4" ∷ codes "vfat"
    ∷ codes "nand" ∷ codes "nor" ∷ codes "ubivol" ∷ codes "ubifs" ∷ codes "jffs2"
    ∷ codes "boot-emmc" ∷ codes "boot-gpt-switch" ∷ codes "boot-mbr-switch" ∷ codes "boot-raw-fallback" ∷ []

-- the hooks that a bundle may name
abbrev pub bundle_hooks : List Text
bundle_hooks = codes "install-check" ∷ []

-- and those that an image may name
abbrev pub image_hooks : List Text
image_hooks = codes "pre-install" ∷ codes "install" ∷ codes "post-install" ∷ []

-- a list of some of these words
abbrev pub are_among : List Text → Text → Bool
are_among words value = list_all (is_among words) (items_of value)

-- not empty, and at most 1,024 bytes
abbrev pub is_short : Text → Bool
is_short text = nat_le 1 (length text) && nat_le (length text) 1024

-- a text of at most 1,024 bytes, which may be empty
abbrev pub is_text : Text → Bool
is_text text = nat_le (length text) 1024

-- no control character
abbrev pub is_path_byte : ℕ → Bool
is_path_byte byte = nat_le 32 byte && not (byte == 127)

-- a part of a path: not empty, `.` or `..`
abbrev pub is_part : Text → Bool
is_part part = not (length part == 0) && (not (bytes_eq part (codes ".")) && not (bytes_eq part (codes "..")))

-- a slash, and parts with a slash between them
abbrev pub has_parts : Text → Bool
has_parts [] = false
has_parts (first ∷ rest) = (first == 47) && list_all is_part (slice_split (λ b. b == 47) rest)

-- an absolute path of at most 4,096 bytes
abbrev pub is_path : Text → Bool
is_path text = nat_le (length text) 4096 && (list_all is_path_byte text && has_parts text)

-- without one slash at the end, where there is one
abbrev pub without_slash : Text → Text
without_slash text = if slice_index text (length text - 1) == 47 then take (length text - 1) text else text

-- the path of a directory, which may end in a slash, of at most 4,096 bytes with it
abbrev pub is_directory : Text → Bool
is_directory text = nat_le (length text) 4096 && is_path (without_slash text)

-- a byte of a bootname: from 33 to 126, and none of `=`, `,`, `;` and `"`
abbrev pub is_bootname_byte : ℕ → Bool
is_bootname_byte byte = (nat_le 33 byte && nat_le byte 126) && (not (byte == 61) && (not (byte == 44) && (not (byte == 59) && not (byte == 34))))

-- a bootname
abbrev pub is_bootname : Text → Bool
is_bootname text = is_short text && list_all is_bootname_byte text

-- a number from 1 to 9
abbrev pub attempts_of : Text → Option ℕ
attempts_of text = keep_if (λ n. nat_le 1 n && nat_le n 9) (number_of text)

-- the value has the form
abbrev pub accepts : Form → Text → Bool
accepts form.Compatible value = is_short value
accepts form.Loader value = is_among loaders value
accepts form.Path value = is_path value
accepts form.Directory value = is_directory value
accepts form.StatusFile value = is_path value
accepts form.Flag value = is_some (flag_of value)
accepts form.Activation value = is_some (flag_of value)
accepts form.Attempts value = is_some (attempts_of value)
accepts form.SlotType value = is_among slot_types value
accepts form.BootName value = is_bootname value
accepts form.Number value = is_some (number_of value)
accepts form.BundleHooks value = are_among bundle_hooks value
accepts form.ImageHooks value = are_among image_hooks value
accepts form.Text value = is_text value
accepts form.Free value = true
accepts form.LeftOut value = true

-- a flag that is false
abbrev pub is_off : Option Bool → Bool
is_off (Some false) = true
is_off (Some true) = false
is_off None = false

-- a value of this form, or each of them, is left out
abbrev pub is_left_out : Form → Text → Bool
is_left_out form.StatusFile value = bytes_eq value (codes "per-slot")
is_left_out form.Activation value = is_off (flag_of value)
is_left_out form.LeftOut value = true
is_left_out _ value = false
