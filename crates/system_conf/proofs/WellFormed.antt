-- What is read and not refused has its forms.
use Rattle.std.proofs.Common.{◌≡◌, Bool, true, false, cond, ◌&&◌, ◌||◌, nat_le, List, [], ◌∷◌, ◌++◌, length, map, filter, codes, Option, Some, None, option_map, option_and_then, refl, sym, ◌∙◌, ap}
use Rattle.std.specs.Prelude.{unwrap_or}
use Rattle.std.specs.Option.{option_map_or}
use Rattle.std.specs.List.{list_all}
use Rattle.std.specs.Str.{bytes_eq}
use Rattle.std.proofs.lemmas.Bool.{and_parts}
use Rattle.std.proofs.lemmas.Slice.Eq.{bytes_eq-Decides}
use Rattle.boot_model.specs.declared.boot_kind.BootKind.TheVariants as boot
use Rattle.keyfile.specs.Groups.{Text, Group, get_in}
use Rattle.conf_forms.specs.Forms.{accepts, is_short, is_path, is_directory, is_bootname, slot_types, attempts_of, without_slash}
use Rattle.conf_forms.specs.Tables.{form_of}
use Rattle.conf_forms.specs.Walks.{first_bad, missing_key}
use Rattle.conf_forms.specs.Lists.{or_else, first_of, keep_if, is_among}
use Rattle.conf_forms.specs.SlotNames.{is_slot_group, name_of, slot_groups}
use Rattle.conf_forms.specs.declared.form.Form.{Form}
use Rattle.conf_forms.specs.declared.form.Form.TheVariants as form
use Rattle.updater_text.specs.Numbers.{number_of}
use Rattle.system_conf.specs.Formed.{is_path_if_any, are_attempts, is_boot_formed, are_helpers_formed, are_values_formed, is_slot_formed}
use Rattle.system_conf.specs.Refusals.{first_some, group_refusals, unknown_key, left_out, missing, bad_value, device_is_file}
use Rattle.system_conf.specs.Configuration.{configuration}
use Rattle.system_conf.specs.Conflicts.{is_conflict, is_taken}
use Rattle.system_conf.specs.KeyTable.{system_table}
use Rattle.system_conf.specs.Mandatory.{custom_keys, device_keys, first_missing}
use Rattle.system_conf.specs.OwnFiles.{own_device, own_files_of}
use Rattle.system_conf.specs.Slots.{slot_of, slots_of, device_of, kind_with, word_of}
use Rattle.conf_forms.specs.Values.{value_with_form}
use Rattle.system_conf.specs.Values.{compatible_of, loader_of, attempts_in, mount_prefix_of, data_directory_of, grubenv_of, central_file, status_file_of, helpers_of, custom_program_of, boot_of, flag_in, is_at}
use Rattle.system_conf.specs.declared.conf_refusal.ConfRefusal.TheVariants as refusal
use Rattle.system_conf.specs.declared.slot.Slot.{Slot}
use Rattle.system_conf.specs.declared.slot.SlotKind.TheVariants as slot
use Rattle.conf_forms.proofs.FirstOf.{both_none, first_of-append, first_of-map}
use Rattle.conf_forms.proofs.Values.{has_its_form, no_conflict, present}
use Rattle.system_conf.proofs.Differ.{group_is}
use Rattle.system_conf.proofs.Soundness.{left_none, right_none}
use Rattle.system_conf.proofs.SlotForms.{slot_named_so}

-- ---- nothing is bad, and nothing missing

map_none : {A B : Type 0} (f : A → B) (o : Option A) → option_map f o ≡ None → o ≡ None
map_none f (Some x) h = absurd (cc)
map_none f None h = refl

nothing_bad : (groups : List Group) → bad_value groups ≡ None → first_bad system_table (is_conflict groups) groups ≡ None
unfolding bad_value
nothing_bad groups none = map_none (λ p. refusal.BadValue p.0 p.1) (first_bad system_table (is_conflict groups) groups) none

nothing_missing : (groups : List Group) → missing groups ≡ None → first_missing groups ≡ None
unfolding missing
nothing_missing groups none = map_none (λ p. refusal.Missing p.0 p.1) (first_missing groups) none

pub nothing_own : (groups : List Group) (slots : List Slot) → device_is_file groups slots ≡ None → first_of (own_device (own_files_of groups)) slots ≡ None
unfolding device_is_file
nothing_own groups slots none = map_none (λ name. refusal.DeviceIsFile name) (first_of (own_device (own_files_of groups)) slots) none

-- a value has its form
formed_there : (groups : List Group) → bad_value groups ≡ None → (group key value : Text) → get_in groups group key ≡ Some value → (f : Form) → form_of system_table group key ≡ Some f → accepts f value ≡ true
formed_there groups none group key value is f known = has_its_form system_table (is_conflict groups) groups (nothing_bad groups none) group key value is f known

-- and one of `[system]` names no place that is taken
pub not_taken : (groups : List Group) → bad_value groups ≡ None → (key value : Text) → get_in groups (codes "system") key ≡ Some value → is_taken groups key value ≡ false
not_taken groups none key value is = no_conflict system_table (is_conflict groups) groups (nothing_bad groups none) (codes "system") key value is

-- ---- a mandatory key is there

compatible_there : (groups : List Group) → missing groups ≡ None → missing_key groups (codes "system", codes "compatible") ≡ None
compatible_there groups h = (both_none (missing_key groups (codes "system", codes "compatible")) _ (nothing_missing groups h)).0

devices_there : (groups : List Group) → missing groups ≡ None → first_of (missing_key groups) (device_keys groups ++ custom_keys groups) ≡ None
devices_there groups h =
    (both_none (missing_key groups (codes "system", codes "bootloader")) _ (both_none (missing_key groups (codes "system", codes "compatible")) _ (nothing_missing groups h)).1).1

device_keys_there : (groups : List Group) → missing groups ≡ None → first_of (λ (g : Text). missing_key groups (g, codes "device")) (slot_groups groups) ≡ None
device_keys_there groups h =
    sym (first_of-map (missing_key groups) (λ (g : Text). (g, codes "device")) (slot_groups groups))
    ∙ (both_none (first_of (missing_key groups) (device_keys groups)) _ (sym (first_of-append (missing_key groups) (device_keys groups) (custom_keys groups)) ∙ devices_there groups h)).0

custom_key_there : (groups : List Group) → missing groups ≡ None → bytes_eq (loader_of groups) (codes "custom") ≡ true → missing_key groups (codes "handlers", codes "bootloader-custom-backend") ≡ None
custom_key_there groups h custom =
    (both_none (missing_key groups (codes "handlers", codes "bootloader-custom-backend")) None
    (sym (ap (λ b. first_of (missing_key groups) (cond b ((codes "handlers", codes "bootloader-custom-backend") ∷ []) [])) custom)
    ∙ (both_none (first_of (missing_key groups) (device_keys groups)) _ (sym (first_of-append (missing_key groups) (device_keys groups) (custom_keys groups)) ∙ devices_there groups h)).1)).0

-- ---- values with a form, and their defaults

pub kept_if : {A : Type 0} (test : A → Bool) (x : A) (P : Option A → Type 0) → (test x ≡ true → P (Some x)) → P None → P (cond (test x) (Some x) None)
kept_if test x P some none = elim (test x) as (λ b. test x ≡ b → P (cond b (Some x) None)) [ true ↦ λ e. some e | false ↦ λ e. none ] refl

passes_or : {A : Type 0} (test : A → Bool) (o : Option A) (d : A) → test d ≡ true → test (unwrap_or (keep_if test o) d) ≡ true
passes_or test None d h = h
passes_or {A = A} test (Some x) d h = kept_if test x (λ (o : Option A). test (unwrap_or o d) ≡ true) (λ e. e) h

passes_if_any : {A : Type 0} (test : A → Bool) (o : Option A) → option_map_or test (keep_if test o) true ≡ true
passes_if_any test None = refl
passes_if_any {A = A} test (Some x) = kept_if test x (λ (o : Option A). option_map_or test o true ≡ true) (λ e. e) refl

keep_if_all : {A : Type 0} (test : A → Bool) (o : Option A) (x : A) → o ≡ Some x → test x ≡ true → keep_if test o ≡ Some x
keep_if_all test o x is e = ap (keep_if test) is ∙ ap (λ b. cond b (Some x) None) e

attempts_formed : (groups : List Group) (key : Text) → are_attempts (attempts_in groups key) ≡ true
attempts_formed groups key = go (get_in groups (codes "system") key)
  where
    go : (o : Option Text) → are_attempts (unwrap_or (option_and_then attempts_of o) 3) ≡ true
    go (Some text) = passes_or are_attempts (number_of text) 3 refl
    go None = refl

compatible_formed : (groups : List Group) → missing groups ≡ None → bad_value groups ≡ None → is_short (compatible_of groups) ≡ true
compatible_formed groups there fine =
    let v = present groups (codes "system") (codes "compatible") (compatible_there groups there) in
    ap (λ (o : Option Text). is_short (unwrap_or o [])) v.1 ∙ formed_there groups fine (codes "system") (codes "compatible") v.0 v.1 form.Compatible refl

mount_prefix_formed : (groups : List Group) → is_path (mount_prefix_of groups) ≡ true
mount_prefix_formed groups =
    let given = unwrap_or (value_with_form groups form.Directory (codes "system") (codes "mountprefix")) (codes "/mnt/rauc/") in
    (and_parts (nat_le (length given) 4096) (is_path (without_slash given)) (passes_or is_directory (get_in groups (codes "system") (codes "mountprefix")) (codes "/mnt/rauc/") refl)).1

data_directory_formed : (groups : List Group) → is_path_if_any (data_directory_of groups) ≡ true
data_directory_formed groups = go (get_in groups (codes "system") (codes "data-directory"))
  where
    go : (o : Option Text) → is_path_if_any (option_map without_slash (keep_if is_directory o)) ≡ true
    go None = refl
    go (Some v) = kept_if is_directory v (λ (o : Option Text). is_path_if_any (option_map without_slash o) ≡ true) (λ e. (and_parts (nat_le (length v) 4096) (is_path (without_slash v)) e).1) refl

pub same_bytes : (text : Text) → bytes_eq text text ≡ true
same_bytes text = (bytes_eq-Decides text text).1 refl

pub or_true : (a b : Bool) → b ≡ true → (a || b) ≡ true
or_true true b h = refl
or_true false b h = h

-- the status file is a path, or the file that this directory has
abbrev status_at : Option Text → Option Text → Bool
status_at d o = option_map_or (λ path. is_path path || is_at (option_map central_file d) path) o true

status_formed : (groups : List Group) → status_at (data_directory_of groups) (status_file_of groups) ≡ true
status_formed groups = go (get_in groups (codes "system") (codes "statusfile")) (data_directory_of groups)
  where
    own : (d : Option Text) → status_at d (option_map central_file d) ≡ true
    own (Some d) = or_true (is_path (central_file d)) _ (same_bytes (central_file d))
    own None = refl

    go : (o d : Option Text) → status_at d (or_else (keep_if is_path o) (option_map central_file d)) ≡ true
    go None d = own d
    go (Some v) d = kept_if is_path v (λ (o : Option Text). status_at d (or_else o (option_map central_file d)) ≡ true) (λ e. ap (λ b. b || is_at (option_map central_file d) v) e) (own d)

pub values_formed : (groups : List Group) → missing groups ≡ None → bad_value groups ≡ None → are_values_formed (configuration groups) ≡ true
unfolding configuration
values_formed groups there fine = λ i.
    compatible_formed groups there fine i && (mount_prefix_formed groups i && (status_formed groups i && (data_directory_formed groups i
    && (passes_if_any is_path (get_in groups (codes "handlers") (codes "pre-install")) i && (passes_if_any is_path (get_in groups (codes "handlers") (codes "post-install")) i && true)))))

-- ---- the programs for bundles, and the boot loader

pub helpers_formed : (groups : List Group) → are_helpers_formed (helpers_of groups) ≡ true
helpers_formed groups = λ i.
    passes_or is_path (get_in groups (codes "x-helpers") (codes "bundle-check")) (codes "/usr/libexec/rauc/bundle-check") refl i
    && (passes_or is_path (get_in groups (codes "x-helpers") (codes "bundle-mount")) (codes "/usr/libexec/rauc/bundle-mount") refl i
    && passes_or is_path (get_in groups (codes "x-helpers") (codes "bundle-umount")) (codes "/usr/libexec/rauc/bundle-umount") refl i)

program_formed : (groups : List Group) → missing groups ≡ None → bad_value groups ≡ None → bytes_eq (loader_of groups) (codes "custom") ≡ true → is_path (custom_program_of groups) ≡ true
program_formed groups there fine custom =
    let v = present groups (codes "handlers") (codes "bootloader-custom-backend") (custom_key_there groups there custom) in
    let is = formed_there groups fine (codes "handlers") (codes "bootloader-custom-backend") v.0 v.1 form.Path refl in
    ap (λ (o : Option Text). is_path (unwrap_or o [])) (keep_if_all is_path (get_in groups (codes "handlers") (codes "bootloader-custom-backend")) v.0 v.1 is) ∙ is

pub boot_formed : (groups : List Group) → missing groups ≡ None → bad_value groups ≡ None → is_boot_formed (boot_of groups) ≡ true
boot_formed groups there fine =
    go (bytes_eq (loader_of groups) (codes "grub")) (bytes_eq (loader_of groups) (codes "uboot")) (bytes_eq (loader_of groups) (codes "barebox")) (bytes_eq (loader_of groups) (codes "efi")) (bytes_eq (loader_of groups) (codes "custom")) refl
  where
    both : (are_attempts (attempts_in groups (codes "boot-attempts")) && are_attempts (attempts_in groups (codes "boot-attempts-primary"))) ≡ true
    both = λ i. attempts_formed groups (codes "boot-attempts") i && attempts_formed groups (codes "boot-attempts-primary") i

    go : (p q r s t : Bool) → bytes_eq (loader_of groups) (codes "custom") ≡ t
        → is_boot_formed (cond p (boot.Grub (grubenv_of groups)) (cond q (boot.Uboot (attempts_in groups (codes "boot-attempts")) (attempts_in groups (codes "boot-attempts-primary")))
        (cond r (boot.Barebox (get_in groups (codes "system") (codes "barebox-statename")) (attempts_in groups (codes "boot-attempts")) (attempts_in groups (codes "boot-attempts-primary")))
        (cond s (boot.Efi (flag_in groups (codes "system") (codes "efi-use-bootnext") true)) (cond t (boot.Custom (custom_program_of groups)) boot.Noop)))))
        ≡ true
    go true q r s t e = passes_or is_path (get_in groups (codes "system") (codes "grubenv")) (codes "/boot/grub/grubenv") refl
    go false true r s t e = both
    go false false true s t e = both
    go false false false true t e = refl
    go false false false false true e = program_formed groups there fine e
    go false false false false false e = refl

-- ---- the slots

device_known : (g : Text) → is_slot_group g ≡ true → form_of system_table g (codes "device") ≡ Some form.Path
device_known g h = ap (λ (t : Text). form_of system_table t (codes "device")) (group_is g h)

device_formed : (groups : List Group) → bad_value groups ≡ None → (g : Text) → is_slot_group g ≡ true → missing_key groups (g, codes "device") ≡ None → is_path (device_of groups g) ≡ true
device_formed groups fine g is_one there =
    let v = present groups g (codes "device") there in
    let is = formed_there groups fine g (codes "device") v.0 v.1 form.Path (device_known g is_one) in
    ap (λ (o : Option Text). is_path (unwrap_or o [])) (keep_if_all is_path (get_in groups g (codes "device")) v.0 v.1 is) ∙ is

word_is : (word : Text) → is_among slot_types word ≡ true → is_among slot_types (word_of (kind_with word)) ≡ true
word_is word h =
    elim (bytes_eq word (codes "raw")) as (λ b. is_among slot_types (word_of (cond b slot.Raw (cond (bytes_eq word (codes "ext4")) slot.Ext4 (cond (bytes_eq word (codes "vfat")) slot.Vfat (slot.Unwritten word))))) ≡ true) [
      | true ↦ refl
      | false ↦ elim (bytes_eq word (codes "ext4")) as (λ b. is_among slot_types (word_of (cond b slot.Ext4 (cond (bytes_eq word (codes "vfat")) slot.Vfat (slot.Unwritten word)))) ≡ true) [
        | true ↦ refl
        | false ↦ elim (bytes_eq word (codes "vfat")) as (λ b. is_among slot_types (word_of (cond b slot.Vfat (slot.Unwritten word))) ≡ true) [ true ↦ refl | false ↦ h ]
      ]
    ]

slot_formed : (groups : List Group) → bad_value groups ≡ None → (g : Text) → is_slot_group g ≡ true → missing_key groups (g, codes "device") ≡ None → is_slot_formed (slot_of groups g) ≡ true
slot_formed groups fine g is_one there = let named = slot_named_so g is_one in λ i.
    ((bytes_eq-Decides (name_of g) _).1 named.0 i && (named.1 i && named.2 i))
    && (device_formed groups fine g is_one there i && (word_is (unwrap_or (value_with_form groups form.SlotType g (codes "type")) (codes "raw")) (passes_or (is_among slot_types) (get_in groups g (codes "type")) (codes "raw") refl) i
    && passes_if_any is_bootname (get_in groups g (codes "bootname")) i))

pub slots_formed : (groups : List Group) → missing groups ≡ None → bad_value groups ≡ None → list_all is_slot_formed (slots_of groups) ≡ true
slots_formed groups there fine = each (map (λ (g : Group). g.0) groups) (device_keys_there groups there)
  where
    each : (names : List Text) → first_of (λ (g : Text). missing_key groups (g, codes "device")) (filter is_slot_group names) ≡ None → list_all is_slot_formed (map (slot_of groups) (filter is_slot_group names)) ≡ true
    each [] none = refl
    each (g ∷ names) none =
        let rest : first_of (λ (h : Text). missing_key groups (h, codes "device")) (filter is_slot_group names) ≡ None → list_all is_slot_formed (map (slot_of groups) (filter is_slot_group names)) ≡ true = λ n. each names n in
        elim (is_slot_group g) as (λ b. is_slot_group g ≡ b → first_of (λ (h : Text). missing_key groups (h, codes "device")) (cond b (g ∷ filter is_slot_group names) (filter is_slot_group names)) ≡ None
        → list_all is_slot_formed (map (slot_of groups) (cond b (g ∷ filter is_slot_group names) (filter is_slot_group names))) ≡ true) [
          | true ↦ λ p n.
              let parts = both_none (missing_key groups (g, codes "device")) (first_of (λ (h : Text). missing_key groups (h, codes "device")) (filter is_slot_group names)) n in
              λ i. slot_formed groups fine g p parts.0 i && rest parts.1 i
          | false ↦ λ p n. rest n
        ] refl none

-- ---- the refusals that do not hold

pub missing_none : (groups : List Group) → None ≡ first_some (group_refusals groups) → missing groups ≡ None
missing_none groups h = left_none (missing groups) _ h

pub bad_value_none : (groups : List Group) → None ≡ first_some (group_refusals groups) → bad_value groups ≡ None
bad_value_none groups h = left_none (bad_value groups) _ (right_none (left_out groups) _ (right_none (unknown_key groups) _ (right_none (missing groups) _ h)))
