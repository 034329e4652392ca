-- The slots of a configuration.
use Rattle.std.specs.Prelude.{ℕ, Bool, false, true, List, [], codes, length, map, zero, suc, slice_get, position, Option, is_none, option_and_then, option_map, unwrap_or, if◌then◌else◌}
use Rattle.std.specs.Option.{option_map_or}
use Rattle.std.specs.Str.{bytes_eq}
use Rattle.keyfile.specs.Groups.{Text, Group, get_in}
use Rattle.conf_forms.specs.SlotNames.{name_of, class_of, index_of, index_in, slot_groups, slot_names}
use Rattle.conf_forms.specs.declared.form.Form.TheVariants as form
use Rattle.conf_forms.specs.Values.{value_with_form}
use Rattle.system_conf.specs.Values.{flag_in}
use Rattle.system_conf.specs.declared.slot.Slot.{Slot}
use Rattle.system_conf.specs.declared.slot.SlotKind.{SlotKind}
use Rattle.system_conf.specs.declared.slot.SlotKind.TheVariants as slot

-- the configured word of a type
abbrev pub word_of : SlotKind → Text
word_of slot.Raw = codes "raw"
word_of slot.Ext4 = codes "ext4"
word_of slot.Vfat = codes "vfat"
word_of (slot.Unwritten word) = word

-- the type with this word
abbrev pub kind_with : Text → SlotKind
kind_with word =
    if bytes_eq word (codes "raw") then slot.Raw
    else (if bytes_eq word (codes "ext4") then slot.Ext4
    else (if bytes_eq word (codes "vfat") then slot.Vfat
    else slot.Unwritten word))

-- the place of the slot of this name
abbrev pub slot_called : List Group → Text → Option ℕ
slot_called groups name = position (λ n. bytes_eq n name) (slot_names groups)

-- the device of a slot
abbrev pub device_of : List Group → Text → Text
device_of groups group = unwrap_or (value_with_form groups form.Path group (codes "device")) []

-- the type of a slot
abbrev pub type_of : List Group → Text → SlotKind
type_of groups group = kind_with (unwrap_or (value_with_form groups form.SlotType group (codes "type")) (codes "raw"))

-- the place of a slot's parent
abbrev pub parent_of : List Group → Text → Option ℕ
parent_of groups group = option_and_then (slot_called groups) (get_in groups group (codes "parent"))

-- the slot of a group
abbrev pub slot_of : List Group → Text → Slot
slot_of groups group = record {
  name = name_of group;
  class = class_of group;
  index = unwrap_or (index_in (index_of group)) 0;
  device = device_of groups group;
  kind = type_of groups group;
  bootname = value_with_form groups form.BootName group (codes "bootname");
  parent = parent_of groups group;
  allow_mounted = flag_in groups group (codes "allow-mounted") false;
  readonly = flag_in groups group (codes "readonly") false;
  install_same = flag_in groups group (codes "install-same") true;
}

-- the slots, in file order
abbrev pub slots_of : List Group → List Slot
slots_of groups = map (slot_of groups) (slot_groups groups)

-- the name of the slot at a place; none has the empty name
abbrev pub name_at : List Slot → ℕ → Text
name_at slots at = option_map_or (λ s. s.name) (slice_get slots at) []

-- the name of the slot that a slot belongs to
abbrev pub parent_name : List Slot → Slot → Option Text
parent_name slots s = option_map (name_at slots) s.parent

-- the parent of the slot at a place
abbrev pub parent_at : List Slot → ℕ → Option ℕ
parent_at slots at = option_and_then (λ s. s.parent) (slice_get slots at)

-- the slot so many steps up the chain of parents, or where the chain ends before
abbrev pub climb : List Slot → ℕ → ℕ → ℕ
climb slots zero at = at
climb slots (suc steps) at = option_map_or (climb slots steps) (parent_at slots at) at

-- the root over the slot at a place: where its chain of parents ends, which takes fewer steps than there are slots
abbrev pub root_over : List Slot → ℕ → ℕ
root_over slots at = climb slots (length slots) at

-- the chain of parents ends: what lies at its end has no parent
abbrev pub chain_ends : List Slot → ℕ → Bool
chain_ends slots at = is_none (parent_at slots (root_over slots at))
