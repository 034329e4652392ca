-- The groups of slots, and the parts of their names.
use Rattle.std.specs.Prelude.{◌≡◌, ℕ, ◌==◌, ◌^◌, Bool, true, false, ◌&&◌, ◌||◌, not, nat_lt, nat_eq, List, codes, length, drop, filter, map, slice_index, Option, Some, None, is_some, unwrap_or, if◌then◌else◌}
use Rattle.std.specs.Borrow.{Bor}
use Rattle.std.specs.List.{starts_with, before_first, after_first}
use Rattle.updater_text.specs.Numbers.{number_of}
use Rattle.keyfile.specs.Groups.{Text, Group}
use Rattle.conf_forms.specs.Classes.{is_class}
use Rattle.conf_forms.specs.Lists.{keep_if}
use Rattle.conf_forms.specs.declared.slot_name.SlotGroup.{SlotGroup}

-- the index that a text spells: a decimal number below 2^32 without leading zeros
abbrev pub index_in : Text → Option ℕ
index_in text = if (length text == 1) || not (slice_index text 0 == 48) then keep_if (λ n. nat_lt n (2 ^ 32)) (number_of text) else None

-- what stands before the first dot of a slot's name, and after it
abbrev pub class_in_name : Text → Text
class_in_name name = before_first (λ b. b == 46) name

abbrev pub index_in_name : Text → Text
index_in_name name = after_first (λ b. b == 46) name

-- `<class>.<index>`
abbrev pub is_slot_name : Text → Bool
is_slot_name name = is_class (class_in_name name) && is_some (index_in (index_in_name name))

-- the class and the index of a slot's name, where the text is one
abbrev pub IsSplitName : Text → Option (Bor Text × ℕ) → Type 0
IsSplitName name None = is_slot_name name ≡ false
IsSplitName name (Some p) = (is_slot_name name ≡ true) × (p.0.now ≡ class_in_name name) × (index_in (index_in_name name) ≡ Some p.1)

-- the name of a slot, and what stands before its first dot and after it, by the slot's group
abbrev pub name_of : Text → Text
name_of group = drop 5 group

abbrev pub class_of : Text → Text
class_of group = class_in_name (name_of group)

abbrev pub index_of : Text → Text
index_of group = index_in_name (name_of group)

-- `slot.<class>.<index>`
abbrev pub is_slot_group : Text → Bool
is_slot_group group = starts_with nat_eq group (codes "slot.") && is_slot_name (name_of group)

-- the parts of a slot's group: itself, and the slot's name, class and index
abbrev pub parts_of : Text → Text × Text × Text × ℕ
parts_of group = (group, name_of group, class_of group, unwrap_or (index_in (index_of group)) 0)

abbrev pub parts : SlotGroup → Text × Text × Text × ℕ
parts s = (s.group.now, s.name.now, s.class.now, s.index)

-- the parts of a slot's group, where it is one
abbrev pub IsSlotGroup : Text → Option SlotGroup → Type 0
IsSlotGroup group None = is_slot_group group ≡ false
IsSlotGroup group (Some s) = (is_slot_group group ≡ true) × (parts s ≡ parts_of group)

-- the groups of the slots, in file order
abbrev pub slot_groups : List Group → List Text
slot_groups groups = filter is_slot_group (map (λ g. g.0) groups)

-- the parts of them
abbrev pub slot_parts : List Group → List (Text × Text × Text × ℕ)
slot_parts groups = map parts_of (slot_groups groups)

-- the names of the slots
abbrev pub slot_names : List Group → List Text
slot_names groups = map name_of (slot_groups groups)
