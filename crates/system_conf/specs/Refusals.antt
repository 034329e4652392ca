-- The refusals of a configuration, each by what holds of the whole list of its groups, and the configuration where none holds.
use Rattle.std.specs.Prelude.{ℕ, Bool, true, ◌&&◌, not, nat_eq, nat_lt, List, [], ◌∷◌, ◌++◌, codes, length, Option, Some, None, is_some, option_map, Result, Ok, Err, if◌then◌else◌}
use Rattle.std.specs.Option.{option_map_or}
use Rattle.std.specs.List.{enumerate_from, starts_with}
use Rattle.keyfile.specs.Groups.{Text, Group, get_in}
use Rattle.conf_forms.specs.Lists.{first_of}
use Rattle.conf_forms.specs.SlotNames.{name_of, is_slot_group, slot_groups}
use Rattle.conf_forms.specs.Walks.{first_bad, first_left_out, first_unknown}
use Rattle.system_conf.specs.Configuration.{Configuration, configuration}
use Rattle.system_conf.specs.Conflicts.{is_conflict}
use Rattle.system_conf.specs.Duplicates.{first_pair, has_same_bootname, has_same_device}
use Rattle.system_conf.specs.KeyTable.{system_table}
use Rattle.system_conf.specs.Mandatory.{first_missing}
use Rattle.system_conf.specs.OwnFiles.{own_device, own_files_of}
use Rattle.system_conf.specs.Slots.{slot_called, slots_of, chain_ends}
use Rattle.system_conf.specs.declared.conf_refusal.ConfRefusal.{ConfRefusal}
use Rattle.system_conf.specs.declared.conf_refusal.ConfRefusal.TheVariants as refusal
use Rattle.system_conf.specs.declared.slot.Slot.{Slot}

-- ---- groups, keys and values

-- a mandatory key has no value
unfoldable pub missing : List Group → Option ConfRefusal
missing groups = option_map (λ p. refusal.Missing p.0 p.1) (first_missing groups)

-- the table of a configuration does not know a group or key
unfoldable pub unknown_key : List Group → Option ConfRefusal
unknown_key groups = option_map (λ p. refusal.UnknownKey p.0 p.1) (first_unknown system_table groups)

-- a group, key or value is left out
unfoldable pub left_out : List Group → Option ConfRefusal
left_out groups = option_map (λ p. refusal.LeftOut p.0 p.1) (first_left_out system_table groups)

-- a value does not have its form, or names a place that is taken
unfoldable pub bad_value : List Group → Option ConfRefusal
bad_value groups = option_map (λ p. refusal.BadValue p.0 p.1) (first_bad system_table (is_conflict groups) groups)

-- ---- names of slots

-- the group begins as a slot's, and is none
abbrev pub is_bad_slot_group : Text → Bool
is_bad_slot_group group = starts_with nat_eq group (codes "slot.") && not (is_slot_group group)

abbrev pub bad_name_of : Group → Option ConfRefusal
bad_name_of g = if is_bad_slot_group g.0 then Some (refusal.BadSlotName g.0) else None

-- a group begins as a slot's, and is none
unfoldable pub bad_slot_name : List Group → Option ConfRefusal
bad_slot_name = first_of bad_name_of

-- ---- the slots

-- there are more than 64
unfoldable pub too_many : List Slot → Option ConfRefusal
too_many slots = if nat_lt 64 (length slots) then Some (refusal.TooMany (length slots)) else None

-- two have one device
unfoldable pub same_device : List Slot → Option ConfRefusal
same_device slots = option_map (λ p. refusal.SameDevice p.0 p.1) (first_pair has_same_device slots)

-- two have one bootname
unfoldable pub same_bootname : List Slot → Option ConfRefusal
same_bootname slots = option_map (λ p. refusal.SameBootName p.0 p.1) (first_pair has_same_bootname slots)

-- the parent of a group's slot, where it has one, is a slot
abbrev pub has_parent : List Group → Text → Bool
has_parent groups group = option_map_or (λ name. is_some (slot_called groups name)) (get_in groups group (codes "parent")) true

-- the slot of a group, where its parent names no slot
abbrev pub orphan : List Group → Text → Option ConfRefusal
orphan groups group = if has_parent groups group then None else Some (refusal.NoParent (name_of group))

-- the parent of one names no slot
unfoldable pub no_parent : List Group → Option ConfRefusal
no_parent groups = first_of (orphan groups) (slot_groups groups)

-- a slot at its place, where its chain of parents does not end
abbrev pub endless : List Slot → ℕ × Slot → Option ConfRefusal
endless slots s = if chain_ends slots s.0 then None else Some (refusal.ParentCycle s.1.name)

-- the chain of parents of one does not end
unfoldable pub parent_cycle : List Slot → Option ConfRefusal
parent_cycle slots = first_of (endless slots) (enumerate_from 0 slots)

-- a slot with both a parent and a bootname
abbrev pub bootable_child : Slot → Option ConfRefusal
bootable_child s = if is_some s.parent && is_some s.bootname then Some (refusal.ChildBootName s.name) else None

-- one has both a parent and a bootname
unfoldable pub child_boot_name : List Slot → Option ConfRefusal
child_boot_name = first_of bootable_child

-- the device of one is a file of the updater, or lies where it keeps files
unfoldable pub device_is_file : List Group → List Slot → Option ConfRefusal
device_is_file groups slots = option_map (λ name. refusal.DeviceIsFile name) (first_of (own_device (own_files_of groups)) slots)

-- ---- in their order

-- the refusals by the groups
abbrev pub group_refusals : List Group → List (Option ConfRefusal)
group_refusals groups =
    missing groups
    ∷ unknown_key groups
    ∷ left_out groups
    ∷ bad_value groups
    ∷ bad_slot_name groups ∷ []

-- and those by the slots
abbrev pub slot_refusals : List Group → List Slot → List (Option ConfRefusal)
slot_refusals groups slots =
    too_many slots
    ∷ same_device slots
    ∷ same_bootname slots
    ∷ no_parent groups
    ∷ parent_cycle slots
    ∷ child_boot_name slots
    ∷ device_is_file groups slots ∷ []

-- the first that holds
abbrev pub first_some : List (Option ConfRefusal) → Option ConfRefusal
first_some = first_of (λ refusal. refusal)

abbrev pub first_refusal : List Group → Option ConfRefusal
first_refusal groups = first_some (group_refusals groups ++ slot_refusals groups (slots_of groups))

abbrev pub unless_refused : Option ConfRefusal → Configuration → Result Configuration ConfRefusal
unless_refused None conf = Ok conf
unless_refused (Some why) conf = Err why

-- the first refusal that holds, or else the configuration
abbrev pub system_of : List Group → Result Configuration ConfRefusal
system_of groups = unless_refused (first_refusal groups) (configuration groups)
