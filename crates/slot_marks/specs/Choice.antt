-- Which slot is to be marked.
use Rattle.std.specs.Prelude.{ℕ, ◌==◌, Bool, false, not, ◌&&◌, List, [], ◌∷◌, codes, filter, length, position, slice_get, is_none, is_some, Option, Some, None, option_and_then, Result, Ok, Err, if◌then◌else◌}
use Rattle.std.specs.List.{range_with_len}
use Rattle.std.specs.Option.{option_map_or}
use Rattle.std.specs.Str.{bytes_eq}
use Rattle.system_conf.specs.declared.slot.Slot.{Slot}
use Rattle.slot_graph.specs.declared.state.Booted.{Booted}
use Rattle.slot_graph.specs.declared.state.Booted.TheVariants as booted
use Rattle.slot_marks.specs.declared.refusal.MarkRefusal.{MarkRefusal}
use Rattle.slot_marks.specs.declared.refusal.MarkRefusal.TheVariants.{NoSuchSlot, NoOther, ManyOther, NoBootName}

-- ---- the words that name a slot

-- the booted root
abbrev pub asks_booted : List ℕ → Bool
asks_booted who = bytes_eq who (codes "booted")

-- the other root of its class
abbrev pub asks_other : List ℕ → Bool
asks_other who = bytes_eq who (codes "other")

-- ---- the other roots

-- a root of this class that has a bootname
abbrev pub is_bootable_root : List ℕ → Slot → Bool
is_bootable_root class s = is_none s.parent && (is_some s.bootname && bytes_eq s.class class)

-- the class of the slot at a place
abbrev pub class_at : List Slot → ℕ → List ℕ
class_at slots at = option_map_or (λ s. s.class) (slice_get slots at) []

-- at this place stands another root of the class of the one at the first place, with a bootname
abbrev pub is_other : List Slot → ℕ → ℕ → Bool
is_other slots root at =
    not (at == root) && option_map_or (is_bootable_root (class_at slots root)) (slice_get slots at) false

-- the places of all such roots
abbrev pub others : List Slot → ℕ → List ℕ
others slots root = filter (is_other slots root) (range_with_len 0 (length slots))

-- ---- the slot that is meant

-- the one of these places, where there is one only
abbrev pub only_one : List ℕ → Result ℕ MarkRefusal
only_one [] = Err NoOther
only_one (at ∷ []) = Ok at
only_one (at ∷ more) = Err (ManyOther (length (at ∷ more)))

-- the booted root, for what was asked by this word
abbrev pub root_of : Booted → List ℕ → Result ℕ MarkRefusal
root_of (booted.Slot root) who = Ok root
root_of booted.External who = Err (NoSuchSlot who)
root_of booted.Unknown who = Err (NoSuchSlot who)

-- the other root
abbrev pub other_of : List Slot → Booted → List ℕ → Result ℕ MarkRefusal
other_of slots (booted.Slot root) who = only_one (others slots root)
other_of slots booted.External who = Err (NoSuchSlot who)
other_of slots booted.Unknown who = Err (NoSuchSlot who)

-- a place, where there is one
abbrev pub found : Option ℕ → List ℕ → Result ℕ MarkRefusal
found (Some at) who = Ok at
found None who = Err (NoSuchSlot who)

-- the slot of this name
abbrev pub named : List Slot → List ℕ → Result ℕ MarkRefusal
named slots who = found (position (λ s. bytes_eq s.name who) slots) who

-- the slot that a word names, with or without a bootname
abbrev pub meant : List Slot → Booted → List ℕ → Result ℕ MarkRefusal
meant slots b who =
    if asks_booted who then root_of b who else (if asks_other who then other_of slots b who else named slots who)

-- ---- with a bootname

-- the bootname of the slot at a place
abbrev pub bootname_at : List Slot → ℕ → Option (List ℕ)
bootname_at slots at = option_and_then (λ s. s.bootname) (slice_get slots at)

-- the slot at a place, where it has a bootname
abbrev pub with_bootname : List Slot → Result ℕ MarkRefusal → Result ℕ MarkRefusal
with_bootname slots (Ok at) = if is_some (bootname_at slots at) then Ok at else Err (NoBootName at)
with_bootname slots (Err why) = Err why

-- the slot to be marked, or the first reason why there is none
abbrev pub chosen : List Slot → Booted → List ℕ → Result ℕ MarkRefusal
chosen slots b who = with_bootname slots (meant slots b who)
