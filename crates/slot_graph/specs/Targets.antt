-- The slots that an update goes to: of each class of roots the one of least index that does not run.
use Rattle.std.specs.Prelude.{◌≡◌, ◌≤◌, ◌↔◌, ℕ, Bool, true, false, ◌&&◌, ◌||◌, not, nat_eq, nat_le, List, Contains, filter, find, length, map, Option, Some, is_none, option_map, slice_get}
use Rattle.std.specs.List.{IsDistinct, filter_map, list_all, range_with_len}
use Rattle.std.specs.Option.{option_map_or}
use Rattle.std.specs.Str.{bytes_eq}
use Rattle.keyfile.specs.Groups.{Text}
use Rattle.keyfile.specs.Reading.{distinct}
use Rattle.system_conf.specs.Parents.{IsRoot}
use Rattle.system_conf.specs.declared.slot.Slot.{Slot}
use Rattle.slot_graph.specs.declared.state.SlotState.{SlotState}
use Rattle.slot_graph.specs.declared.state.SlotState.TheVariants as state

-- the index of the slot at a place
abbrev pub index_at : List Slot → ℕ → ℕ
index_at slots at = option_map_or (λ s. s.index) (slice_get slots at) 0

-- a free root of a class stands at a place: a slot of the class, without parent and inactive
pub record IsFreeRoot (slots : List Slot) (states : List SlotState) (class : Text) (at : ℕ) : Type 0 where
  pub of_class : option_map (λ s. s.class) (slice_get slots at) ≡ Some class
  pub root : IsRoot slots at
  pub inactive : slice_get states at ≡ Some state.Inactive

-- the target of a class: of its free roots the one of least index
pub record IsTarget (slots : List Slot) (states : List SlotState) (class : Text) (at : ℕ) : Type 0 where
  pub free : IsFreeRoot slots states class at
  pub least : (other : ℕ) → IsFreeRoot slots states class other → index_at slots at ≤ index_at slots other

-- the targets of all classes stand at these places, each once
pub record AreTargets (slots : List Slot) (states : List SlotState) (places : List ℕ) : Type 0 where
  pub all : (at : ℕ) → Contains places at ↔ ((class : Text) × IsTarget slots states class at)
  pub once : IsDistinct nat_eq places

-- ---- the same as values

-- a root of this class
abbrev pub is_root_of : Text → Slot → Bool
is_root_of class s = is_none s.parent && bytes_eq s.class class

abbrev pub is_inactive : SlotState → Bool
is_inactive state.Inactive = true
is_inactive _ = false

abbrev pub is_free_root : List Slot → List SlotState → Text → ℕ → Bool
is_free_root slots states class at =
    option_map_or (is_root_of class) (slice_get slots at) false && option_map_or is_inactive (slice_get states at) false

-- the slot at the second place is no free root of the class with a lower index than the one at the first
abbrev pub is_no_better : List Slot → List SlotState → Text → ℕ → ℕ → Bool
is_no_better slots states class at other = not (is_free_root slots states class other) || nat_le (index_at slots at) (index_at slots other)

-- no slot is better
abbrev pub is_least : List Slot → List SlotState → Text → ℕ → Bool
is_least slots states class at = list_all (is_no_better slots states class at) (range_with_len 0 (length slots))

abbrev pub is_target : List Slot → List SlotState → Text → ℕ → Bool
is_target slots states class at = is_free_root slots states class at && is_least slots states class at

-- the place of a class's target, where it has one
unfoldable pub target_of : List Slot → List SlotState → Text → Option ℕ
target_of slots states class = find (is_target slots states class) (range_with_len 0 (length slots))

-- the classes of the roots, each once, in the order of their first roots
unfoldable pub root_classes : List Slot → List Text
root_classes slots = distinct (map (λ s. s.class) (filter (λ s. is_none s.parent) slots))

-- the targets of these classes
unfoldable pub targets_of : List Slot → List SlotState → List ℕ
targets_of slots states = filter_map (target_of slots states) (root_classes slots)
