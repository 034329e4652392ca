-- Which slot is booted, and what that makes of the others.
use Rattle.std.specs.Prelude.{◌≡◌, ℕ, ◌==◌, List, codes, map, length, position, slice_get, MatchBool, Option, Some, None, option_and_then, if◌then◌else◌}
use Rattle.std.specs.List.{range_with_len}
use Rattle.std.specs.Str.{bytes_eq}
use Rattle.conf_forms.specs.Lists.{or_else}
use Rattle.system_conf.specs.Parents.{IsRootOf}
use Rattle.system_conf.specs.Values.{is_at}
use Rattle.system_conf.specs.declared.slot.Slot.{Slot}
use Rattle.slot_graph.specs.Kernel.{has_word, value_behind}
use Rattle.system_conf.specs.Slots.{root_over}
use Rattle.slot_graph.specs.declared.state.Booted.{Booted}
use Rattle.slot_graph.specs.declared.state.Booted.TheVariants as booted
use Rattle.slot_graph.specs.declared.state.SlotState.{SlotState}
use Rattle.slot_graph.specs.declared.state.SlotState.TheVariants as state

-- ---- the slot that is meant

-- by a name: the one with this bootname, else the one of this name
abbrev pub slot_meant : List Slot → List ℕ → Option ℕ
slot_meant slots name = or_else (position (λ s. is_at s.bootname name) slots) (position (λ s. bytes_eq s.name name) slots)

-- by a device
abbrev pub slot_on : List Slot → List ℕ → Option ℕ
slot_on slots device = position (λ s. bytes_eq s.device device) slots

-- by what follows `rauc.slot=`, or else by the device that follows `root=`
abbrev pub slot_told : List Slot → Option (List ℕ) → Option (List ℕ) → Option ℕ
slot_told slots (Some name) device = slot_meant slots name
slot_told slots None device = option_and_then (slot_on slots) device

-- by the kernel's command line
abbrev pub slot_in_line : List Slot → List ℕ → Option ℕ
slot_in_line slots line = slot_told slots (value_behind line (codes "rauc.slot=")) (value_behind line (codes "root="))

-- ---- what is booted

-- the root of the slot that is meant; it is not known where none is
abbrev pub IsRootBooted : List Slot → Option ℕ → Booted → Type 0
IsRootBooted slots (Some at) (booted.Slot root) = IsRootOf slots at root
IsRootBooted slots (Some at) b = ⊥
IsRootBooted slots None b = b ≡ booted.Unknown

-- by the kernel's command line: no slot where it says so, else the root of the slot that it means
abbrev pub IsBootedByLine : List Slot → List ℕ → Booted → Type 0
IsBootedByLine slots line b =
    MatchBool (has_word line (codes "rauc.external")) (b ≡ booted.External) (IsRootBooted slots (slot_in_line slots line) b)

-- by a given name, or else by the command line
abbrev pub IsBooted : List Slot → List ℕ → Option (List ℕ) → Booted → Type 0
IsBooted slots line (Some name) b = IsRootBooted slots (slot_meant slots name) b
IsBooted slots line None b = IsBootedByLine slots line b

-- the same as values
abbrev pub root_booted : List Slot → Option ℕ → Booted
root_booted slots (Some at) = booted.Slot (root_over slots at)
root_booted slots None = booted.Unknown

abbrev pub booted_by : List Slot → List ℕ → Booted
booted_by slots line =
    if has_word line (codes "rauc.external") then booted.External else root_booted slots (slot_in_line slots line)

abbrev pub booted_of : List Slot → List ℕ → Option (List ℕ) → Booted
booted_of slots line (Some name) = root_booted slots (slot_meant slots name)
booted_of slots line None = booted_by slots line

-- ---- the states of the slots

-- the slot at a place is booted where it is the booted root, active where it lies under that root, and else inactive
abbrev pub HasState : List Slot → Booted → ℕ → SlotState → Type 0
HasState slots (booted.Slot root) at state.Booted = at ≡ root
HasState slots (booted.Slot root) at state.Active = IsRootOf slots at root × ¬ (at ≡ root)
HasState slots (booted.Slot root) at state.Inactive = ¬ IsRootOf slots at root × ¬ (at ≡ root)
HasState slots b at s = s ≡ state.Inactive

-- each slot has its state in a list of them
pub record AreStates (slots : List Slot) (b : Booted) (states : List SlotState) : Type 0 where
  pub all : length states ≡ length slots
  pub each : (at : ℕ) (s : SlotState) → slice_get states at ≡ Some s → HasState slots b at s

-- the same as values
abbrev pub state_of : List Slot → Booted → ℕ → SlotState
state_of slots (booted.Slot root) at = if at == root then state.Booted else (if root_over slots at == root then state.Active else state.Inactive)
state_of slots booted.External at = state.Inactive
state_of slots booted.Unknown at = state.Inactive

abbrev pub states_of : List Slot → Booted → List SlotState
states_of slots b = map (state_of slots b) (range_with_len 0 (length slots))
