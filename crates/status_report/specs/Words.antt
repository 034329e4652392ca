-- The words for what is told of a slot.
use Rattle.std.specs.Prelude.{ℕ, ◌==◌, Bool, List, [], ◌++◌, codes, decimal, Option, None, option_map, slice_get, slice_index_or, if◌then◌else◌}
use Rattle.std.specs.List.{join_by, range_with_len}
use Rattle.std.specs.Option.{option_map_or}
use Rattle.keyfile.specs.Groups.{Text}
use Rattle.slot_graph.specs.declared.state.Booted.{Booted}
use Rattle.slot_graph.specs.declared.state.Booted.TheVariants as booted
use Rattle.slot_graph.specs.declared.state.SlotState.{SlotState}
use Rattle.slot_graph.specs.declared.state.SlotState.TheVariants as state
use Rattle.system_conf.specs.declared.slot.Slot.{Slot}
use Rattle.status_report.specs.declared.view.StatusView.{StatusView}

-- the state of a slot
abbrev pub state_word : SlotState → Text
state_word state.Booted = codes "booted"
state_word state.Active = codes "active"
state_word state.Inactive = codes "inactive"

-- the state at a place; where none is told, the slot does not run
abbrev pub state_at : StatusView → ℕ → Text
state_at v at = state_word (slice_index_or v.states at state.Inactive)

-- whether the boot loader may boot a slot
abbrev pub good_word : Bool → Text
good_word good = if good then codes "good" else codes "bad"

-- the same at a place, where it is told
abbrev pub boot_status_at : StatusView → ℕ → Option Text
boot_status_at v at = option_map good_word (slice_index_or v.good at None)

-- what is booted, and which slot is primary, where a name tells a slot
abbrev pub booted_word : (ℕ → Text) → Booted → Text
booted_word shown (booted.Slot at) = shown at
booted_word shown booted.External = codes "external"
booted_word shown booted.Unknown = codes "unknown"

-- a slot for a reader, with its bootname in brackets
abbrev pub shown_slot : Slot → Text
shown_slot s = s.name ++ option_map_or (λ name. codes " (" ++ (name ++ codes ")")) s.bootname []

abbrev pub shown_at : List Slot → ℕ → Text
shown_at slots at = option_map_or shown_slot (slice_get slots at) []

-- a time, and how often until then
abbrev pub time_word : ℕ → Text → Text
time_word count time = time ++ (codes " (" ++ (decimal count ++ codes ")"))

-- the numbers of slots, from 1
abbrev pub numbers : ℕ → Text
numbers count = join_by decimal (codes " ") (range_with_len 1 count)

-- one of them, with a blank before it where it is not the first
abbrev pub next_number : ℕ → Text
next_number number = if number == 1 then decimal number else codes " " ++ decimal number
