-- What is booted and mounted in a world, and that it keeps its bytes.
use Rattle.std.specs.Prelude.{◌≡◌, ◌≤◌, ◌⊎◌, ℕ, Bool, true, false, IsTrue, IfOk, List, [], codes, length, Option, Some, None, Result, Ok, Err, option_map, slice_get, bytes_eq, nat_le}
use Rattle.std.specs.List.{list_any}
use Rattle.updater_text.specs.Counts.{CountRose}
use Rattle.machine.specs.declared.calls.CallStop.{CallStop}
use Rattle.machine.specs.declared.calls.CallStop.TheVariants.{Failed, NoMemory}
use Rattle.machine.specs.declared.world.World.{World}
use Rattle.machine.specs.World.{file, disk_byte}
use Rattle.machine.specs.Crash.{is_in}
use Rattle.machine.specs.Past.{Past, world_now, Held}
use Rattle.conf_forms.specs.Lists.{keep_if}
use Rattle.system_conf.specs.Parents.{IsRootOf}
use Rattle.system_conf.specs.declared.slot.Slot.{Slot}
use Rattle.slot_graph.specs.declared.state.Booted.{Booted}
use Rattle.slot_graph.specs.declared.state.Booted.TheVariants as booted
use Rattle.slot_graph.specs.declared.state.SlotState.{SlotState}
use Rattle.slot_graph.specs.declared.state.SlotState.TheVariants as state
use Rattle.slot_graph.specs.declared.mounted.Mount.{Mount}
use Rattle.slot_graph.specs.Booted.{booted_of, state_of}
use Rattle.slot_graph.specs.Mounts.{mounts_of}

-- the bytes of a file, where there is one of at most so many
abbrev pub file_within : World → List ℕ → ℕ → Option (List ℕ)
file_within w path limit = keep_if (λ bytes. nat_le (length bytes) limit) (file w path)

-- where told, a call that gives a value gives this one
abbrev pub Answers : {T : Type 0} → Bool → T → Result T CallStop → Type 0
Answers tells answer result = IsTrue tells → IfOk result (λ given. given ≡ answer)

-- counts never fall, and a call fails only where that of faults rose; memory may be out beside the machine's calls too
abbrev pub FaultsCounted : {T : Type 0} → ℕ → ℕ → ℕ → ℕ → Result T CallStop → Type 0
FaultsCounted faults faults' wants wants' (Ok x) = (faults ≤ faults') × (wants ≤ wants')
FaultsCounted faults faults' wants wants' (Err Failed) = CountRose faults faults' × (wants ≤ wants')
FaultsCounted faults faults' wants wants' (Err NoMemory) = (faults ≤ faults') × (wants ≤ wants')

-- ---- what is booted

-- by the kernel's command line, where it can be read
abbrev pub booted_by_text : List Slot → Option (List ℕ) → Booted
booted_by_text slots (Some line) = booted_of slots line None
booted_by_text slots None = booted.Unknown

-- by a given name, whatever the kernel's command line, or else by that
abbrev pub what_runs : List Slot → Option (List ℕ) → World → Booted
what_runs slots (Some name) w = booted_of slots [] (Some name)
what_runs slots None w = booted_by_text slots (file_within w (codes "/proc/cmdline") 65536)

-- the slot at a place is the booted root, or lies under it
abbrev pub LiesInBooted : List Slot → Booted → ℕ → Type 0
LiesInBooted slots (booted.Slot root) at = (at ≡ root) ⊎ IsRootOf slots at root
LiesInBooted slots b at = ⊥

-- a slot of this state is in use
abbrev pub is_in_use : SlotState → Bool
is_in_use state.Booted = true
is_in_use state.Active = true
is_in_use state.Inactive = false

-- ---- what is mounted

-- none where the list of the mounts cannot be read
abbrev pub what_is_mounted : World → Option (List Mount)
what_is_mounted w = option_map mounts_of (file_within w (codes "/proc/mounts") 1048576)

-- the device is mounted
abbrev pub is_mounted : List Mount → List ℕ → Bool
is_mounted mounts device = list_any (λ m. bytes_eq m.device device) mounts

-- ---- what runs keeps its bytes

-- where told, and wherever the power stops: each slot that is booted or active keeps each byte that was not pending
pub record RunningKept (tells : Bool) (slots : List Slot) (booted : Booted) (old new : Past) : Type 0 where
  pub each : IsTrue tells → (v : World) → Held old new v
      → (at : ℕ) (slot : Slot) → slice_get slots at ≡ Some slot → IsTrue (is_in_use (state_of slots booted at))
      → (i : ℕ) → is_in (world_now old).pending slot.device i ≡ false → disk_byte v slot.device i ≡ disk_byte (world_now old) slot.device i
