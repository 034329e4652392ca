-- What the status file says of the slots while an install works, wherever it stops.
use Rattle.std.specs.Prelude.{◌≡◌, ◌≢◌, ◌⊎◌, ◌||◌, ℕ, Bool, true, false, None, Some, drop, length, slice_get, bytes_eq}
use Rattle.std.specs.List.{list_any, slice_index_or}
use Rattle.child_steps.specs.Hooks.{handler_program}
use Rattle.child_steps.specs.declared.handlers.HandlerKind.TheVariants as handler_kind
use Rattle.keyfile.specs.Groups.{Text}
use Rattle.machine.specs.Crash.{is_in}
use Rattle.machine.specs.declared.world.World.{World}
use Rattle.running_system.specs.Running.{is_in_use}
use Rattle.slot_graph.specs.declared.state.SlotState.TheVariants as state
use Rattle.slot_status.specs.Records.{record_at}
use Rattle.status_file.specs.Truth.{IsTrueSlot, stored_book}
use Rattle.system_conf.specs.Configuration.{Configuration}
use Rattle.system_conf.specs.declared.slot.Slot.{Slot}
use Rattle.install_facts.specs.Facts.{FactsContent}
use Rattle.install_plan.specs.Acts.{Work, is_alone, work_at}

-- a write to a device was begun since w
abbrev pub wrote_to : Text → World → World → Bool
wrote_to device w v = list_any (λ s. bytes_eq s.path device) (drop (length w.writes) v.writes)

-- the slot at a place is booted or active, or its image is there already and skipped
abbrev pub StaysAsItIs : Configuration → FactsContent → ℕ → Type 0
StaysAsItIs c f at =
    (is_in_use (slice_index_or f.states at state.Inactive) ≡ true)
    ⊎ ((job : ℕ) × (x : Work) × (work_at c f job ≡ Some x) × (x.job.slot ≡ at) × (x.skipped ≡ true))

-- neither a handler nor a hook of a slot is configured or named
pub record RunsNone (c : Configuration) (f : FactsContent) : Type 0 where
  pub before : handler_program c handler_kind.Pre ≡ None
  pub after : handler_program c handler_kind.Post ≡ None
  pub hooks : (at : ℕ) (x : Work) → work_at c f at ≡ Some x → (x.image.pre || (x.image.install || x.image.post)) ≡ false

-- what the status file says of a slot was true in w, and then nothing of its device was pending
pub record WasTrue (c : Configuration) (at : ℕ) (slot : Slot) (w : World) : Type 0 where
  pub true : IsTrueSlot c at slot w
  pub settled : (i : ℕ) → is_in w.pending slot.device i ≡ false

-- the record of the slot at a place is another one than in w, or its device was written to since
abbrev pub WasTouched : Configuration → ℕ → Slot → World → World → Type 0
WasTouched c at slot w v = (record_at (stored_book c v) at ≢ record_at (stored_book c w) at) ⊎ (wrote_to slot.device w v ≡ true)

-- the world v, which a stop left of an install since w: what it says of the slots is true
pub record RecordsSafe (c : Configuration) (f : FactsContent) (w v : World) : Type 0 where
  pub kept : (at : ℕ) (slot : Slot) → slice_get c.slots at ≡ Some slot → StaysAsItIs c f at → WasTrue c at slot w → IsTrueSlot c at slot v
  pub written : (job : ℕ) (x : Work) → work_at c f job ≡ Some x → is_alone x ≡ true → WasTouched c x.job.slot x.slot w v → IsTrueSlot c x.job.slot x.slot v
  pub all : RunsNone c f → (at : ℕ) (slot : Slot) → slice_get c.slots at ≡ Some slot → WasTrue c at slot w → IsTrueSlot c at slot v
