-- What the status file says of a slot is true of the slot's disk.
use Rattle.std.specs.Prelude.{◌≡◌, ℕ, Bool, false, IsTrue, List, Option, Some, IsSomeAnd, codes, slice_get}
use Rattle.keyfile.specs.Groups.{Text}
use Rattle.machine.specs.Crash.{is_in}
use Rattle.machine.specs.Past.{Held, Past, world_now}
use Rattle.machine.specs.World.{disk}
use Rattle.machine.specs.declared.world.World.{World}
use Rattle.raw_writer.specs.Whole.{IsWhole}
use Rattle.slot_status.specs.Records.{RecordContent, record_at}
use Rattle.system_conf.specs.Configuration.{Configuration}
use Rattle.system_conf.specs.declared.slot.Slot.{Slot}
use Rattle.updater_text.specs.declared.digest.Digest.{Digest}
use Rattle.status_file.specs.Status.{book_in, bytes_at}

-- the book of a system's slots in a world
abbrev pub stored_book : Configuration → World → List RecordContent
stored_book system w = book_in system.slots (bytes_at system.status_file w)

-- where a record has the status `ok`, a size and a digest, the slot's disk begins with that image
abbrev pub IsTrueRecord : RecordContent → Option Text → Type 0
IsTrueRecord r bytes =
    (size : ℕ) (digest : Digest) → r.status ≡ Some (codes "ok") → r.size ≡ Some size → r.digest ≡ Some digest
    → IsSomeAnd bytes (λ b. IsWhole b size digest)

-- so does the disk of the slot at a place in a world, by the status file there
abbrev pub IsTrueSlot : Configuration → ℕ → Slot → World → Type 0
IsTrueSlot system at slot w = IsTrueRecord (record_at (stored_book system w) at) (disk w slot.device)

-- where told, and wherever the power stops: each slot that was true is true, unless bytes of its disk were pending before
pub record TruthKept (tells : Bool) (system : Configuration) (old new : Past) : Type 0 where
  pub each : IsTrue tells → (v : World) → Held old new v
      → (at : ℕ) (slot : Slot) → slice_get system.slots at ≡ Some slot → IsTrueSlot system at slot (world_now old)
      → ((i : ℕ) → is_in (world_now old).pending slot.device i ≡ false) → IsTrueSlot system at slot v
