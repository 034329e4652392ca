-- What write-slot answers, and what it leaves.
use Rattle.std.specs.Prelude.{◌≡◌, ◌⊎◌, ℕ, Bool, IsTrue, List, [], take, Option, Some, None, Result, Ok, Err, IfOk, slice_get, position, bytes_eq}
use Rattle.std.specs.Option.{option_map_or}
use Rattle.sha2.specs.Sha256.{sha256}
use Rattle.machine.specs.declared.stops.Stop.{Stop}
use Rattle.machine.specs.declared.stops.Stop.TheVariants as stop
use Rattle.updater_text.specs.declared.digest.Digest.{Digest}
use Rattle.machine.specs.declared.world.World.{World}
use Rattle.machine.specs.World.{readable}
use Rattle.machine.specs.Past.{Past, world_now, Always, Fails, Held}
use Rattle.machine.specs.Frames.{DiffersOnlyIn, InRange, SameBut}
use Rattle.machine.specs.Stops.{Settles, stop_fault}
use Rattle.raw_writer.specs.declared.check.PutRefusal.{PutRefusal}
use Rattle.raw_writer.specs.declared.check.PutRefusal.TheVariants.{ImageSize}
use Rattle.raw_writer.specs.declared.whole.WholeStop.{WholeStop}
use Rattle.raw_writer.specs.declared.whole.WholeStop.TheVariants as whole
use Rattle.raw_writer.specs.Checking.{check_of}
use Rattle.raw_writer.specs.Whole.{IsWritten}
use Rattle.status_file.specs.Status.{bytes_at, is_unread}
use Rattle.system_conf.specs.Configuration.{Configuration}
use Rattle.system_conf.specs.declared.slot.Slot.{Slot}
use Rattle.slot_writer.specs.Checks.{refusal_at}
use Rattle.slot_writer.specs.Noting.{IsBegun, begun_world, image_refusal}
use Rattle.slot_writer.specs.declared.refusal.SlotRefusal.{SlotRefusal}
use Rattle.slot_writer.specs.declared.refusal.SlotRefusal.TheVariants.{NoSuchSlot, Image}
use Rattle.slot_writer.specs.declared.refusal.SlotWritten.{SlotWritten}

-- so many bytes are read and written at a time
abbrev pub piece : ℕ
piece = 65536

-- the device of the slot at a place
abbrev pub device_at : List Slot → ℕ → List ℕ
device_at slots at = option_map_or (λ s. s.device) (slice_get slots at) []

-- ---- the answer

-- this refusal, or else the answer
abbrev pub unless : Option SlotRefusal → Result SlotWritten SlotRefusal → Result SlotWritten SlotRefusal
unless (Some refusal) answer = Err refusal
unless None answer = answer

-- a slot that was written with so many bytes of an image, as that is once an update has begun
abbrev pub written_slot : Configuration → ℕ → List ℕ → World → ℕ → SlotWritten
written_slot system slot image w size = record {
  slot = slot;
  size = size;
  digest = record { 0 = sha256 (take size (readable (begun_world system slot w) image)) };
  book_unread = is_unread system.slots (bytes_at system.status_file w);
}

-- the answer of a write of an image of this length to the slot at a place
abbrev pub written_answer : Configuration → ℕ → List ℕ → World → ℕ → Result SlotWritten SlotRefusal
written_answer system slot image w size =
    unless (image_refusal image size (begun_world system slot w)) (Ok (written_slot system slot image w size))

-- the same, from what the check of the image finds
abbrev pub checked_answer : Configuration → ℕ → List ℕ → World → Result ℕ PutRefusal → Result SlotWritten SlotRefusal
checked_answer system slot image w (Ok size) = written_answer system slot image w size
checked_answer system slot image w (Err refusal) = Err (Image refusal)

abbrev pub put_answer : Configuration → ℕ → List ℕ → World → Result SlotWritten SlotRefusal
put_answer system slot image w =
    checked_answer system slot image w (check_of w image None (Some (device_at system.slots slot)))

-- the answer for the slot at a place
abbrev pub place_answer : Configuration → Option (List ℕ) → List ℕ → World → ℕ → Result SlotWritten SlotRefusal
place_answer system given image w at = unless (refusal_at system.slots given at image w) (put_answer system at image w)

abbrev pub found_answer : Configuration → Option (List ℕ) → List ℕ → List ℕ → World → Option ℕ → Result SlotWritten SlotRefusal
found_answer system given name image w (Some at) = place_answer system given image w at
found_answer system given name image w None = Err (NoSuchSlot name)

-- the place of the slot of this name
abbrev pub slot_named : List Slot → List ℕ → Option ℕ
slot_named slots name = position (λ s. bytes_eq s.name name) slots

-- the answer of write-slot: what was written, or the first refusal, with the name that counts as booted where one is given
abbrev pub slot_answer : Configuration → Option (List ℕ) → List ℕ → List ℕ → World → Result SlotWritten SlotRefusal
slot_answer system given name image w = found_answer system given name image w (slot_named system.slots name)

-- ---- stops, as they are passed on

abbrev pub image_stop : Stop PutRefusal → Stop SlotRefusal
image_stop (stop.Refused refusal) = stop.Refused (Image refusal)
image_stop (stop.Outside kind) = stop.Outside kind
image_stop stop.NoMemory = stop.NoMemory

abbrev pub whole_answer : ℕ → ℕ → Bool → Result Digest WholeStop → Result SlotWritten (Stop SlotRefusal)
whole_answer slot size unread (Ok digest) = Ok (record { slot = slot; size = size; digest = digest; book_unread = unread })
whole_answer slot size unread (Err (whole.Outside kind)) = Err (stop.Outside kind)
whole_answer slot size unread (Err (whole.Short found)) = Err (stop.Refused (Image (ImageSize size found)))
whole_answer slot size unread (Err whole.NoMemory) = Err stop.NoMemory

-- ---- what is done

-- each world since, inside the calls too: as before; or the status file says that an update has begun, and then only the image's length of the slot's device was written
abbrev pub PutKept : Configuration → Result SlotWritten SlotRefusal → World → World → Type 0
PutKept system (Ok written) w u =
    (u ≡ w)
    ⊎ (IsBegun system written.slot w
    × DiffersOnlyIn (device_at system.slots written.slot) 0 written.size (begun_world system written.slot w) u)
PutKept system (Err refusal) w u = u ≡ w

-- at the end the status file says that an update has begun, and the image's bytes stand on the slot's device
pub record IsPut (system : Configuration) (image : List ℕ) (written : SlotWritten) (old w : World) : Type 0 where
  pub begun : IsBegun system written.slot old
  pub front : IsWritten image (device_at system.slots written.slot) piece written.size written.digest (begun_world system written.slot old) w

-- write-slot, where this answer is the one to give: what was done on the way, what it answers, what stands at the end, and which call failed
pub record Puts (tells : Bool) (system : Configuration) (image : List ℕ) (answer : Result SlotWritten SlotRefusal) (old new : Past) (result : Result SlotWritten (Stop SlotRefusal)) : Type 0 where
  pub kept : IsTrue tells → Always old new (PutKept system answer (world_now old))
  pub answers : IsTrue tells → Settles result answer
  pub left : IsTrue tells → IfOk result (λ written. IsPut system image written (world_now old) (world_now new))
  pub fails : Fails tells old new (stop_fault result)

-- what a stop may leave: all as before; or the status file says that an update has begun, and only the image's length of the slot's device differs
abbrev pub PutStopped : Configuration → Result SlotWritten SlotRefusal → World → World → Type 0
PutStopped system (Ok written) w v =
    SameBut (λ path i. ⊥) w v
    ⊎ (IsBegun system written.slot w
    × SameBut (InRange (device_at system.slots written.slot) 0 written.size) (begun_world system written.slot w) v)
PutStopped system (Err refusal) w v = SameBut (λ path i. ⊥) w v

-- where told, wherever the power stops
pub record PutStops (tells : Bool) (system : Configuration) (answer : Result SlotWritten SlotRefusal) (old new : Past) : Type 0 where
  pub each : IsTrue tells → (v : World) → Held old new v → PutStopped system answer (world_now old) v
