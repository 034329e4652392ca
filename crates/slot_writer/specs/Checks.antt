-- Why an image is not written to a slot, by what the slot is, what runs and what is mounted.
use Rattle.std.specs.Prelude.{◌≡◌, ℕ, Bool, IsTrue, List, if◌then◌else◌, Option, Some, None, Result, Ok, Err, slice_get, option_and_then}
use Rattle.machine.specs.declared.stops.Stop.{Stop}
use Rattle.machine.specs.declared.world.World.{World}
use Rattle.machine.specs.Past.{Past, Fails}
use Rattle.machine.specs.Frames.{Unchanged}
use Rattle.machine.specs.Stops.{Settles, stop_fault}
use Rattle.conf_forms.specs.Lists.{or_else}
use Rattle.raw_writer.specs.declared.check.PutRefusal.TheVariants.{ImageDigest}
use Rattle.system_conf.specs.declared.slot.Slot.{Slot}
use Rattle.slot_graph.specs.declared.state.Booted.{Booted}
use Rattle.slot_graph.specs.declared.state.Booted.TheVariants as booted
use Rattle.slot_graph.specs.declared.mounted.Mount.{Mount}
use Rattle.slot_graph.specs.Archives.{is_archive}
use Rattle.slot_graph.specs.Booted.{state_of}
use Rattle.slot_graph.specs.Jobs.{is_unwritten}
use Rattle.running_system.specs.Running.{is_in_use, is_mounted, what_is_mounted, what_runs}
use Rattle.slot_writer.specs.declared.refusal.SlotRefusal.{SlotRefusal}
use Rattle.machine.specs.declared.stops.Stop.TheVariants as stop
use Rattle.slot_writer.specs.declared.refusal.SlotRefusal.TheVariants.{NoSuchSlot, BootedUnknown, Busy, ReadOnly, ArchiveImage, WrongType, MountsUnread, Mounted, Image}
use Rattle.system_conf.specs.Slots.{name_at}

-- what is booted is not known, or the slot at the place is in use
abbrev pub use_refusal : List Slot → Booted → ℕ → Option SlotRefusal
use_refusal slots booted.Unknown at = Some BootedUnknown
use_refusal slots booted at = if is_in_use (state_of slots booted at) then Some (Busy at) else None

-- whatever stands on the machine: the slot is read-only, the image an archive, or the slot's type is not written to
abbrev pub kind_refusal : ℕ → Slot → List ℕ → Option SlotRefusal
kind_refusal at slot image =
    if slot.readonly then Some (ReadOnly at)
    else (if is_archive image then Some (ArchiveImage image)
    else (if is_unwritten slot.kind then Some (WrongType at) else None))

-- the mounts cannot be read, or the slot's device is one of them, whether or not the slot may be mounted
abbrev pub mount_refusal : ℕ → Slot → Option (List Mount) → Option SlotRefusal
mount_refusal at slot None = Some MountsUnread
mount_refusal at slot (Some mounts) = if is_mounted mounts slot.device then Some (Mounted at) else None

-- the first of these that holds of the slot at a place
abbrev pub refusal_of : List Slot → Option (List ℕ) → ℕ → Slot → List ℕ → World → Option SlotRefusal
refusal_of slots given at slot image w =
    or_else (use_refusal slots (what_runs slots given w) at)
    (or_else (kind_refusal at slot image)
    (mount_refusal at slot (what_is_mounted w)))

abbrev pub refusal_at : List Slot → Option (List ℕ) → ℕ → List ℕ → World → Option SlotRefusal
refusal_at slots given at image w = option_and_then (λ slot. refusal_of slots given at slot image w) (slice_get slots at)

-- nothing, unless this refusal holds
abbrev pub pass_unless : Option SlotRefusal → Result (Unit {0}) SlotRefusal
pass_unless None = Ok tt
pass_unless (Some refusal) = Err refusal

-- a slot that a refusal names by its place is this one, and an image that it names this one; no digest is stated
abbrev pub IsAbout : ℕ → List ℕ → SlotRefusal → Type 0
IsAbout at image (NoSuchSlot text) = ⊥
IsAbout at image (Busy slot) = slot ≡ at
IsAbout at image (ReadOnly slot) = slot ≡ at
IsAbout at image (WrongType slot) = slot ≡ at
IsAbout at image (Mounted slot) = slot ≡ at
IsAbout at image (ArchiveImage path) = path ≡ image
IsAbout at image (Image (ImageDigest stated found)) = ⊥
IsAbout at image refusal = Unit {0}

-- the same by the slot's name, whether or not a slot has it
abbrev pub NamesSlot : List Slot → List ℕ → List ℕ → SlotRefusal → Type 0
NamesSlot slots name image (NoSuchSlot text) = text ≡ name
NamesSlot slots name image (Busy slot) = name_at slots slot ≡ name
NamesSlot slots name image (ReadOnly slot) = name_at slots slot ≡ name
NamesSlot slots name image (WrongType slot) = name_at slots slot ≡ name
NamesSlot slots name image (Mounted slot) = name_at slots slot ≡ name
NamesSlot slots name image (ArchiveImage path) = path ≡ image
NamesSlot slots name image (Image (ImageDigest stated found)) = ⊥
NamesSlot slots name image refusal = Unit {0}

-- this holds of the refusal, where it is one
abbrev pub IfRefused : {T : Type 0} → Result T (Stop SlotRefusal) → (SlotRefusal → Type 0) → Type 0
IfRefused (Err (stop.Refused refusal)) P = P refusal
IfRefused result P = Unit {0}

-- where told: nothing was changed, and this refusal is answered where it holds, unless a call failed
pub record SlotCheck (tells : Bool) (refusal : Option SlotRefusal) (old new : Past) (result : Result (Unit {0}) (Stop SlotRefusal)) : Type 0 where
  pub unchanged : Unchanged tells old new
  pub answers : IsTrue tells → Settles result (pass_unless refusal)
  pub fails : Fails tells old new (stop_fault result)
