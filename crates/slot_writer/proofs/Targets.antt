-- The slot that is written, by the answer.
use Rattle.std.proofs.Common.{◌≡◌, ◌<◌, ℕ, List, length, get_or, Option, Some, None, Result, Ok, Err, refl, sym, ◌∙◌, ap, slice_get, bytes_eq}
use Rattle.std.proofs.lemmas.List.Quantifiers.{position-Some}
use Rattle.std.proofs.lemmas.Option.{slice_get-get_or}
use Rattle.machine.specs.declared.world.World.{World}
use Rattle.raw_writer.specs.declared.check.PutRefusal.{PutRefusal}
use Rattle.raw_writer.specs.Checking.{check_of}
use Rattle.system_conf.specs.Configuration.{Configuration}
use Rattle.system_conf.specs.declared.slot.Slot.{Slot}
use Rattle.slot_writer.specs.declared.refusal.SlotRefusal.{SlotRefusal}
use Rattle.slot_writer.specs.declared.refusal.SlotWritten.{SlotWritten}
use Rattle.slot_writer.specs.Checks.{refusal_at}
use Rattle.slot_writer.specs.Noting.{begun_world, image_refusal}
use Rattle.slot_writer.specs.Slots.{checked_answer, device_at, found_answer, place_answer, put_answer, slot_answer, slot_named, unless, written_slot}

pub unrefused : (refusal : Option SlotRefusal) (answer : Result SlotWritten SlotRefusal) (written : SlotWritten) → unless refusal answer ≡ Ok written → refusal ≡ None
unrefused (Some r) answer written e = absurd (cc)
unrefused None answer written e = refl

answered : (refusal : Option SlotRefusal) (answer : Result SlotWritten SlotRefusal) (written : SlotWritten) → unless refusal answer ≡ Ok written → answer ≡ Ok written
answered (Some r) answer written e = absurd (cc)
answered None answer written e = e

module _ (system : Configuration) (given : Option (List ℕ)) (image : List ℕ) (w : World) (written : SlotWritten) where
  checked_slot : (at : ℕ) (r : Result ℕ PutRefusal) → checked_answer system at image w r ≡ Ok written → written.slot ≡ at
  checked_slot at (Err refusal) e = absurd (cc)
  checked_slot at (Ok size) e =
      let is = answered (image_refusal image size (begun_world system at w)) (Ok (written_slot system at image w size)) written e in
      let same : written_slot system at image w size ≡ written = cc in
      sym (ap (λ (x : SlotWritten). x.slot) same)

  pub placed_slot : (at : ℕ) → place_answer system given image w at ≡ Ok written → written.slot ≡ at
  placed_slot at e =
      checked_slot at (check_of w image None (Some (device_at system.slots at))) (answered (refusal_at system.slots given at image w) (put_answer system at image w) written e)

  -- it stands at its place
  pub slot_there : (name : List ℕ) (other : Slot) → slot_answer system given name image w ≡ Ok written → (target : Slot) × (slice_get system.slots written.slot ≡ Some target)
  slot_there name other e = by (slot_named system.slots name) refl e
    where
      by : (o : Option ℕ) → slot_named system.slots name ≡ o → found_answer system given name image w o ≡ Ok written → (target : Slot) × (slice_get system.slots written.slot ≡ Some target)
      by (Some at) named answer =
          let within : at < length system.slots = (position-Some (λ s. bytes_eq s.name name) system.slots at other named).0 in
          (get_or system.slots at other, ap (slice_get system.slots) (placed_slot at answer) ∙ slice_get-get_or system.slots at other within)
      by None named answer = absurd (cc)
