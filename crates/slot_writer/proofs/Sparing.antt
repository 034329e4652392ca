-- A slot that runs is not written.
use Rattle.std.proofs.Common.{◌≡◌, ◌<◌, inl, inr, ℕ, Bool, true, false, cond, List, [], length, get_or, Option, Some, None, Result, Ok, Err, IsTrue, refl, sym, ◌∙◌, ap, slice_get, bytes_eq}
use Rattle.std.specs.Option.{option_and_then, option_map_or}
use Rattle.std.proofs.lemmas.List.Quantifiers.{position-Some}
use Rattle.std.proofs.lemmas.Option.{slice_get-get_or}
use Rattle.machine.specs.Crash.{is_in}
use Rattle.machine.specs.declared.world.Named.{Named}
use Rattle.machine.specs.declared.world.Span.{Span}
use Rattle.machine.specs.declared.world.World.{World}
use Rattle.machine.specs.Past.{Past, world_now}
use Rattle.machine.specs.World.{bytes_under, disk_byte}
use Rattle.system_conf.specs.Configuration.{Configuration}
use Rattle.system_conf.specs.Refusals.{same_device}
use Rattle.system_conf.specs.declared.slot.Slot.{Slot}
use Rattle.conf_forms.proofs.FirstOf.{both_none}
use Rattle.slot_graph.specs.Booted.{state_of}
use Rattle.slot_graph.specs.declared.state.Booted.{Booted}
use Rattle.slot_graph.specs.declared.state.Booted.TheVariants as booted
use Rattle.running_system.specs.Running.{RunningKept, is_in_use, what_runs}
use Rattle.running_system.proofs.SlotDevices.{spares}
use Rattle.status_file.specs.Truth.{stored_book}
use Rattle.slot_writer.specs.declared.refusal.SlotRefusal.{SlotRefusal}
use Rattle.slot_writer.specs.declared.refusal.SlotWritten.{SlotWritten}
use Rattle.slot_writer.specs.Checks.{refusal_at, use_refusal}
use Rattle.slot_writer.specs.Noting.{begun_text, begun_world}
use Rattle.slot_writer.specs.Slots.{PutStopped, PutStops, found_answer, device_at, place_answer, put_answer, slot_answer, slot_named}
use Rattle.slot_writer.proofs.Begun.{text_disks, text_pending}
use Rattle.slot_writer.proofs.Checking.{refusal_there}
use Rattle.slot_writer.proofs.Targets.{placed_slot, unrefused}

unless_then : {A : Type 0} (b : Bool) (x : A) → cond b (Some x) None ≡ None → b ≡ false
unless_then true x e = absurd (cc)
unless_then false x e = refl

idle : (slots : List Slot) (b : Booted) (at : ℕ) → use_refusal slots b at ≡ None → is_in_use (state_of slots b at) ≡ false
idle slots (booted.Slot root) at e = unless_then (is_in_use (state_of slots (booted.Slot root) at)) _ e
idle slots booted.External at e = refl
idle slots booted.Unknown at e = absurd (cc)

module _ (system : Configuration) (given : Option (List ℕ)) (name image : List ℕ) (w : World) (written : SlotWritten) (alone : same_device system.slots ≡ None) (at : ℕ) (slot : Slot) (there : slice_get system.slots at ≡ Some slot) (used : IsTrue (is_in_use (state_of system.slots (what_runs system.slots given w) at))) where
  at_target : (target : ℕ) → slot_named system.slots name ≡ Some target → place_answer system given image w target ≡ Ok written → slot.device ≡ device_at system.slots written.slot → ⊥
  at_target target named answered same =
      let within : target < length system.slots = (position-Some (λ s. bytes_eq s.name name) system.slots target slot named).0 in
      let t = get_or system.slots target slot in
      let here : slice_get system.slots target ≡ Some t = slice_get-get_or system.slots target slot within in
      let none = unrefused (refusal_at system.slots given target image w) (put_answer system target image w) written answered in
      let free = (both_none (use_refusal system.slots (what_runs system.slots given w) target) _ (sym (refusal_there system.slots given target t image w here) ∙ none)).0 in
      let device : device_at system.slots target ≡ t.device = ap (λ (o : Option Slot). option_map_or (λ (s : Slot). s.device) o []) here in
      let written_there = ap (device_at system.slots) (placed_slot system given image w written target answered) in
      spares system.slots (what_runs system.slots given w) target at t slot alone here (idle system.slots (what_runs system.slots given w) target free) there used (same ∙ written_there ∙ device)

  by_name : (o : Option ℕ) → slot_named system.slots name ≡ o → found_answer system given name image w o ≡ Ok written → slot.device ≡ device_at system.slots written.slot → ⊥
  by_name (Some target) named answered same = at_target target named answered same
  by_name None named answered same = let bad : ⊥ = cc in bad

  -- the device that is written is none of a slot in use
  pub not_written : slot_answer system given name image w ≡ Ok written → slot.device ≡ device_at system.slots written.slot → ⊥
  not_written answered same = by_name (slot_named system.slots name) refl answered same

-- ---- what a stop leaves of the disks of other slots

-- the new status file stands on no disk
pub begun_byte : (system : Configuration) (at : ℕ) (w : World) (path : List ℕ) (i : ℕ) → disk_byte (begun_world system at w) path i ≡ disk_byte w path i
begun_byte system at w path i =
    ap (λ (ds : List Named). option_and_then (λ (bytes : List ℕ). slice_get bytes i) (bytes_under ds path)) (text_disks system.status_file (begun_text system.slots (stored_book system w) at) w)

pub begun_settled : (system : Configuration) (at : ℕ) (w : World) (path : List ℕ) (i : ℕ) → is_in w.pending path i ≡ false → is_in (begun_world system at w).pending path i ≡ false
begun_settled system at w path i settled =
    ap (λ (spans : List Span). is_in spans path i) (text_pending system.status_file (begun_text system.slots (stored_book system w) at) w) ∙ settled

-- a disk that is not written keeps its bytes
pub byte_stopped : (system : Configuration) (answer : Result SlotWritten SlotRefusal) (w v : World) (path : List ℕ) (i : ℕ) → ((written : SlotWritten) → answer ≡ Ok written → path ≡ device_at system.slots written.slot → ⊥)
    → PutStopped system answer w v → is_in w.pending path i ≡ false → disk_byte v path i ≡ disk_byte w path i
byte_stopped system (Ok written) w v path i away (inl same) settled = same.bytes path i (λ touched. touched) settled
byte_stopped system (Ok written) w v path i away (inr h) settled =
    h.1.bytes path i (λ touched. away written refl touched.0) (begun_settled system written.slot w path i settled) ∙ begun_byte system written.slot w path i
byte_stopped system (Err refusal) w v path i away same settled = same.bytes path i (λ touched. touched) settled

-- so what runs keeps its bytes
pub running_kept : (t : Bool) (system : Configuration) (b : Booted) (a c : Past) (answer : Result SlotWritten SlotRefusal)
    → ((written : SlotWritten) → answer ≡ Ok written → (at : ℕ) (slot : Slot) → slice_get system.slots at ≡ Some slot → IsTrue (is_in_use (state_of system.slots b at)) → slot.device ≡ device_at system.slots written.slot → ⊥)
    → PutStops t system answer a c → RunningKept t system.slots b a c
running_kept t system b a c answer away stops = record {
  each = λ told v held at slot there used i settled.
      byte_stopped system answer (world_now a) v slot.device i (λ written is same. away written is at slot there used same) (stops.each told v held) settled;
}
