-- What the status file says of the slots stays true wherever the power stops.
use Rattle.std.proofs.Common.{◌≡◌, ◌⊎◌, inl, inr, ⊎_elim, ◌||◌, ℕ, zero, suc, Bool, true, false, cond, eqb, eqb-true, eq-eqb, List, [], ◌∷◌, length, codes, Option, Some, None, Result, Ok, Err, refl, sym, ◌∙◌, ap, subst, slice_get, arith}
use Rattle.std.specs.Prelude.{is_some}
use Rattle.std.specs.Option.{option_and_then, option_map, option_map_or}
use Rattle.std.proofs.lemmas.Bool.{true≢false}
use Rattle.keyfile.specs.Groups.{Text}
use Rattle.machine.specs.Crash.{is_in}
use Rattle.machine.specs.Frames.{InRange, SameBut, Unchanged}
use Rattle.machine.specs.Past.{Past, world_now}
use Rattle.machine.specs.World.{bytes_under, disk}
use Rattle.machine.specs.declared.world.Named.{Named}
use Rattle.machine.specs.declared.world.World.{World}
use Rattle.machine.proofs.Worlds.{same_disk}
use Rattle.running_system.proofs.SlotDevices.{apart}
use Rattle.slot_status.specs.Changes.{begin_record, begun}
use Rattle.slot_status.specs.Records.{RecordContent, is_known, record_at}
use Rattle.slot_status.proofs.Changing.{kept_elsewhere}
use Rattle.status_file.specs.Status.{book_in, bytes_at}
use Rattle.status_file.specs.Truth.{IsTrueRecord, IsTrueSlot, TruthKept, stored_book}
use Rattle.system_conf.specs.Configuration.{Configuration}
use Rattle.system_conf.specs.Refusals.{same_device}
use Rattle.system_conf.specs.declared.slot.Slot.{Slot}
use Rattle.slot_writer.specs.declared.refusal.SlotRefusal.{SlotRefusal}
use Rattle.slot_writer.specs.declared.refusal.SlotRefusal.TheVariants.{BootedUnknown}
use Rattle.slot_writer.specs.declared.refusal.SlotWritten.{SlotWritten}
use Rattle.slot_writer.specs.Noting.{IsBegun, begun_book, begun_text, begun_world}
use Rattle.slot_writer.specs.Slots.{PutStopped, PutStops, device_at}
use Rattle.slot_writer.proofs.Begun.{text_disks}
use Rattle.slot_writer.proofs.Sparing.{byte_stopped}
use Rattle.slot_writer.proofs.Stopping.{put_stops}

-- ---- records

none_of : (o : Option Text) → is_some o ≡ false → o ≡ None
none_of None e = refl
none_of (Some x) e = absurd (true≢false e)

neither : (a b : Bool) → (a || b) ≡ false → (a ≡ false) × (b ≡ false)
neither true b e = absurd (true≢false e)
neither false b e = (refl, e)

-- of a slot of which nothing is known nothing is said
no_status : (r : RecordContent) → is_known r ≡ false → r.status ≡ None
no_status r e =
    let first = (neither (is_some r.bundle || (is_some r.status || (is_some r.digest || is_some r.size))) _ e).0 in
    let second = (neither (is_some r.bundle) (is_some r.status || (is_some r.digest || is_some r.size)) first).1 in
    none_of r.status (neither (is_some r.status) (is_some r.digest || is_some r.size) second).0

-- once an update has begun the slot is not told to be installed
begun_status : (at : ℕ) (book : List RecordContent) → (record_at (begun at book) at).status ≡ Some (codes "ok") → ⊥
begun_status at [] e = let bad : ⊥ = cc in bad
begun_status zero (r ∷ book) e = let same : codes "update" ≡ codes "ok" = cc in omega (arith, ap length same)
begun_status (suc at) (r ∷ book) e = begun_status at book e

not_installed : (at : ℕ) (book : List RecordContent) → (record_at (begun_book at book) at).status ≡ Some (codes "ok") → ⊥
not_installed at book = go (is_known (record_at book at)) refl
  where
    go : (known : Bool) → is_known (record_at book at) ≡ known → (record_at (cond known (begun at book) book) at).status ≡ Some (codes "ok") → ⊥
    go true is e = begun_status at book e
    go false is e = let bad : None ≡ Some (codes "ok") = sym (no_status (record_at book at) is) ∙ e in let no : ⊥ = cc in no

-- and the other records stay
other_record : (at other : ℕ) (book : List RecordContent) → (other ≡ at → ⊥) → record_at (begun_book at book) other ≡ record_at book other
other_record at other book ne = go (is_known (record_at book at))
  where
    go : (known : Bool) → record_at (cond known (begun at book) book) other ≡ record_at book other
    go true = kept_elsewhere book at other begin_record ne
    go false = refl

-- ---- worlds

same_bytes : (status : Option Text) (w v : World) → v.files ≡ w.files → bytes_at status v ≡ bytes_at status w
same_bytes status w v same = ap (λ (files : List Named). option_and_then (λ (path : Text). bytes_under files path) status) same

same_book : (system : Configuration) (w v : World) → v.files ≡ w.files → stored_book system v ≡ stored_book system w
same_book system w v same = ap (book_in system.slots) (same_bytes system.status_file w v same)

-- the same record, of a disk with the same bytes
true_as : (r r' : RecordContent) (bytes bytes' : Option Text) → r' ≡ r → bytes' ≡ bytes → IsTrueRecord r bytes → IsTrueRecord r' bytes'
true_as r r' bytes bytes' same disk h =
    subst (λ (x : RecordContent). IsTrueRecord x bytes') (sym same) (subst (λ (b : Option Text). IsTrueRecord r b) (sym disk) h)

nat_same : (m n : ℕ) → (m ≡ n) ⊎ (m ≡ n → ⊥)
nat_same m n = go (eqb m n) refl
  where
    go : (b : Bool) → eqb m n ≡ b → (m ≡ n) ⊎ (m ≡ n → ⊥)
    go true e = inl (eqb-true m n e)
    go false e = inr (λ same. true≢false (sym (eq-eqb m n same) ∙ e))

module _ (system : Configuration) (w v : World) (at : ℕ) (slot : Slot) (settled : (i : ℕ) → is_in w.pending slot.device i ≡ false) (was : IsTrueSlot system at slot w) where
  -- nothing was done
  true_same : SameBut (λ path i. ⊥) w v → IsTrueSlot system at slot v
  true_same same =
      true_as (record_at (stored_book system w) at) (record_at (stored_book system v) at) (disk w slot.device) (disk v slot.device)
      (ap (λ (book : List RecordContent). record_at book at) (same_book system w v same.files))
      (same_disk (disk v slot.device) (disk w slot.device) (same.lengths slot.device) (λ i. same.bytes slot.device i (λ touched. touched) (settled i)))
      was

  -- another slot is written, or this one
  module _ (written : SlotWritten) (begins : IsBegun system written.slot w) (left : SameBut (InRange (device_at system.slots written.slot) 0 written.size) (begun_world system written.slot w) v) where
    book_left : stored_book system v ≡ begun_book written.slot (stored_book system w)
    book_left = same_book system (begun_world system written.slot w) v left.files ∙ begins.book

    true_other : (at ≡ written.slot → ⊥) → (slot.device ≡ device_at system.slots written.slot → ⊥) → IsTrueSlot system at slot v
    true_other ne away =
        true_as (record_at (stored_book system w) at) (record_at (stored_book system v) at) (disk w slot.device) (disk v slot.device)
        (ap (λ (book : List RecordContent). record_at book at) book_left ∙ other_record written.slot at (stored_book system w) ne)
        (same_disk (disk v slot.device) (disk w slot.device)
        (left.lengths slot.device ∙ ap (λ (ds : List Named). option_map length (bytes_under ds slot.device)) (text_disks system.status_file (begun_text system.slots (stored_book system w) written.slot) w))
        (λ i. byte_stopped system (Ok written) w v slot.device i (λ other is same. away (same ∙ ap (device_at system.slots) (slot_of written other is))) (inr (begins, left)) (settled i)))
        was
      where
        slot_of : (x y : SlotWritten) → ◌≡◌ {A = Result SlotWritten SlotRefusal} (Ok x) (Ok y) → y.slot ≡ x.slot
        slot_of x y e = let same : x ≡ y = cc in sym (ap (λ (z : SlotWritten). z.slot) same)

    true_target : at ≡ written.slot → IsTrueSlot system at slot v
    true_target same size digest status =
        let book = ap (λ (b : List RecordContent). (record_at b written.slot).status) book_left in
        let here = ap (λ (k : ℕ). (record_at (stored_book system v) k).status) same in
        absurd (not_installed written.slot (stored_book system w) (sym book ∙ sym here ∙ status))

-- a slot that is true stays so
pub stays_true : (system : Configuration) (answer : Result SlotWritten SlotRefusal) (w v : World) → same_device system.slots ≡ None
    → ((written : SlotWritten) → answer ≡ Ok written → (target : Slot) × (slice_get system.slots written.slot ≡ Some target))
    → (at : ℕ) (slot : Slot) → slice_get system.slots at ≡ Some slot → IsTrueSlot system at slot w → ((i : ℕ) → is_in w.pending slot.device i ≡ false)
    → PutStopped system answer w v → IsTrueSlot system at slot v
stays_true system (Ok written) w v alone target at slot there was settled (inl same) = true_same system w v at slot settled was same
stays_true system (Ok written) w v alone target at slot there was settled (inr h) =
    ⊎_elim (true_target system w v at slot settled was written h.0 h.1) (λ ne. true_other system w v at slot settled was written h.0 h.1 ne (away ne)) (nat_same at written.slot)
  where
    away : (at ≡ written.slot → ⊥) → slot.device ≡ device_at system.slots written.slot → ⊥
    away ne same =
        let t = target written refl in
        let device : device_at system.slots written.slot ≡ t.0.device = ap (λ (o : Option Slot). option_map_or (λ (s : Slot). s.device) o []) t.1 in
        ne (apart system.slots at written.slot slot t.0 alone there t.1 (same ∙ device))
stays_true system (Err refusal) w v alone target at slot there was settled same = true_same system w v at slot settled was same

pub truth_kept : (t : Bool) (system : Configuration) (answer : Result SlotWritten SlotRefusal) (a c : Past) → same_device system.slots ≡ None
    → (Slot → (written : SlotWritten) → answer ≡ Ok written → (target : Slot) × (slice_get system.slots written.slot ≡ Some target))
    → PutStops t system answer a c → TruthKept t system a c
truth_kept t system answer a c alone target stops = record {
  each = λ told v held at slot there was settled. stays_true system answer (world_now a) v alone (target slot) at slot there was settled (stops.each told v held);
}

-- and so it does where nothing is done
pub truth_unchanged : (t : Bool) (system : Configuration) (a c : Past) → same_device system.slots ≡ None → Unchanged t a c → TruthKept t system a c
truth_unchanged t system a c alone unchanged =
    truth_kept t system (Err BootedUnknown) a c alone (λ slot written e. absurd (cc)) (put_stops t system (Err BootedUnknown) a c unchanged.all)
