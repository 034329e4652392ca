-- A slot is written.
use Rattle.std.proofs.Common.{◌≡◌, ◌<◌, ◌≤◌, inl, inr, ⊎_elim, ℕ, Bool, true, false, cond, nat_lt, ltb-false, List, length, Option, Some, None, Result, Ok, Err, IsTrue, IfOk, refl, sym, ◌∙◌, ap, subst, arith}
use Rattle.updater_text.specs.Counts.{CountRose}
use Rattle.std.specs.Option.{option_map}
use Rattle.machine.specs.declared.stops.Fault.{Fault}
use Rattle.machine.specs.declared.stops.Stop.{Stop}
use Rattle.machine.specs.declared.stops.Stop.TheVariants.{Refused, Outside, NoMemory}
use Rattle.updater_text.specs.declared.digest.Digest.{Digest}
use Rattle.machine.specs.declared.world.Named.{Named}
use Rattle.machine.specs.declared.world.World.{World}
use Rattle.machine.specs.World.{bytes_under, disk_length, readable}
use Rattle.machine.specs.Past.{Past, world_now, Always, Fails}
use Rattle.machine.specs.Calls.{WriteFits}
use Rattle.machine.specs.Frames.{DiffersOnlyIn, ChangesOnly, Unchanged}
use Rattle.machine.specs.Stops.{Settles, StopCounted, stop_fault}
use Rattle.machine.proofs.Moments.{always_weaker, always_joins}
use Rattle.machine.proofs.Failing.{fails_join}
use Rattle.machine.proofs.Joins.{now_unchanged}
use Rattle.machine.proofs.Only.{only_refl}
use Rattle.raw_writer.specs.declared.check.PutRefusal.{PutRefusal}
use Rattle.raw_writer.specs.declared.check.PutRefusal.TheVariants.{ImageSize}
use Rattle.raw_writer.specs.declared.whole.WholeStop.{WholeStop}
use Rattle.raw_writer.specs.declared.whole.WholeStop.TheVariants as whole
use Rattle.raw_writer.specs.Checking.{check_of}
use Rattle.raw_writer.specs.Whole.{IsWritten, WholeEnds, whole_fault}
use Rattle.raw_writer.proofs.Checks.{check_length, check_room}
use Rattle.status_file.specs.Status.{bytes_at, is_unread}
use Rattle.status_file.specs.Truth.{stored_book}
use Rattle.system_conf.specs.Configuration.{Configuration}
use Rattle.slot_writer.specs.declared.noting.Note.{Note}
use Rattle.slot_writer.specs.declared.refusal.SlotRefusal.{SlotRefusal}
use Rattle.slot_writer.specs.declared.refusal.SlotRefusal.TheVariants.{Image}
use Rattle.slot_writer.specs.declared.refusal.SlotWritten.{SlotWritten}
use Rattle.slot_writer.specs.Checks.{SlotCheck, pass_unless}
use Rattle.slot_writer.specs.Noting.{IsBegun, IsNote, StepKept, Steps, begun_world, cut_refusal, image_refusal, with_text}
use Rattle.slot_writer.specs.Slots.{piece, checked_answer, device_at, put_answer, IsPut, PutKept, Puts, image_stop, unless, whole_answer, written_answer, written_slot}
use Rattle.slot_writer.proofs.Begun.{is_begun, noted_world, text_disks}
use Rattle.slot_writer.proofs.Checking.{settled_as}
use Rattle.slot_writer.proofs.Replacing.{passed_none}

-- ---- nothing was done, and then the rest

kept_same : (system : Configuration) (answer : Result SlotWritten SlotRefusal) (w u : World) → u ≡ w → PutKept system answer w u
kept_same system (Ok written) w u e = inl e
kept_same system (Err refusal) w u e = e

-- a stop
pub puts_stop : (t : Bool) (system : Configuration) (image : List ℕ) (answer : Result SlotWritten SlotRefusal) (a b : Past) (stop : Stop SlotRefusal) → Unchanged t a b → (IsTrue t → Settles {T = SlotWritten} (Err stop) answer) → Fails t a b (stop_fault {T = SlotWritten} (Err stop)) → Puts t system image answer a b (Err stop)
puts_stop t system image answer a b stop unchanged answers fails = record {
  kept = λ told. always_weaker a b (λ u. u ≡ world_now a) (PutKept system answer (world_now a)) (λ u e. kept_same system answer (world_now a) u e) (unchanged.all told);
  answers = answers;
  left = λ told. tt;
  fails = fails;
}

pub puts_later : (t : Bool) (system : Configuration) (image : List ℕ) (p q : Result SlotWritten SlotRefusal) (a b c : Past) (result : Result SlotWritten (Stop SlotRefusal)) → Unchanged t a b → Fails t a b None → (IsTrue t → p ≡ q) → Puts t system image p b c result → Puts t system image q a c result
puts_later t system image p q a b c result unchanged fine same rest = record {
  kept = λ told.
      always_joins a b c (PutKept system q (world_now a))
      (always_weaker a b (λ x. x ≡ world_now a) (PutKept system q (world_now a)) (λ x e. kept_same system q (world_now a) x e) (unchanged.all told))
      (always_weaker b c (PutKept system p (world_now b)) (PutKept system q (world_now a)) (λ x h. subst (λ (w : World). PutKept system q w x) (stood told) (subst (λ (o : Result SlotWritten SlotRefusal). PutKept system o (world_now b) x) (same told) h)) (rest.kept told));
  answers = λ told. settled_as result p q (same told) (rest.answers told);
  left = λ told. left_onto result (stood told) (rest.left told);
  fails = fails_join t a b c (stop_fault result) fine rest.fails;
}
  where
    stood : IsTrue t → world_now b ≡ world_now a
    stood told = now_unchanged t a b unchanged told

    left_onto : (result : Result SlotWritten (Stop SlotRefusal)) → world_now b ≡ world_now a → IfOk result (λ written. IsPut system image written (world_now b) (world_now c)) → IfOk result (λ written. IsPut system image written (world_now a) (world_now c))
    left_onto (Ok written) e h = subst (λ (w : World). IsPut system image written w (world_now c)) e h
    left_onto (Err stop) e h = tt

-- ---- the slot is refused, or it is not

module _ (t : Bool) (system : Configuration) (image : List ℕ) (refusal : Option SlotRefusal) (answer : Result SlotWritten SlotRefusal) (a b : Past) where
  abbrev refused : Result (Unit {0}) SlotRefusal → Result SlotWritten SlotRefusal
  refused (Err r) = Err r
  refused (Ok u) = answer

  turned : (o : Option SlotRefusal) → refused (pass_unless o) ≡ unless o answer
  turned (Some r) = refl
  turned None = refl

  pub puts_refused : (stop : Stop SlotRefusal) → SlotCheck t refusal a b (Err stop) → Puts t system image (unless refusal answer) a b (Err stop)
  puts_refused (Refused r) finds = puts_stop t system image (unless refusal answer) a b (Refused r) finds.unchanged (λ told. sym (turned refusal) ∙ ap refused (finds.answers told)) finds.fails
  puts_refused (Outside kind) finds = puts_stop t system image (unless refusal answer) a b (Outside kind) finds.unchanged (λ told. tt) finds.fails
  puts_refused NoMemory finds = puts_stop t system image (unless refusal answer) a b NoMemory finds.unchanged (λ told. tt) finds.fails

pub puts_after : (t : Bool) (system : Configuration) (image : List ℕ) (refusal : Option SlotRefusal) (p q : Result SlotWritten SlotRefusal) (a b c : Past) (u : Unit {0}) (result : Result SlotWritten (Stop SlotRefusal)) → SlotCheck t refusal a b (Ok u) → (world_now b ≡ world_now a → p ≡ q) → Puts t system image p b c result → Puts t system image (unless refusal q) a c result
puts_after t system image refusal p q a b c u result finds same rest =
    puts_later t system image p (unless refusal q) a b c result finds.unchanged finds.fails
    (λ told. same (now_unchanged t a b finds.unchanged told) ∙ ap (λ (o : Option SlotRefusal). unless o q) (sym (passed_none refusal u (finds.answers told))))
    rest

-- ---- the check of the image

-- it refused the image, or stopped
pub puts_checked : (t : Bool) (system : Configuration) (image : List ℕ) (slot : ℕ) (a b : Past) (stop : Stop PutRefusal) → Unchanged t a b → (IsTrue t → Settles {T = ℕ} (Err stop) (check_of (world_now a) image None (Some (device_at system.slots slot)))) → Fails t a b (stop_fault {T = ℕ} (Err stop)) → Puts t system image (put_answer system slot image (world_now a)) a b (Err (image_stop stop))
puts_checked t system image slot a b (Refused r) unchanged answers fails =
    puts_stop t system image _ a b (Refused (Image r)) unchanged (λ told. ap (checked_answer system slot image (world_now a)) (answers told)) fails
puts_checked t system image slot a b (Outside kind) unchanged answers fails = puts_stop t system image _ a b (Outside kind) unchanged (λ told. tt) fails
puts_checked t system image slot a b NoMemory unchanged answers fails = puts_stop t system image _ a b NoMemory unchanged (λ told. tt) fails

-- it passed the image
module _ (t : Bool) (system : Configuration) (image : List ℕ) (slot size : ℕ) (a b : Past) (unchanged : Unchanged t a b) (checked : IsTrue t → check_of (world_now a) image None (Some (device_at system.slots slot)) ≡ Ok size) where
  pub puts_passed : (c : Past) (result : Result SlotWritten (Stop SlotRefusal)) → Fails t a b None → Puts t system image (written_answer system slot image (world_now b) size) b c result → Puts t system image (put_answer system slot image (world_now a)) a c result
  puts_passed c result fine rest =
      puts_later t system image (written_answer system slot image (world_now b) size) (put_answer system slot image (world_now a)) a b c result unchanged fine
      (λ told. ap (λ (w : World). written_answer system slot image w size) (now_unchanged t a b unchanged told) ∙ sym (ap (checked_answer system slot image (world_now a)) (checked told)))
      rest

-- ---- the status file

-- it was read
pub puts_prepared : (t : Bool) (system : Configuration) (image : List ℕ) (slot size : ℕ) (a b c : Past) (result : Result SlotWritten (Stop SlotRefusal)) → Unchanged t a b → Fails t a b None → Puts t system image (written_answer system slot image (world_now b) size) b c result → Puts t system image (written_answer system slot image (world_now a) size) a c result
puts_prepared t system image slot size a b c result unchanged fine rest =
    puts_later t system image (written_answer system slot image (world_now b) size) (written_answer system slot image (world_now a) size) a b c result unchanged fine
    (λ told. ap (λ (w : World). written_answer system slot image w size) (now_unchanged t a b unchanged told))
    rest

pub note_later : (t : Bool) (system : Configuration) (slot : ℕ) (a b : Past) (note : Note) → Unchanged t a b
    → (IsTrue t → IsNote system.slots (stored_book system (world_now a)) (is_unread system.slots (bytes_at system.status_file (world_now a))) slot note)
    → IsTrue t → IsNote system.slots (stored_book system (world_now b)) (is_unread system.slots (bytes_at system.status_file (world_now b))) slot note
note_later t system slot a b note unchanged noted told =
    subst (λ (w : World). IsNote system.slots (stored_book system w) (is_unread system.slots (bytes_at system.status_file w)) slot note) (sym (now_unchanged t a b unchanged told)) (noted told)

-- a note of it was put there, and then the device is written
enough : (size found : ℕ) → cut_refusal size found ≡ None → size ≤ found
enough size found e = go (nat_lt found size) refl e
  where
    go : (b : Bool) → nat_lt found size ≡ b → cond b (Some (Image (ImageSize size found))) None ≡ None → size ≤ found
    go true is h = absurd (cc)
    go false is h = ltb-false found size is

module _ (t : Bool) (system : Configuration) (image : List ℕ) (slot size : ℕ) (a b : Past) (note : Note) (noted : IsTrue t → IsNote system.slots (stored_book system (world_now a)) (is_unread system.slots (bytes_at system.status_file (world_now a))) slot note) where
  abbrev next : World
  next = with_text system.status_file note.text (world_now a)

  abbrev begun : World
  begun = begun_world system slot (world_now a)

  abbrev device : List ℕ
  device = device_at system.slots slot

  abbrev done : SlotWritten
  done = written_slot system slot image (world_now a) size

  abbrev answer : Result SlotWritten SlotRefusal
  answer = written_answer system slot image (world_now a) size

  into : IsTrue t → next ≡ begun
  into told = noted_world system slot (world_now a) _ note (noted told)

  says : IsTrue t → IsBegun system slot (world_now a)
  says told = is_begun system slot (world_now a) _ note (noted told)

  stepped : (o : Option SlotRefusal) (u : World) → IsBegun system slot (world_now a) → StepKept o begun (world_now a) u → PutKept system (unless o (Ok done)) (world_now a) u
  stepped None u is h =
      ⊎_elim (λ e. inl e) (λ e. inr (is, subst (λ (x : World). DiffersOnlyIn device 0 size begun x) (sym e) (only_refl device 0 size begun))) h
  stepped (Some why) u is h = h

  kept_steps : (result : Result (Unit {0}) (Stop SlotRefusal)) → Steps t (image_refusal image size next) next a b result → IsTrue t → Always a b (PutKept system answer (world_now a))
  kept_steps result steps told =
      always_weaker a b (StepKept (image_refusal image size begun) begun (world_now a)) (PutKept system answer (world_now a)) (λ u h. stepped (image_refusal image size begun) u (says told) h)
      (subst (λ (v : World). Always a b (StepKept (image_refusal image size v) v (world_now a))) (into told) (steps.kept told))

  settled : (stop : Stop SlotRefusal) (o : Option SlotRefusal) → Settles {T = Unit {0}} (Err stop) (pass_unless o) → Settles {T = SlotWritten} (Err stop) (unless o (Ok done))
  settled (Refused r) None e = absurd (cc)
  settled (Refused r) (Some why) e = let same : why ≡ r = cc in ap (λ (x : SlotRefusal). Err x) same
  settled (Outside kind) o e = tt
  settled NoMemory o e = tt

  same_fault : (stop : Stop SlotRefusal) → stop_fault {T = Unit {0}} (Err stop) ≡ stop_fault {T = SlotWritten} (Err stop)
  same_fault (Refused r) = refl
  same_fault (Outside kind) = refl
  same_fault NoMemory = refl

  pub puts_unnoted : (stop : Stop SlotRefusal) → Steps t (image_refusal image size next) next a b (Err stop) → Puts t system image answer a b (Err stop)
  puts_unnoted stop steps = record {
    kept = kept_steps (Err stop) steps;
    answers = λ told. settled stop (image_refusal image size begun) (subst (λ (v : World). Settles {T = Unit {0}} (Err stop) (pass_unless (image_refusal image size v))) (into told) (steps.answers told));
    left = λ told. tt;
    fails = subst (λ (kind : Option Fault). Fails t a b kind) (same_fault stop) steps.fails;
  }

  module _ (c : Past) (u : Unit {0}) (steps : Steps t (image_refusal image size next) next a b (Ok u)) (moments : ChangesOnly t device 0 size b c) where
    stood : IsTrue t → world_now b ≡ begun
    stood told = steps.left told ∙ into told

    unrefused : IsTrue t → image_refusal image size begun ≡ None
    unrefused told = subst (λ (v : World). image_refusal image size v ≡ None) (into told) (passed_none (image_refusal image size next) u (steps.answers told))

    answer_is : IsTrue t → answer ≡ Ok done
    answer_is told = ap (λ (o : Option SlotRefusal). unless o (Ok done)) (unrefused told)

    wrote : IsTrue t → Always a c (PutKept system answer (world_now a))
    wrote told =
        always_joins a b c (PutKept system answer (world_now a)) (kept_steps (Ok u) steps told)
        (always_weaker b c (DiffersOnlyIn device 0 size (world_now b)) (PutKept system answer (world_now a))
        (λ x h. subst (λ (r : Result SlotWritten SlotRefusal). PutKept system r (world_now a) x) (sym (answer_is told)) (inr (says told, subst (λ (w : World). DiffersOnlyIn device 0 size w x) (stood told) h)))
        (moments.all told))

    written : (digest : Digest) → (IsTrue t → IsWritten image device piece size digest (world_now b) (world_now c)) → IsTrue t → IsWritten image device piece size digest begun (world_now c)
    written digest ends told = subst (λ (w : World). IsWritten image device piece size digest w (world_now c)) (stood told) (ends told)

    answered : (digest : Digest) → IsTrue t → IsWritten image device piece size digest begun (world_now c) → answer ≡ Ok (record { slot = slot; size = size; digest = digest; book_unread = note.book_unread })
    answered digest told is =
        answer_is told
        ∙ (λ i. Ok (record { slot = slot; size = size; digest = record { 0 = sym is.hashed i }; book_unread = sym (noted told).book_unread i }))

    not_short : (found : ℕ) → found < size → found ≡ length (readable begun image) → IsTrue t → ⊥
    not_short found fewer ends told = omega (arith, fewer, ends, enough size (length (readable begun image)) (unrefused told))

    pub puts_whole : (result : Result Digest WholeStop) → (IsTrue t → WholeEnds image device piece size (world_now b) (world_now c) result) → Fails t b c (whole_fault result) → Puts t system image answer a c (whole_answer slot size note.book_unread result)
    puts_whole (Ok digest) ends fails = record {
      kept = wrote;
      answers = λ told. answered digest told (written digest ends told);
      left = λ told. record { begun = says told; front = written digest ends told };
      fails = fails_join t a b c None steps.fails fails;
    }
    puts_whole (Err (whole.Outside kind)) ends fails = record { kept = wrote; answers = λ told. tt; left = λ told. tt; fails = fails_join t a b c (Some kind) steps.fails fails }
    puts_whole (Err (whole.Short found)) ends fails = record {
      kept = wrote;
      answers = λ told. absurd (not_short found (ends told).fewer ((ends told).ends ∙ ap (λ (w : World). length (readable w image)) (stood told)) told);
      left = λ told. tt;
      fails = fails_join t a b c None steps.fails fails;
    }
    puts_whole (Err whole.NoMemory) ends fails = record { kept = wrote; answers = λ told. tt; left = λ told. tt; fails = fails_join t a b c None steps.fails fails }

  -- the device and the length of the buffer by other terms
  pub puts_written : (c : Past) (u : Unit {0}) (there : List ℕ) (long : ℕ) (result : Result Digest WholeStop) → there ≡ device → long ≡ piece → Steps t (image_refusal image size next) next a b (Ok u) → ChangesOnly t there 0 size b c
      → (IsTrue t → WholeEnds image there long size (world_now b) (world_now c) result) → Fails t b c (whole_fault result) → Puts t system image answer a c (whole_answer slot size note.book_unread result)
  puts_written c u there long result is full steps moments ends fails =
      puts_whole c u steps (subst (λ (path : List ℕ). ChangesOnly t path 0 size b c) is moments) result
      (λ told. subst (λ (path : List ℕ). WholeEnds image path piece size (world_now b) (world_now c) result) is (subst (λ (n : ℕ). WholeEnds image there n size (world_now b) (world_now c) result) full (ends told)))
      fails

-- the device has room for the image
pub room_noted : (t : Bool) (system : Configuration) (text : Option (List ℕ)) (a b : Past) (device : List ℕ) (size : ℕ) → (IsTrue t → world_now b ≡ with_text system.status_file text (world_now a)) → WriteFits t a device size → WriteFits t b device size
room_noted t system text a b device size is fits = record {
  room = λ told.
      let h = fits.room told in
      let same : disk_length (world_now b) device ≡ disk_length (world_now a) device = ap (λ (w : World). disk_length w device) (is told) ∙ ap (λ (ds : List Named). option_map length (bytes_under ds device)) (text_disks system.status_file text (world_now a)) in
      (h.0, same ∙ h.1, h.2);
}

-- ---- counts

rose_later : (k m n : ℕ) → k ≤ m → CountRose m n → CountRose k n
rose_later k m n le rose = (omega (arith, le, rose.0), λ same. omega (arith, le, rose.0, rose.1 (omega (arith, le, rose.0))))

pub counted_later : (k m n p q r : ℕ) (result : Result SlotWritten (Stop SlotRefusal)) → k ≤ m → p ≤ q → StopCounted m n q r result → StopCounted k n p r result
counted_later k m n p q r (Ok written) le le' h = (omega (arith, le, h.0), omega (arith, le', h.1))
counted_later k m n p q r (Err (Refused why)) le le' h = (omega (arith, le, h.0), omega (arith, le', h.1))
counted_later k m n p q r (Err (Outside kind)) le le' h = (rose_later k m n le h.0, omega (arith, le', h.1))
counted_later k m n p q r (Err NoMemory) le le' h = (omega (arith, le, h.0), omega (arith, le', h.1))
