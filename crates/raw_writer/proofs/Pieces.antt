-- One piece: read, and written.
use Rattle.std.proofs.Common.{◌≡◌, ℕ, ◌+◌, ◌-◌, ◌<◌, ◌≤◌, inl, inr, ⊎_elim, Bool, IsTrue, List, length, take, drop, Result, sym, ◌∙◌, ap, subst, arith}
use Rattle.std.proofs.lemmas.List.{length-take, length-take-le, length-drop, take_all}
use Rattle.machine.specs.declared.world.World.{World}
use Rattle.machine.specs.declared.calls.CallStop.{CallStop}
use Rattle.machine.specs.World.{readable, with_write, with_fetched}
use Rattle.machine.specs.Past.{Write, End, Done, Broken, Overlong, After, Past, world_now}
use Rattle.machine.specs.Calls.{Ends, WriteFits}
use Rattle.machine.specs.Frames.{IsRead, OnlyReads, ChangesOnly}
use Rattle.machine.proofs.Moments.{always_ends, always_joins, always_now, always_weaker}
use Rattle.machine.proofs.Reading.{room_read}
use Rattle.machine.proofs.Only.{writes_join, writes_none, writes_write}
use Rattle.raw_writer.specs.Whole.{IsCopied, IsCut, OneWriteAtMost, WritesAtMost}

-- the disk has room for the piece as it was read
pub piece_room : (t : Bool) (a b : Past) (device : List ℕ) (at m n : ℕ) → m ≡ n → OnlyReads t a b → WriteFits t a device (at + n) → WriteFits t b device (at + m)
piece_room t a b device at m n same reads has =
    subst (λ (k : ℕ). WriteFits t b device (at + k)) (sym same) (room_read t a b device (at + n) reads has)

-- a read and a write
pub piece_writes : {T : Type 0} (t : Bool) (a b c : Past) (device : List ℕ) (at m n : ℕ) (result : Result T CallStop) → m ≡ n → OnlyReads t a b → WriteFits t a device (at + n) → (IsTrue t → Ends b c (Write device at m) result) → ChangesOnly t device at (at + n) a c
piece_writes t a b c device at m n result same reads has ends =
    subst (λ (k : ℕ). ChangesOnly t device at (at + k) a c) same
    (writes_join t device at (at + m) a b c (writes_none t device at (at + m) a b reads) (writes_write t b c device at m result (piece_room t a b device at m n same reads has) ends))

-- the same, as one write at most
pub once_reads : (t : Bool) (a b : Past) (device : List ℕ) (at n : ℕ) → OnlyReads t a b → OneWriteAtMost t device at n a b
once_reads t a b device at n reads = record {
  all = λ told. always_weaker a b (IsRead (world_now a)) (WritesAtMost device at n (world_now a)) (λ u h. record { is = inl h }) (reads.all told);
}

once_after : (p : Past) (u w v : World) (device : List ℕ) (at n : ℕ) (end : End) → IsRead u w → After p.boot (Write device at n) end w v → WritesAtMost device at n u v
once_after p u w v device at n Done read h = record { is = inr (w, read, h) }
once_after p u w v device at n Broken read h = record { is = ⊎_elim (λ e. inl (subst (λ (x : World). IsRead u x) (sym e) read)) (λ wrote. inr (w, read, wrote)) h }
once_after p u w v device at n Overlong read h = record { is = inl (subst (λ (x : World). IsRead u x) (sym h) read) }

pub once_write : {T : Type 0} (t : Bool) (a b c : Past) (device : List ℕ) (at m n : ℕ) (result : Result T CallStop) → m ≡ n → OnlyReads t a b → (IsTrue t → Ends b c (Write device at m) result) → OneWriteAtMost t device at n a c
once_write t a b c device at m n result same reads ends =
    subst (λ (k : ℕ). OneWriteAtMost t device at k a c) same
    (record {
      all = λ told.
          let read = always_now a b (IsRead (world_now a)) (reads.all told) in
          always_joins a b c (WritesAtMost device at m (world_now a)) ((once_reads t a b device at m reads).all told)
          (always_ends b c (Write device at m) (WritesAtMost device at m (world_now a)) result (ends told) (record { is = inl read }) (λ u h. record { is = inr (world_now b, read, h) }) (λ end v h. once_after b (world_now a) (world_now b) v device at m end read h));
    })

piece_short : (image into : List ℕ) (at found : ℕ) → found ≤ length into → take found into ≡ take found (drop at image) → length image ≤ at + found → at ≤ length image → at + found ≡ length image
piece_short image into at found le same end begins =
    let one = length-take-le found into le in
    let two : length (take found (drop at image)) ≤ length image - at = simp (length-take, length-drop) (omega arith) in
    omega (arith, one, two, ap length same)

-- the image ends within the piece
pub piece_cut : (u v : World) (image : List ℕ) (at count : ℕ) (piece : List ℕ) → count < length piece → take count piece ≡ take count (drop at (readable u image)) → length (readable u image) ≤ at + count → v ≡ with_fetched u image count → IsCut image at piece (at + count) u v
piece_cut u v image at count piece less same end left =
    let back : count ≡ at + count - at = omega arith in
    record {
      starts = omega arith;
      fewer = omega (arith, less);
      ends = λ begins. piece_short (readable u image) piece at count (omega (arith, less)) same end begins;
      left = left ∙ ap (λ (k : ℕ). with_fetched u image k) back;
    }

piece_enough : (image into : List ℕ) (at : ℕ) → 0 < length into → take (length into) into ≡ take (length into) (drop at image) → at + length into ≤ length image
piece_enough image into at some same =
    let one = length-take-le (length into) into (omega arith) in
    let two : length (take (length into) (drop at image)) ≤ length image - at = simp (length-take, length-drop) (omega arith) in
    omega (arith, one, two, ap length same)

pub piece_copied : (u v w : World) (image device : List ℕ) (at found : ℕ) (piece : List ℕ) → 0 < length piece → found ≡ length piece → take found piece ≡ take found (drop at (readable u image)) → v ≡ with_fetched u image found → w ≡ with_write v device at piece → IsCopied image device at piece u w
piece_copied u v w image device at found piece some all same fetched wrote =
    let at_all = subst (λ (k : ℕ). take k piece ≡ take k (drop at (readable u image))) all same in
    record {
      enough = piece_enough (readable u image) piece at some at_all;
      bytes = sym (take_all (length piece) piece (omega arith)) ∙ at_all;
      left = wrote ∙ ap (λ (x : World). with_write x device at piece) (fetched ∙ ap (λ (k : ℕ). with_fetched u image k) all);
    }
