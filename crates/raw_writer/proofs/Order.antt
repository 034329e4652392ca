-- In which order the pieces are written, and what stands on the device on the way.
use Rattle.std.proofs.Common.{◌≡◌, ◌⊎◌, ⊎_elim, ℕ, Bool, ◌+◌, ◌-◌, ◌*◌, ◌<◌, ◌≤◌, List, [], ◌∷◌, ◌++◌, length, take, drop, Some, Option, Result, IsTrue, refl, sym, ◌∙◌, ap, subst, arith, append_assoc}
use Rattle.std.specs.Prelude.{min}
use Rattle.std.specs.Option.{option_map}
use Rattle.std.proofs.lemmas.Bool.Decides.{nat_tests}
use Rattle.std.proofs.lemmas.List.{append-nil, take_all}
use Rattle.machine.specs.declared.world.Span.{Span}
use Rattle.machine.specs.declared.world.World.{World}
use Rattle.machine.specs.declared.calls.CallStop.{CallStop}
use Rattle.machine.specs.World.{disk, readable, with_write, HoldsUpTo}
use Rattle.machine.specs.Past.{ArbitraryWrite, Sync, End, Done, Broken, Overlong, After, Past, world_now}
use Rattle.machine.specs.Calls.{Ends, WriteFits}
use Rattle.machine.specs.Frames.{IsRead}
use Rattle.machine.proofs.Moments.{always_goes_on, always_joins, always_start, always_weaker}
use Rattle.machine.proofs.Joins.{is_read_refl}
use Rattle.machine.proofs.Reading.{disk_read}
use Rattle.machine.proofs.Only.{bytes_of, disk-written}
use Rattle.raw_writer.specs.Whole.{with_image_front, span, pieces, AddsInOrder, CopiesInOrder, IsPartCopied, OneWriteAtMost, WritesAtMost, WritesInOrder}
use Rattle.raw_writer.proofs.Copied.{CopiedSoFar, copied_none, front_then, pieces_first, pieces_more, synced_leaves}

same_writes : (w u : World) → IsRead w u → u.writes ≡ w.writes
same_writes w u read = ap (λ (x : World). x.writes) read.same

write_adds : (w : World) (device : List ℕ) (at : ℕ) (bytes : List ℕ) → (with_write w device at bytes).writes ≡ w.writes ++ span device at (length bytes) ∷ []
unfolding with_write
write_adds w device at bytes = refl

whole_or_last : (piece size done n : ℕ) → 0 < n → n ≡ min piece (size - done) → ((n ≡ piece) × (done + piece ≤ size)) ⊎ (done + n ≡ size)
whole_or_last piece size done n some least = grind (arith, nat_tests)

-- what was copied so far, and reads
part_copied : (image device : List ℕ) (piece size done : ℕ) (old w u : World) → done ≤ size → CopiedSoFar image device piece done old w → IsRead w u → IsPartCopied image device piece size old u
part_copied image device piece size done old w u le so_far read =
    let none : done ≡ done + 0 = omega arith in
    record {
      done = done;
      any = [];
      enough = so_far.enough;
      one_piece = omega arith;
      within = omega (arith, le);
      front = disk_read w u device read
          ∙ so_far.front
          ∙ ap (λ (xs : List ℕ). option_map (λ (bytes : List ℕ). xs ++ drop done bytes) (disk old device)) (sym (append-nil (take done (readable old image))))
          ∙ ap (λ (d : ℕ). option_map (λ (bytes : List ℕ). take done (readable old image) ++ [] ++ drop d bytes) (disk old device)) none;
      writes = same_writes w u read ∙ so_far.writes ∙ ap (λ (d : ℕ). old.writes ++ pieces device piece d) none;
    }

-- a piece more, at a place that is a multiple of a piece
module _ (image device : List ℕ) (piece size k done n : ℕ) (at : done ≡ k * piece) (some : 0 < n) (least : n ≡ min piece (size - done)) (old w : World) (holds : HoldsUpTo old device size) (so_far : CopiedSoFar image device piece done old w) where
  room : 0 < piece
  room = omega (arith, some, least)

  first : take k (pieces device piece size) ≡ pieces device piece done
  first = pieces_first device piece k size room (omega (arith, some, least, at)) ∙ ap (λ (d : ℕ). pieces device piece d) (sym at)

  next : pieces device piece (done + n) ≡ pieces device piece done ++ span device done n ∷ []
  next =
      subst (λ (d : ℕ). pieces device piece (d + n) ≡ pieces device piece d ++ span device d n ∷ []) (sym at)
      (pieces_more device piece k n some (omega (arith, least)))

  last : (count : ℕ) × (take count (pieces device piece size) ≡ pieces device piece (done + n))
  last =
      ⊎_elim
      (λ full.
      let end : (k + 1) * piece ≡ done + n = omega (arith, at, full.0) in
      (k + 1, pieces_first device piece (k + 1) size room (omega (arith, end, full.0, full.1)) ∙ ap (λ (d : ℕ). pieces device piece d) end))
      (λ end. (length (pieces device piece size), take_all (length (pieces device piece size)) (pieces device piece size) (omega arith) ∙ ap (λ (d : ℕ). pieces device piece d) (sym end)))
      (whole_or_last piece size done n some least)

  module _ (u x : World) (read : IsRead w x) (wrote : ArbitraryWrite device done n x u) where
    writes_are : u.writes ≡ old.writes ++ pieces device piece (done + n)
    writes_are =
        ap (λ (y : World). y.writes) wrote.2
        ∙ write_adds x device done wrote.0
        ∙ ap (λ (c : ℕ). x.writes ++ span device done c ∷ []) wrote.1
        ∙ ap (λ (s : List Span). s ++ span device done n ∷ []) (same_writes w x read ∙ so_far.writes)
        ∙ append_assoc old.writes (pieces device piece done) (span device done n ∷ [])
        ∙ ap (λ (s : List Span). old.writes ++ s) (sym next)

    front_is : disk u device ≡ option_map (λ (bytes : List ℕ). take done (readable old image) ++ wrote.0 ++ drop (done + length wrote.0) bytes) (disk old device)
    front_is =
        let was = bytes_of (disk old device) holds.0 holds.1 in
        let here : disk x device ≡ Some (with_image_front done (readable old image) was.0) = disk_read w x device read ∙ so_far.front ∙ ap (λ (o : Option (List ℕ)). option_map (with_image_front done (readable old image)) o) was.1 in
        ap (λ (y : World). disk y device) wrote.2
        ∙ disk-written x device done wrote.0 (with_image_front done (readable old image) was.0) here
        ∙ ap (λ (xs : List ℕ). Some xs) (front_then (readable old image) was.0 done wrote.0 so_far.enough)
        ∙ sym (ap (λ (o : Option (List ℕ)). option_map (λ (bytes : List ℕ). take done (readable old image) ++ wrote.0 ++ drop (done + length wrote.0) bytes) o) was.1)

    part_written : IsPartCopied image device piece size old u
    part_written = record {
      done = done;
      any = wrote.0;
      enough = so_far.enough;
      one_piece = omega (arith, wrote.1, least);
      within = omega (arith, wrote.1, least, some);
      front = front_is;
      writes = writes_are ∙ ap (λ (c : ℕ). old.writes ++ pieces device piece (done + c)) (sym wrote.1);
    }

  adds_piece : (u : World) → WritesAtMost device done n w u → AddsInOrder (pieces device piece size) old u
  adds_piece u h =
      ⊎_elim
      (λ read. record { count = k; writes = same_writes w u read ∙ so_far.writes ∙ ap (λ (s : List Span). old.writes ++ s) (sym first) })
      (λ wrote. record { count = last.0; writes = writes_are u wrote.0 wrote.1 wrote.2 ∙ ap (λ (s : List Span). old.writes ++ s) (sym last.1) })
      h.is

  copies_piece : (u : World) → WritesAtMost device done n w u → IsPartCopied image device piece size old u
  copies_piece u h =
      ⊎_elim
      (λ read. part_copied image device piece size done old w u (omega (arith, some, least)) so_far read)
      (λ wrote. part_written u wrote.0 wrote.1 wrote.2)
      h.is

-- before the first piece
pub order_none : (t : Bool) (spans : List Span) (a : Past) → WritesInOrder t spans a a
order_none t spans a = record { all = λ told. always_start a (AddsInOrder spans (world_now a)) (record { count = 0; writes = sym (append-nil (world_now a).writes) }) }

pub copies_none : (t : Bool) (image device : List ℕ) (piece size : ℕ) (a : Past) → 0 < piece → WriteFits t a device size → CopiesInOrder t image device piece size a a
copies_none t image device piece size a some fits = record {
  all = λ told.
      always_start a (IsPartCopied image device piece size (world_now a))
      (part_copied image device piece size 0 (world_now a) (world_now a) (world_now a) (omega arith) (copied_none (world_now a) image device piece size some (fits.room told)) (is_read_refl (world_now a)));
}

-- one piece more
module _ (t : Bool) (a b c : Past) (image device : List ℕ) (piece size k done n : ℕ) (at : done ≡ k * piece) (some : 0 < n) (least : n ≡ min piece (size - done)) (fits : WriteFits t a device size) (so_far : IsTrue t → CopiedSoFar image device piece done (world_now a) (world_now b)) (once : OneWriteAtMost t device done n b c) where
  pub order_step : WritesInOrder t (pieces device piece size) a b → WritesInOrder t (pieces device piece size) a c
  order_step order = record {
    all = λ told.
        always_joins a b c (AddsInOrder (pieces device piece size) (world_now a)) (order.all told)
        (always_weaker b c (WritesAtMost device done n (world_now b)) (AddsInOrder (pieces device piece size) (world_now a)) (λ u h. adds_piece image device piece size k done n at some least (world_now a) (world_now b) (fits.room told) (so_far told) u h) (once.all told));
  }

  pub copies_step : CopiesInOrder t image device piece size a b → CopiesInOrder t image device piece size a c
  copies_step copies = record {
    all = λ told.
        always_joins a b c (IsPartCopied image device piece size (world_now a)) (copies.all told)
        (always_weaker b c (WritesAtMost device done n (world_now b)) (IsPartCopied image device piece size (world_now a)) (λ u h. copies_piece image device piece size k done n at some least (world_now a) (world_now b) (fits.room told) (so_far told) u h) (once.all told));
  }

-- a sync writes nothing
sync_leaves : (p : Past) (w v : World) (device : List ℕ) (end : End) → After p.boot (Sync device) end w v → (v.writes ≡ w.writes) × (disk v device ≡ disk w device)
sync_leaves p w v device Done h = (ap (λ (x : World). x.writes) h ∙ (synced_leaves w device).2, ap (λ (x : World). disk x device) h ∙ (synced_leaves w device).0)
sync_leaves p w v device Broken h = (ap (λ (x : World). x.writes) h, ap (λ (x : World). disk x device) h)
sync_leaves p w v device Overlong h = (ap (λ (x : World). x.writes) h, ap (λ (x : World). disk x device) h)

pub order_sync : {T : Type 0} (t : Bool) (spans : List Span) (a b c : Past) (device : List ℕ) (result : Result T CallStop) → WritesInOrder t spans a b → (IsTrue t → Ends b c (Sync device) result) → WritesInOrder t spans a c
order_sync t spans a b c device result order ends = record {
  all = λ told.
      always_goes_on a b c (Sync device) (AddsInOrder spans (world_now a)) result (order.all told) (ends told)
      (λ u here h. subst (λ (x : World). AddsInOrder spans (world_now a) x) (sym h) here)
      (λ end v here h. record { count = here.count; writes = (sync_leaves b (world_now b) v device end h).0 ∙ here.writes });
}

pub copies_sync : {T : Type 0} (t : Bool) (image device : List ℕ) (piece size : ℕ) (a b c : Past) (result : Result T CallStop) → CopiesInOrder t image device piece size a b → (IsTrue t → Ends b c (Sync device) result) → CopiesInOrder t image device piece size a c
copies_sync t image device piece size a b c result copies ends = record {
  all = λ told.
      always_goes_on a b c (Sync device) (IsPartCopied image device piece size (world_now a)) result (copies.all told) (ends told)
      (λ u here h. subst (λ (x : World). IsPartCopied image device piece size (world_now a) x) (sym h) here)
      (λ end v here h.
      let left = sync_leaves b (world_now b) v device end h in
      record { done = here.done; any = here.any; enough = here.enough; one_piece = here.one_piece; within = here.within; front = left.1 ∙ here.front; writes = left.0 ∙ here.writes });
}
