-- Reads at an offset change nothing but the count of what was fetched.
use Rattle.std.proofs.Common.{◌≡◌, ℕ, ◌+◌, ◌-◌, ◌≤◌, ◌<◌, Bool, true, false, List, [], ◌++◌, length, take, drop, Result, Ok, IsTrue, refl, sym, ◌∙◌, ap, subst, arith, cond}
use Rattle.std.specs.Prelude.{is_some}
use Rattle.std.proofs.Math.Seq.{take-add, take-append-add, drop-append-add}
use Rattle.std.proofs.lemmas.List.{append-nil, drop_all, drop-drop, length-drop, length-take, length-take-le, take-append-le, take_all}
use borrow.Rule.Slice.PartMut.{put_mid, post_of}
use Rattle.boot_model.specs.declared.boot_kind.BootKind.{BootKind}
use Rattle.machine.specs.declared.world.World.{World}
use Rattle.machine.specs.declared.calls.CallStop.{CallStop}
use Rattle.machine.specs.World.{disk, disk_length, readable, with_fetched, HoldsUpTo}
use Rattle.machine.specs.Past.{End, Done, Broken, Overlong, Read, Past, After, world_now}
use Rattle.machine.specs.Calls.{Ends, WriteFits, ReadFull, ReadSome}
use Rattle.machine.specs.Frames.{IsRead, OnlyReads}
use Rattle.machine.proofs.Moments.{always_now, always_ends}
use Rattle.machine.proofs.Joins.{is_read_refl, is_read_same, reads_join}

fetched_grows : (b : Bool) (f n : ℕ) → f ≤ cond b f (f + n)
fetched_grows true f n = omega arith
fetched_grows false f n = omega arith

pub fetching_is_read : (w : World) (p : List ℕ) (n : ℕ) → IsRead w (with_fetched w p n)
unfolding with_fetched
fetching_is_read w p n = record { same = refl; fetched = fetched_grows (is_some (disk w p)) w.fetched n }

-- what is there after reads
pub readable_read : (w0 w : World) (p : List ℕ) → IsRead w0 w → readable w p ≡ readable w0 p
unfolding readable
readable_read w0 w p h = ap (λ (u : World). readable u p) h.same

pub disk_read : (u v : World) (p : List ℕ) → IsRead u v → disk v p ≡ disk u p
disk_read u v p h = ap (λ (w : World). disk w p) h.same

pub holds_read : (u v : World) (p : List ℕ) (end : ℕ) → IsRead u v → HoldsUpTo u p end → HoldsUpTo v p end
holds_read u v p end h room = (room.0, ap (λ (w : World). disk_length w p) h.same ∙ room.1, room.2)

pub room_read : (t : Bool) (a b : Past) (p : List ℕ) (end : ℕ) → OnlyReads t a b → WriteFits t a p end → WriteFits t b p end
room_read t a b p end reads has = record {
  room = λ told. holds_read (world_now a) (world_now b) p end (always_now a b (IsRead (world_now a)) (reads.all told)) (has.room told);
}

after_read : (boot : BootKind) (w v : World) (p : List ℕ) (n : ℕ) (end : End) → After boot (Read p n) end w v → IsRead w v
after_read boot w v p n Done e = subst (λ (u : World). IsRead w u) (sym e) (fetching_is_read w p n)
after_read boot w v p n Broken e = is_read_same w v e
after_read boot w v p n Overlong e = is_read_same w v e

pub reads_at : {T : Type 0} (t : Bool) (a b : Past) (p : List ℕ) (n : ℕ) (result : Result T CallStop) → (IsTrue t → Ends a b (Read p n) result) → OnlyReads t a b
reads_at t a b p n result ends = record {
  all = λ told. always_ends a b (Read p n) (IsRead (world_now a)) result (ends told) (is_read_refl (world_now a)) (λ u h. is_read_same (world_now a) u h) (λ end v h. after_read a.boot (world_now a) v p n end h);
}

-- one read after another counts as one
fetching_twice : (b : Bool) (f n m : ℕ) → cond b (cond b f (f + n)) (cond b f (f + n) + m) ≡ cond b f (f + (n + m))
fetching_twice true f n m = refl
fetching_twice false f n m = omega arith

pub fetching-more : (w : World) (p : List ℕ) (n m : ℕ) → with_fetched (with_fetched w p n) p m ≡ with_fetched w p (n + m)
unfolding with_fetched
fetching-more w p n m = ap (λ (f : ℕ). record w { fetched = f }) (fetching_twice (is_some (disk w p)) w.fetched n m)

pub fetching-none : (w : World) (p : List ℕ) → with_fetched w p 0 ≡ w
unfolding with_fetched
fetching-none w p = ap (λ (f : ℕ). record w { fetched = f }) (none (is_some (disk w p)) w.fetched)
  where
    none : (b : Bool) (f : ℕ) → cond b f (f + 0) ≡ f
    none true f = refl
    none false f = omega arith

-- the bytes that are there after a read into the rest
read_more : (xs : List ℕ) (at done n : ℕ) (into part : List ℕ) → done ≤ length into → n ≤ length part → take done into ≡ take done (drop at xs) → take n part ≡ take n (drop (at + done) xs) → take (done + n) (put_mid done (length into - done) into part) ≡ take (done + n) (drop at xs)
read_more xs at done n into part le fits so_far more =
    let front = length-take-le done into le in
    let left : take (done + n) (take done into ++ (part ++ post_of done (length into - done) into)) ≡ take done into ++ take n (part ++ post_of done (length into - done) into) =
    subst (λ (k : ℕ). take (k + n) (take done into ++ (part ++ post_of done (length into - done) into)) ≡ take done into ++ take n (part ++ post_of done (length into - done) into)) front (take-append-add (take done into) (part ++ post_of done (length into - done) into) n) in
    let part_only = take-append-le n part (post_of done (length into - done) into) fits in
    let right = take-add done n (drop at xs) in
    let there = drop-drop done at xs in
    rw (left, part_only, right, there, so_far, more) refl

-- So far the first bytes of `into` are those under the path, the rest is as it was, and just these were fetched.
pub record Filled (tells : Bool) (old new : Past) (path : List ℕ) (at done : ℕ) (before into : List ℕ) : Type 0 where
  pub reads : OnlyReads tells old new
  pub left : IsTrue tells → world_now new ≡ with_fetched (world_now old) path done
  pub bytes : IsTrue tells → take done into ≡ take done (drop at (readable (world_now old) path))
  pub rest : drop done into ≡ drop done before

pub filled_none : (t : Bool) (a : Past) (p : List ℕ) (at : ℕ) (into : List ℕ) → OnlyReads t a a → Filled t a a p at 0 into into
filled_none t a p at into none = record { reads = none; left = λ told. sym (fetching-none (world_now a) p); bytes = λ told. refl; rest = refl }

module _ (into part : List ℕ) (done n : ℕ) (le : done ≤ length into) (count : length part ≡ length into - done) where
  rest_more : (before : List ℕ) → drop done into ≡ drop done before → drop n part ≡ drop n (take (length into - done) (drop done into)) → drop (done + n) (put_mid done (length into - done) into part) ≡ drop (done + n) before
  rest_more before so_far kept =
      let front : length (take done into) ≡ done = length-take-le done into le in
      let behind : drop (length into - done) (drop done into) ≡ [] = drop_all (length into - done) (drop done into) (omega (arith, length-drop done into)) in
      let one : drop (done + n) (take done into ++ (part ++ post_of done (length into - done) into)) ≡ drop n (part ++ post_of done (length into - done) into) =
      subst (λ (k : ℕ). drop (k + n) (take done into ++ (part ++ post_of done (length into - done) into)) ≡ drop n (part ++ post_of done (length into - done) into)) front (drop-append-add (take done into) (part ++ post_of done (length into - done) into) n) in
      one
      ∙ ap (λ (xs : List ℕ). drop n (part ++ xs)) behind
      ∙ ap (λ (xs : List ℕ). drop n xs) (append-nil part)
      ∙ kept
      ∙ ap (λ (xs : List ℕ). drop n xs) (take_all (length into - done) (drop done into) (omega (arith, length-drop done into)) ∙ so_far)
      ∙ drop-drop n done before

pub filled_more : (t : Bool) (a b c : Past) (p : List ℕ) (at done n : ℕ) (before into part : List ℕ) → done ≤ length into → length part ≡ length into - done → Filled t a b p at done before into → (IsTrue t → Ends {T = ℕ} b c (Read p n) (Ok n)) → ReadSome t (readable (world_now b) p) (at + done) (take (length into - done) (drop done into)) part n → Filled t a c p at (done + n) before (put_mid done (length into - done) into part)
filled_more t a b c p at done n before into part le count filled ends some =
    let fits : n ≤ length part = omega (arith, some.took.within, length-take (length into - done) (drop done into), length-drop done into, count) in
    record {
      reads = reads_join t a b c filled.reads (reads_at {T = ℕ} t b c p n (Ok n) ends);
      left = λ told. (ends told).after ∙ ap (λ (w : World). with_fetched w p n) (filled.left told) ∙ fetching-more (world_now a) p done n;
      bytes = λ told.
          let same = readable_read (world_now a) (world_now b) p (always_now a b (IsRead (world_now a)) (filled.reads.all told)) in
          read_more (readable (world_now a) p) at done n into part le fits (filled.bytes told) (subst (λ (xs : List ℕ). take n part ≡ take n (drop (at + done) xs)) same (some.took.bytes told));
      rest = rest_more into part done n le count before filled.rest some.took.rest;
    }

pub filled_full : (t : Bool) (a b : Past) (p : List ℕ) (at done : ℕ) (before into : List ℕ) → done ≤ length before → (IsTrue t → done < length before → length (readable (world_now a) p) ≤ at + done) → Filled t a b p at done before into → ReadFull t (readable (world_now a) p) at before into done
filled_full t a b p at done before into within full filled = record {
  took = record { within = within; rest = filled.rest; bytes = filled.bytes };
  full = full;
}

-- nothing more was read, so what is there ends
pub filled_end : (t : Bool) (a b : Past) (p : List ℕ) (at done n : ℕ) (before into old part : List ℕ) → Filled t a b p at done before into → ReadSome t (readable (world_now b) p) (at + done) old part n → n ≡ 0 → 0 < length old → IsTrue t → length (readable (world_now a) p) ≤ at + done
filled_end t a b p at done n before into old part filled some none room told =
    let same = readable_read (world_now a) (world_now b) p (always_now a b (IsRead (world_now a)) (filled.reads.all told)) in
    subst (λ (xs : List ℕ). length xs ≤ at + done) same (some.some told none room)
