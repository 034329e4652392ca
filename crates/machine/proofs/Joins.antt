-- Reads, one after another.
use Rattle.std.proofs.Common.{◌≡◌, ℕ, ℤ, Bool, List, Result, Ok, Err, IsTrue, refl, sym, ◌∙◌, ap, subst, arith}
use Rattle.boot_model.specs.declared.boot_kind.BootKind.{BootKind}
use Rattle.machine.specs.declared.world.World.{World}
use Rattle.machine.specs.declared.calls.CallStop.{CallStop}
use Rattle.machine.specs.declared.calls.ReadStop.{ReadStop}
use Rattle.machine.specs.declared.calls.ReadStop.TheVariants as read
use Rattle.machine.specs.Past.{Size, File, Clock, End, Done, Broken, Overlong, After, Past, world_now, Always, IsCall}
use Rattle.machine.specs.Calls.{Ends, FileEnds}
use Rattle.machine.specs.Frames.{IsRead, OnlyReads, Unchanged}
use Rattle.machine.proofs.Moments.{always_start, always_joins, always_now, always_weaker, always_did, always_ends}

pub is_read_refl : (w : World) → IsRead w w
is_read_refl w = record { same = refl; fetched = omega arith }

pub is_read_trans : (u v w : World) → IsRead u v → IsRead v w → IsRead u w
is_read_trans u v w uv vw = record {
  same = vw.same ∙ ap (λ (x : World). record x { fetched = w.fetched }) uv.same;
  fetched = omega (arith, uv.fetched, vw.fetched);
}

pub is_read_same : (w u : World) → u ≡ w → IsRead w u
is_read_same w u e = subst (λ (x : World). IsRead w x) (sym e) (is_read_refl w)

pub reads_none : (t : Bool) (a : Past) → OnlyReads t a a
reads_none t a = record { all = λ told. always_start a (IsRead (world_now a)) (is_read_refl (world_now a)) }

pub reads_join : (t : Bool) (a b c : Past) → OnlyReads t a b → OnlyReads t b c → OnlyReads t a c
reads_join t a b c ab bc = record {
  all = λ told.
      let left = ab.all told in
      always_joins a b c (IsRead (world_now a)) left (always_weaker b c (IsRead (world_now b)) (IsRead (world_now a)) (λ u h. is_read_trans (world_now a) (world_now b) u (always_now a b (IsRead (world_now a)) left) h) (bc.all told));
}

-- nothing changed
pub unchanged_none : (t : Bool) (a : Past) → Unchanged t a a
unchanged_none t a = record { all = λ told. always_start a (λ u. u ≡ world_now a) refl }

pub unchanged_join : (t : Bool) (a b c : Past) → Unchanged t a b → Unchanged t b c → Unchanged t a c
unchanged_join t a b c ab bc = record {
  all = λ told.
      let left = ab.all told in
      always_joins a b c (λ u. u ≡ world_now a) left (always_weaker b c (λ u. u ≡ world_now b) (λ u. u ≡ world_now a) (λ u h. h ∙ always_now a b (λ u. u ≡ world_now a) left) (bc.all told));
}

pub now_unchanged : (t : Bool) (a b : Past) → Unchanged t a b → IsTrue t → world_now b ≡ world_now a
now_unchanged t a b ab told = always_now a b (λ u. u ≡ world_now a) (ab.all told)

pub reads_unchanged : (t : Bool) (a b : Past) → Unchanged t a b → OnlyReads t a b
reads_unchanged t a b ab = record { all = λ told. always_weaker a b (λ u. u ≡ world_now a) (IsRead (world_now a)) (λ u h. is_read_same (world_now a) u h) (ab.all told) }

size_after : (boot : BootKind) (path : List ℕ) (w : World) (end : End) (v : World) → After boot (Size path) end w v → v ≡ w
size_after boot path w Done v h = h
size_after boot path w Broken v h = h
size_after boot path w Overlong v h = h

-- the asking of a length
pub unchanged_size : {T : Type 0} (t : Bool) (a b : Past) (path : List ℕ) (result : Result T CallStop) → (IsTrue t → Ends a b (Size path) result) → Unchanged t a b
unchanged_size t a b path result ends = record {
  all = λ told. always_ends a b (Size path) (λ u. u ≡ world_now a) result (ends told) refl (λ u h. h) (λ end v h. size_after a.boot path (world_now a) end v h);
}

-- a look at the clock
clock_after : (boot : BootKind) (seconds : ℤ) (w : World) (end : End) (v : World) → After boot (Clock seconds) end w v → v ≡ w
clock_after boot seconds w Done v h = h
clock_after boot seconds w Broken v h = h
clock_after boot seconds w Overlong v h = h

pub unchanged_clock : {T : Type 0} (t : Bool) (a b : Past) (seconds : ℤ) (result : Result T CallStop) → (IsTrue t → Ends a b (Clock seconds) result) → Unchanged t a b
unchanged_clock t a b seconds result ends = record {
  all = λ told. always_ends a b (Clock seconds) (λ u. u ≡ world_now a) result (ends told) refl (λ u h. h) (λ end v h. clock_after a.boot seconds (world_now a) end v h);
}

-- the reading of a whole file
file_after : (boot : BootKind) (path : List ℕ) (w : World) (end : End) (v : World) → After boot (File path) end w v → v ≡ w
file_after boot path w Done v h = h
file_after boot path w Broken v h = h
file_after boot path w Overlong v h = h

file_did : (a b : Past) (path : List ℕ) (end : End) → IsCall a b (File path) end → Always a b (λ u. u ≡ world_now a)
file_did a b path end did = always_did a b (File path) end (λ u. u ≡ world_now a) did refl (λ u h. h) (file_after a.boot path (world_now a) end (world_now b) did.after)

file_leaves : {T : Type 0} (a b : Past) (path : List ℕ) (result : Result T ReadStop) → FileEnds a b path result → Always a b (λ u. u ≡ world_now a)
file_leaves a b path (Ok x) did = file_did a b path Done did
file_leaves a b path (Err read.Failed) did = file_did a b path Broken did
file_leaves a b path (Err (read.TooLong n)) did = file_did a b path Overlong did
file_leaves a b path (Err read.NoMemory) same = subst (λ (q : Past). Always a q (λ u. u ≡ world_now a)) (sym same) (always_start a (λ u. u ≡ world_now a) refl)

pub unchanged_file : {T : Type 0} (t : Bool) (a b : Past) (path : List ℕ) (result : Result T ReadStop) → (IsTrue t → FileEnds a b path result) → Unchanged t a b
unchanged_file t a b path result ends = record { all = λ told. file_leaves a b path result (ends told) }
