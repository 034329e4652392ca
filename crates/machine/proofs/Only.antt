-- Writes in one range of one disk: they compose, and each call on the range keeps them.
use Rattle.std.proofs.Common.{◌≡◌, ◌≢◌, inl, inr, ⊎_elim, ℕ, ◌+◌, ◌≤◌, ◌<◌, Bool, true, false, List, [], ◌∷◌, ◌++◌, length, Option, Some, None, refl, sym, ◌∙◌, ap, subst, arith, append_assoc, IsTrue}
use Rattle.std.proofs.lemmas.Bool.{true≢false, and_parts, or_cases, leb-true, ltb-true}
use Rattle.std.proofs.lemmas.List.{append-nil}
use Rattle.std.specs.List.{All}
use Rattle.std.proofs.lemmas.List.Elements.{All-append, All-cons, All-head, All-nil, All-tail}
use Rattle.std.proofs.lemmas.Slice.Eq.{bytes_eq-Decides}
use Rattle.std.specs.Prelude.{◌&&◌, bytes_eq, nat_le, nat_lt, not, slice_get, slice_index_or, Result}
use Rattle.std.specs.Option.{option_map, option_and_then}
use Rattle.boot_model.specs.declared.boot_kind.BootKind.{BootKind}
use Rattle.machine.specs.declared.world.Span.{Span}
use Rattle.machine.specs.declared.world.World.{World}
use Rattle.machine.specs.declared.calls.CallStop.{CallStop}
use Rattle.machine.specs.World.{disk, disk_byte, disk_length, readable, patch_at, with_write, with_sync, HoldsUpTo}
use Rattle.machine.specs.Crash.{Crash, covers, is_in}
use Rattle.machine.specs.Past.{ArbitraryWrite, Sync, Write, End, Done, Broken, Overlong, After, Past, world_now}
use Rattle.machine.specs.Calls.{Ends, WriteFits}
use Rattle.machine.specs.Frames.{AddsTouching, AddsWrites, CrashChangesOnly, InRange, IsRead, SameBut, SpanIn, DiffersOnlyIn, OnlyReads, ChangesOnly}
use Rattle.machine.proofs.Moments.{always_joins, always_now, always_weaker, always_ends, held_of}
use Rattle.machine.proofs.Worlds.{bytes_under-patch_same, bytes_under-patch_other, by_path, byte-patched, length-patched, is_in_one, is_in-append, is_in-filter, same_disk}

-- what writes are added
no_writes : (device : List ℕ) (from to : ℕ) (spans : List Span) → AddsWrites device from to spans spans
no_writes device from to spans = record { added = []; grows = sym (append-nil spans); within = All-nil (SpanIn device from to) }

more_writes : (device : List ℕ) (from to : ℕ) (a b c : List Span) → AddsWrites device from to a b → AddsWrites device from to b c → AddsWrites device from to a c
more_writes device from to a b c ab bc = record {
  added = ab.added ++ bc.added;
  grows = bc.grows ∙ ap (λ (s : List Span). s ++ bc.added) ab.grows ∙ append_assoc a ab.added bc.added;
  within = All-append (SpanIn device from to) ab.added bc.added ab.within bc.within;
}

wider_writes : (device : List ℕ) (from to from' to' : ℕ) (a b : List Span) → from' ≤ from → to ≤ to' → AddsWrites device from to a b → AddsWrites device from' to' a b
wider_writes device from to from' to' a b lower higher ab = record {
  added = ab.added;
  grows = ab.grows;
  within = λ k d lt. wider (slice_index_or ab.added k d) (ab.within k d lt);
}
  where
    wider : (s : Span) → SpanIn device from to s → SpanIn device from' to' s
    wider s h = record { path = h.path; start = omega (arith, h.start); end = omega (arith, h.end) }

one_write : (spans : List Span) (device : List ℕ) (at n : ℕ) (bytes : List ℕ) → length bytes ≡ n → AddsWrites device at (at + n) spans (spans ++ record { path = device; at = at; length = length bytes } ∷ [])
one_write spans device at n bytes count = record {
  added = record { path = device; at = at; length = length bytes } ∷ [];
  grows = refl;
  within = All-cons (SpanIn device at (at + n)) (record { path = device; at = at; length = length bytes }) [] (record { path = refl; start = omega arith; end = omega (arith, count) }) (All-nil (SpanIn device at (at + n)));
}

pub only_refl : (device : List ℕ) (from to : ℕ) (w : World) → DiffersOnlyIn device from to w w
only_refl device from to w = record {
  files = refl;
  vars = refl;
  runs = refl;
  lengths = λ path. refl;
  bytes = λ path i free. refl;
  pending = λ path i h. inl h;
  writes = no_writes device from to w.writes;
  fetched = omega arith;
}

pub only_trans : (device : List ℕ) (from to : ℕ) (u v w : World) → DiffersOnlyIn device from to u v → DiffersOnlyIn device from to v w → DiffersOnlyIn device from to u w
only_trans device from to u v w uv vw = record {
  files = vw.files ∙ uv.files;
  vars = vw.vars ∙ uv.vars;
  runs = vw.runs ∙ uv.runs;
  lengths = λ path. vw.lengths path ∙ uv.lengths path;
  bytes = λ path i free. vw.bytes path i free ∙ uv.bytes path i free;
  pending = λ path i h. ⊎_elim (uv.pending path i) (λ r. inr r) (vw.pending path i h);
  writes = more_writes device from to u.writes v.writes w.writes uv.writes vw.writes;
  fetched = omega (arith, uv.fetched, vw.fetched);
}

pub only_wider : (device : List ℕ) (from to from' to' : ℕ) (u v : World) → from' ≤ from → to ≤ to' → DiffersOnlyIn device from to u v → DiffersOnlyIn device from' to' u v
only_wider device from to from' to' u v lower higher uv = record {
  files = uv.files;
  vars = uv.vars;
  runs = uv.runs;
  lengths = uv.lengths;
  bytes = λ path i free. uv.bytes path i (λ r. free (wider path i r));
  pending = λ path i h. ⊎_elim (λ e. inl e) (λ r. inr (wider path i r)) (uv.pending path i h);
  writes = wider_writes device from to from' to' u.writes v.writes lower higher uv.writes;
  fetched = uv.fetched;
}
  where
    wider : (path : List ℕ) (i : ℕ) → InRange device from to path i → InRange device from' to' path i
    wider path i r = (r.0, omega (arith, r.1), omega (arith, r.2))

-- each call
pub only_read : (device : List ℕ) (from to : ℕ) (u v : World) → IsRead u v → DiffersOnlyIn device from to u v
only_read device from to u v h = subst (λ (w : World). DiffersOnlyIn device from to u w) (sym h.same) (fetched device from to u v.fetched h.fetched)
  where
    fetched : (device : List ℕ) (from to : ℕ) (w : World) (f : ℕ) → w.fetched ≤ f → DiffersOnlyIn device from to w (record w { fetched = f })
    fetched device from to w f grows = record {
      files = refl;
      vars = refl;
      runs = refl;
      lengths = λ path. refl;
      bytes = λ path i free. refl;
      pending = λ path i h. inl h;
      writes = no_writes device from to w.writes;
      fetched = grows;
    }

-- the bytes of a disk that was written
pub disk-written : (w : World) (device : List ℕ) (at : ℕ) (bytes old : List ℕ) → disk w device ≡ Some old → disk (with_write w device at bytes) device ≡ Some (patch_at old at bytes)
unfolding with_write
disk-written w device at bytes old is = bytes_under-patch_same w.disks device at bytes old is

pub disk-written_other : (w : World) (device path : List ℕ) (at : ℕ) (bytes : List ℕ) → path ≢ device → disk (with_write w device at bytes) path ≡ disk w path
unfolding with_write
disk-written_other w device path at bytes ne = bytes_under-patch_other w.disks device path at bytes ne

-- the bytes of a disk with a length
pub bytes_of : (o : Option (List ℕ)) (n : ℕ) → option_map length o ≡ Some n → (bytes : List ℕ) × (o ≡ Some bytes) × (length bytes ≡ n)
bytes_of None n e = let bad : ⊥ = cc in absurd bad
bytes_of (Some bytes) n e = (bytes, refl, cc)

pub only_written : (w : World) (device : List ℕ) (at n : ℕ) (bytes : List ℕ) → HoldsUpTo w device (at + n) → length bytes ≡ n → DiffersOnlyIn device at (at + n) w (with_write w device at bytes)
unfolding with_write
only_written w device at n bytes holds count =
    let old = bytes_of (disk w device) holds.0 holds.1 in
    let is : disk (with_write w device at bytes) device ≡ Some (patch_at old.0 at bytes) = disk-written w device at bytes old.0 old.1 in
    let fits : at + length bytes ≤ length old.0 = omega (arith, holds.2, old.2, count) in
    record {
      files = refl;
      vars = refl;
      runs = refl;
      lengths = λ path.
          ⊎_elim
          (λ same. subst (λ (p : List ℕ). disk_length (with_write w device at bytes) p ≡ disk_length w p) (sym same)
          (ap (λ (o : Option (List ℕ)). option_map length o) is ∙ ap (λ (k : ℕ). Some k) (length-patched old.0 at bytes fits) ∙ sym (ap (λ (o : Option (List ℕ)). option_map length o) old.1)))
          (λ other. ap (λ (o : Option (List ℕ)). option_map length o) (disk-written_other w device path at bytes other))
          (by_path path device);
      bytes = λ path i free.
          ⊎_elim
          (λ same. subst (λ (p : List ℕ). disk_byte (with_write w device at bytes) p i ≡ disk_byte w p i) (sym same)
          (ap (λ (o : Option (List ℕ)). option_and_then (λ (x : List ℕ). slice_get x i) o) is
          ∙ byte-patched old.0 at bytes i fits (λ low high. free (same, low, subst (λ (k : ℕ). i < at + k) count high))
          ∙ sym (ap (λ (o : Option (List ℕ)). option_and_then (λ (x : List ℕ). slice_get x i) o) old.1)))
          (λ other. ap (λ (o : Option (List ℕ)). option_and_then (λ (x : List ℕ). slice_get x i) o) (disk-written_other w device path at bytes other))
          (by_path path device);
      pending = λ path i h.
          ⊎_elim (λ e. inl e)
          (λ r. let p = is_in_one device path at (length bytes) i r in inr (sym p.0, p.1, omega (arith, p.2, count)))
          (is_in-append w.pending (record { path = device; at = at; length = length bytes } ∷ []) path i h);
      writes = one_write w.writes device at n bytes count;
      fetched = omega arith;
    }

pub only_synced : (device : List ℕ) (from to : ℕ) (w : World) → DiffersOnlyIn device from to w (with_sync w device)
unfolding with_sync
only_synced device from to w = record {
  files = refl;
  vars = refl;
  runs = refl;
  lengths = λ path. refl;
  bytes = λ path i free. refl;
  pending = λ path i h. inl (is_in-filter (λ s. not (bytes_eq s.path device)) w.pending path i h);
  writes = no_writes device from to w.writes;
  fetched = omega arith;
}

only_scribbled : (w u : World) (device : List ℕ) (at n : ℕ) → HoldsUpTo w device (at + n) → ArbitraryWrite device at n w u → DiffersOnlyIn device at (at + n) w u
only_scribbled w u device at n holds h =
    subst (λ (x : World). DiffersOnlyIn device at (at + n) w x) (sym h.2) (only_written w device at n h.0 holds h.1)

only_same : (w u : World) (device : List ℕ) (from to : ℕ) → u ≡ w → DiffersOnlyIn device from to w u
only_same w u device from to e = subst (λ (x : World). DiffersOnlyIn device from to w x) (sym e) (only_refl device from to w)

after_write : (boot : BootKind) (w u : World) (device : List ℕ) (at n : ℕ) (end : End) → HoldsUpTo w device (at + n) → After boot (Write device at n) end w u → DiffersOnlyIn device at (at + n) w u
after_write boot w u device at n Done holds h = only_scribbled w u device at n holds h
after_write boot w u device at n Broken holds (inl h) = only_same w u device at (at + n) h
after_write boot w u device at n Broken holds (inr h) = only_scribbled w u device at n holds h
after_write boot w u device at n Overlong holds h = only_same w u device at (at + n) h

after_sync : (boot : BootKind) (w v : World) (device : List ℕ) (from to : ℕ) (end : End) → After boot (Sync device) end w v → DiffersOnlyIn device from to w v
after_sync boot w v device from to Done h = subst (λ (x : World). DiffersOnlyIn device from to w x) (sym h) (only_synced device from to w)
after_sync boot w v device from to Broken h = only_same w v device from to h
after_sync boot w v device from to Overlong h = only_same w v device from to h

-- whole calls
pub writes_write : {T : Type 0} (t : Bool) (a b : Past) (device : List ℕ) (at n : ℕ) (result : Result T CallStop) → WriteFits t a device (at + n) → (IsTrue t → Ends a b (Write device at n) result) → ChangesOnly t device at (at + n) a b
writes_write t a b device at n result has ends = record {
  all = λ told.
      let holds = has.room told in
      always_ends a b (Write device at n) (DiffersOnlyIn device at (at + n) (world_now a)) result (ends told) (only_refl device at (at + n) (world_now a)) (λ u h. only_scribbled (world_now a) u device at n holds h) (λ end v h. after_write a.boot (world_now a) v device at n end holds h);
}

pub writes_sync : {T : Type 0} (t : Bool) (a b : Past) (device : List ℕ) (from to : ℕ) (result : Result T CallStop) → (IsTrue t → Ends a b (Sync device) result) → ChangesOnly t device from to a b
writes_sync t a b device from to result ends = record {
  all = λ told. always_ends a b (Sync device) (DiffersOnlyIn device from to (world_now a)) result (ends told) (only_refl device from to (world_now a)) (λ u h. only_same (world_now a) u device from to h) (λ end v h. after_sync a.boot (world_now a) v device from to end h);
}

pub writes_none : (t : Bool) (device : List ℕ) (from to : ℕ) (a b : Past) → OnlyReads t a b → ChangesOnly t device from to a b
writes_none t device from to a b reads = record {
  all = λ told. always_weaker a b (IsRead (world_now a)) (DiffersOnlyIn device from to (world_now a)) (λ u h. only_read device from to (world_now a) u h) (reads.all told);
}

pub writes_join : (t : Bool) (device : List ℕ) (from to : ℕ) (a b c : Past) → ChangesOnly t device from to a b → ChangesOnly t device from to b c → ChangesOnly t device from to a c
writes_join t device from to a b c ab bc = record {
  all = λ told.
      let left = ab.all told in
      let here = always_now a b (DiffersOnlyIn device from to (world_now a)) left in
      always_joins a b c (DiffersOnlyIn device from to (world_now a)) left (always_weaker b c (DiffersOnlyIn device from to (world_now b)) (DiffersOnlyIn device from to (world_now a)) (λ u h. only_trans device from to (world_now a) (world_now b) u here h) (bc.all told));
}

pub writes_wider : (t : Bool) (device : List ℕ) (from to from' to' : ℕ) (a b : Past) → from' ≤ from → to ≤ to' → ChangesOnly t device from to a b → ChangesOnly t device from' to' a b
writes_wider t device from to from' to' a b lower higher ab = record {
  all = λ told. always_weaker a b (DiffersOnlyIn device from to (world_now a)) (DiffersOnlyIn device from' to' (world_now a)) (λ u h. only_wider device from to from' to' (world_now a) u lower higher h) (ab.all told);
}

-- lengths stay, and so does room
pub holds_only : (device : List ℕ) (from to : ℕ) (u v : World) (path : List ℕ) (end : ℕ) → DiffersOnlyIn device from to u v → HoldsUpTo u path end → HoldsUpTo v path end
holds_only device from to u v path end only holds = (holds.0, only.lengths path ∙ holds.1, holds.2)

pub room_writes : (t : Bool) (device : List ℕ) (from to : ℕ) (a b : Past) (path : List ℕ) (end : ℕ) → ChangesOnly t device from to a b → WriteFits t a path end → WriteFits t b path end
room_writes t device from to a b path end writes has = record {
  room = λ told. holds_only device from to (world_now a) (world_now b) path end (always_now a b (DiffersOnlyIn device from to (world_now a)) (writes.all told)) (has.room told);
}

pub room_less : (t : Bool) (a : Past) (path : List ℕ) (end end' : ℕ) → end' ≤ end → WriteFits t a path end → WriteFits t a path end'
room_less t a path end end' le has = record { room = λ told. let h = has.room told in (h.0, h.1, omega (arith, h.2, le)) }

-- what is under another path stays
pub disk_only : (device : List ℕ) (from to : ℕ) (u v : World) (path : List ℕ) → path ≢ device → DiffersOnlyIn device from to u v → disk v path ≡ disk u path
disk_only device from to u v path ne only = same_disk (disk v path) (disk u path) (only.lengths path) (λ i. only.bytes path i (λ r. ne r.0))

pub readable_only : (device : List ℕ) (from to : ℕ) (u v : World) (path : List ℕ) → path ≢ device → DiffersOnlyIn device from to u v → readable v path ≡ readable u path
unfolding readable
readable_only device from to u v path ne only = rw (disk_only device from to u v path ne only, only.files) refl

-- what a stop leaves
not_pending : (old u : World) (path : List ℕ) (i : ℕ) → is_in old.pending path i ≡ false → ((is_in u.pending path i ≡ true) → is_in old.pending path i ≡ true) → is_in u.pending path i ≡ false
not_pending old u path i free was =
    elim (is_in u.pending path i) as (λ b. is_in u.pending path i ≡ b → is_in u.pending path i ≡ false) [
      | true ↦ λ e. absurd (true≢false (sym (was e) ∙ free))
      | false ↦ λ e. e
    ] refl

-- spans in a range cover only bytes of it
covers_in : (device : List ℕ) (from to : ℕ) (s : Span) (path : List ℕ) (i : ℕ) → SpanIn device from to s → covers s path i ≡ true → InRange device from to path i
covers_in device from to s path i h e =
    let parts = and_parts (bytes_eq s.path path) (nat_le s.at i && nat_lt i (s.at + s.length)) e in
    let bounds = and_parts (nat_le s.at i) (nat_lt i (s.at + s.length)) parts.1 in
    (sym ((bytes_eq-Decides s.path path).0 parts.0) ∙ h.path, omega (arith, h.start, leb-true s.at i bounds.0), omega (arith, h.end, ltb-true i (s.at + s.length) bounds.1))

all_in : (device : List ℕ) (from to : ℕ) (spans : List Span) (path : List ℕ) (i : ℕ) → All (SpanIn device from to) spans → is_in spans path i ≡ true → InRange device from to path i
all_in device from to [] path i all e = absurd (true≢false (sym e))
all_in device from to (s ∷ ss) path i all e =
    ⊎_elim (covers_in device from to s path i (All-head (SpanIn device from to) s ss all)) (all_in device from to ss path i (All-tail (SpanIn device from to) s ss all)) (or_cases (covers s path i) (is_in ss path i) e)

adds_touching : (device : List ℕ) (from to : ℕ) (old new : List Span) → AddsWrites device from to old new → AddsTouching (InRange device from to) old new
adds_touching device from to old new adds = record { added = adds.added; grows = adds.grows; within = λ path i e. all_in device from to adds.added path i adds.within e }

-- more may be touched
pub same_but_wider : (P Q : List ℕ → ℕ → Type 0) (old v : World) → ((path : List ℕ) (i : ℕ) → P path i → Q path i) → SameBut P old v → SameBut Q old v
same_but_wider P Q old v wider h = record {
  files = h.files;
  vars = h.vars;
  runs = h.runs;
  writes = record { added = h.writes.added; grows = h.writes.grows; within = λ path i e. wider path i (h.writes.within path i e) };
  lengths = h.lengths;
  bytes = λ path i free settled. h.bytes path i (λ p. free (wider path i p)) settled;
}

pub left_only : (device : List ℕ) (from to : ℕ) (old u v : World) → DiffersOnlyIn device from to old u → Crash u v → SameBut (InRange device from to) old v
left_only device from to old u v only crash = record {
  files = crash.files ∙ only.files;
  vars = crash.vars ∙ only.vars;
  runs = crash.runs ∙ only.runs;
  writes = subst (λ (spans : List Span). AddsTouching (InRange device from to) old.writes spans) (sym crash.writes) (adds_touching device from to old.writes u.writes only.writes);
  lengths = λ path. crash.lengths path ∙ only.lengths path;
  bytes = λ path i free settled.
      crash.bytes path i (not_pending old u path i settled (λ h. ⊎_elim (λ e. e) (λ r. absurd (free r)) (only.pending path i h)))
      ∙ only.bytes path i free;
}

pub held_writes : (t : Bool) (device : List ℕ) (from to : ℕ) (a b : Past) → ChangesOnly t device from to a b → CrashChangesOnly t device from to a b
held_writes t device from to a b writes = record {
  each = λ told v held. held_of a b (DiffersOnlyIn device from to (world_now a)) (SameBut (InRange device from to) (world_now a)) (writes.all told) (λ u v only crash. left_only device from to (world_now a) u v only crash) v held;
}
