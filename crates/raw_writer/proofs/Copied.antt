-- The image's front on the device, piece by piece.
use Rattle.std.proofs.Common.{◌≡◌, ◌⊎◌, ⊎_elim, ℕ, Bool, true, false, cond, ◌+◌, ◌-◌, ◌*◌, ◌/◌, ◌%◌, ◌<◌, ◌≤◌, List, [], ◌∷◌, ◌++◌, length, take, drop, Option, Some, None, Err, refl, sym, ◌∙◌, ap, subst, arith, append_assoc}
use Rattle.std.specs.Prelude.{◌==◌, min, is_some, not, bytes_eq, filter, map, if◌then◌else◌}
use Rattle.std.specs.Option.{option_map}
use Rattle.std.specs.List.{range_with_len}
use Rattle.std.proofs.Math.Nat.{le-div_iff_mul-le}
use Rattle.std.proofs.Math.Seq.{take-add, drop-append-add}
use Rattle.std.proofs.lemmas.Bool.Decides.{nat_tests}
use Rattle.std.proofs.lemmas.List.{append-nil, drop-drop, length-take-le, take-append-drop, take-append-le, take_at}
use Rattle.std.proofs.lemmas.List.Elements.{filter-append}
use Rattle.std.proofs.lemmas.List.FromFn.{length-map-range_with_len, map-range_with_len_more, take-map-range_with_len}
use Rattle.std.proofs.lemmas.Nat.{div-mul-add, mod-mul-add}
use Rattle.sha2.specs.Sha256.{sha256}
use Rattle.updater_text.specs.declared.digest.Digest.{Digest}
use Rattle.machine.specs.declared.world.Span.{Span}
use Rattle.machine.specs.declared.world.World.{World}
use Rattle.machine.specs.World.{disk, patch_at, readable, with_write, with_sync, with_fetched, HoldsUpTo}
use Rattle.machine.specs.Frames.{DiffersOnlyIn}
use Rattle.machine.proofs.Worlds.{by_path, bytes_eq_same}
use Rattle.machine.proofs.Reading.{fetching-none}
use Rattle.machine.proofs.Only.{bytes_of, disk-written, readable_only}
use Rattle.raw_writer.specs.declared.whole.WholeStop.{WholeStop}
use Rattle.raw_writer.specs.declared.whole.WholeStop.TheVariants.{Outside, Short, NoMemory}
use Rattle.raw_writer.specs.Whole.{with_image_front, span, pieces, whole_length, IsWritten, IsShort, IsCopied, IsCut, PieceEnds, WholeEnds}

-- The spans of a whole write, one piece after another.
module _ (device : List ℕ) (piece : ℕ) where
  abbrev whole : ℕ → Span
  whole k = span device (k * piece) piece

  abbrev spans : ℕ → ℕ → List Span
  spans count rest = map whole (range_with_len 0 count) ++ (if rest == 0 then [] else span device (count * piece) rest ∷ [])

  pieces_are : (k rest : ℕ) → rest < piece → pieces device piece (k * piece + rest) ≡ spans k rest
  pieces_are k rest lt =
      ap (λ (q : ℕ). spans q ((k * piece + rest) % piece)) (div-mul-add k piece rest lt) ∙ ap (λ (r : ℕ). spans k r) (mod-mul-add k piece rest lt)

  pieces_whole : (k : ℕ) → 0 < piece → pieces device piece (k * piece) ≡ map whole (range_with_len 0 k)
  pieces_whole k some =
      ap (λ (n : ℕ). pieces device piece n) (no_rest (k * piece)) ∙ pieces_are k 0 some ∙ append-nil (map whole (range_with_len 0 k))
    where
      no_rest : (n : ℕ) → n ≡ n + 0
      no_rest n = omega arith

  pub pieces-none : 0 < piece → pieces device piece 0 ≡ []
  pieces-none some = ap (λ (n : ℕ). pieces device piece n) (zero_times piece) ∙ pieces_whole 0 some
    where
      zero_times : (n : ℕ) → 0 ≡ 0 * n
      zero_times n = omega arith

  some_rest : (k want : ℕ) → 0 < want → spans k want ≡ map whole (range_with_len 0 k) ++ span device (k * piece) want ∷ []
  some_rest k want some = ap (λ (b : Bool). map whole (range_with_len 0 k) ++ (if b then [] else span device (k * piece) want ∷ [])) (not_zero want some)
    where
      not_zero : (n : ℕ) → 0 < n → (n == 0) ≡ false
      not_zero n lt = grind (arith, nat_tests)

  -- the first pieces
  pub pieces_first : (k size : ℕ) → 0 < piece → k * piece ≤ size → take k (pieces device piece size) ≡ pieces device piece (k * piece)
  pieces_first k size some le =
      let within : k ≤ size / piece = (le-div_iff_mul-le some).1 le in
      let count : k ≤ length (map whole (range_with_len 0 (size / piece))) = subst (λ (n : ℕ). k ≤ n) (sym (length-map-range_with_len whole 0 (size / piece))) within in
      take-append-le k (map whole (range_with_len 0 (size / piece))) (if size % piece == 0 then [] else span device (size / piece * piece) (size % piece) ∷ []) count
      ∙ take-map-range_with_len whole 0 (size / piece) k within
      ∙ sym (pieces_whole k some)

  pub pieces_more : (k want : ℕ) → 0 < want → want ≤ piece → pieces device piece (k * piece + want) ≡ pieces device piece (k * piece) ++ span device (k * piece) want ∷ []
  pieces_more k want some le =
      ap (λ (s : List Span). s) (⊎_elim (λ lt. part lt) (λ e. full e) (part_or_full want piece le))
      ∙ ap (λ (s : List Span). s ++ span device (k * piece) want ∷ []) (sym (pieces_whole k (omega (arith, some, le))))
    where
      part_or_full : (n m : ℕ) → n ≤ m → (n < m) ⊎ (n ≡ m)
      part_or_full n m le = grind (arith, nat_tests)

      part : want < piece → pieces device piece (k * piece + want) ≡ map whole (range_with_len 0 k) ++ span device (k * piece) want ∷ []
      part lt = pieces_are k want lt ∙ some_rest k want some

      next : (k n : ℕ) → k * n + n ≡ (k + 1) * n
      next k n = omega arith

      full : want ≡ piece → pieces device piece (k * piece + want) ≡ map whole (range_with_len 0 k) ++ span device (k * piece) want ∷ []
      full e =
          ap (λ (n : ℕ). pieces device piece (k * piece + n)) e
          ∙ ap (λ (n : ℕ). pieces device piece n) (next k piece)
          ∙ pieces_whole (k + 1) (omega (arith, some, le))
          ∙ map-range_with_len_more whole 0 k k (omega arith)
          ∙ ap (λ (n : ℕ). map whole (range_with_len 0 k) ++ span device (k * piece) n ∷ []) (sym e)

-- none of them is pending after a sync
spans_synced : (device : List ℕ) (piece : ℕ) (ks : List ℕ) → filter (λ s. not (bytes_eq s.path device)) (map (λ k. span device (k * piece) piece) ks) ≡ []
spans_synced device piece [] = refl
spans_synced device piece (k ∷ ks) = rw (bytes_eq_same device) (spans_synced device piece ks)

pieces_synced : (device : List ℕ) (piece size : ℕ) → filter (λ s. not (bytes_eq s.path device)) (pieces device piece size) ≡ []
pieces_synced device piece size =
    filter-append (λ s. not (bytes_eq s.path device)) (map (λ k. span device (k * piece) piece) (range_with_len 0 (size / piece))) (if size % piece == 0 then [] else span device (size / piece * piece) (size % piece) ∷ [])
    ∙ ap (λ (s : List Span). s ++ filter (λ s. not (bytes_eq s.path device)) (if size % piece == 0 then [] else span device (size / piece * piece) (size % piece) ∷ [])) (spans_synced device piece (range_with_len 0 (size / piece)))
    ∙ rest (size % piece == 0)
  where
    rest : (b : Bool) → filter (λ s. not (bytes_eq s.path device)) (if b then [] else span device (size / piece * piece) (size % piece) ∷ []) ≡ []
    rest true = refl
    rest false = rw (bytes_eq_same device) refl

-- bytes behind the front
pub front_then : (image old : List ℕ) (done : ℕ) (bytes : List ℕ) → done ≤ length image → patch_at (with_image_front done image old) done bytes ≡ take done image ++ bytes ++ drop (done + length bytes) old
front_then image old done bytes long =
    let front : length (take done image) ≡ done = length-take-le done image long in
    let left : take done (take done image ++ drop done old) ≡ take done image = take_at (take done image) (drop done old) done front in
    let back : drop (done + length bytes) (take done image ++ drop done old) ≡ drop (length bytes) (drop done old) = subst (λ (k : ℕ). drop (k + length bytes) (take done image ++ drop done old) ≡ drop (length bytes) (drop done old)) front (drop-append-add (take done image) (drop done old) (length bytes)) in
    ap (λ (xs : List ℕ). xs ++ bytes ++ drop (done + length bytes) (take done image ++ drop done old)) left
    ∙ ap (λ (xs : List ℕ). take done image ++ bytes ++ xs) (back ∙ drop-drop (length bytes) done old)

-- the front, one piece longer
front_more : (image old : List ℕ) (done n : ℕ) (piece : List ℕ) → done ≤ length image → piece ≡ take n (drop done image) → length piece ≡ n → patch_at (with_image_front done image old) done piece ≡ with_image_front (done + n) image old
front_more image old done n piece long is count =
    let longer : take done image ++ piece ≡ take (done + n) image = ap (λ (xs : List ℕ). take done image ++ xs) is ∙ sym (take-add done n image) in
    front_then image old done piece long
    ∙ ap (λ (xs : List ℕ). xs ++ drop (done + length piece) old) longer
    ∙ ap (λ (k : ℕ). take (done + n) image ++ drop (done + k) old) count

-- Of the image's first bytes so many stand on the device, and this is all that was done.
pub record CopiedSoFar (image device : List ℕ) (piece done : ℕ) (old w : World) : Type 0 where
  pub enough : done ≤ length (readable old image)
  pub front : disk w device ≡ option_map (with_image_front done (readable old image)) (disk old device)
  pub pending : w.pending ≡ old.pending ++ pieces device piece done
  pub writes : w.writes ≡ old.writes ++ pieces device piece done
  pub fetched : w.fetched ≡ (with_fetched old image done).fetched

pub copied_none : (w : World) (image device : List ℕ) (piece end : ℕ) → 0 < piece → HoldsUpTo w device end → CopiedSoFar image device piece 0 w w
copied_none w image device piece end some holds =
    let old = bytes_of (disk w device) holds.0 holds.1 in
    let none = pieces-none device piece some in
    record {
      enough = omega arith;
      front = old.1 ∙ sym (ap (λ (o : Option (List ℕ)). option_map (with_image_front 0 (readable w image)) o) old.1);
      pending = sym (ap (λ (s : List Span). w.pending ++ s) none ∙ append-nil w.pending);
      writes = sym (ap (λ (s : List Span). w.writes ++ s) none ∙ append-nil w.writes);
      fetched = ap (λ (x : World). x.fetched) (sym (fetching-none w image));
    }

readable_disk : (w : World) (path bytes : List ℕ) → disk w path ≡ Some bytes → readable w path ≡ bytes
unfolding readable
readable_disk w path bytes h = rw h refl

-- the image is as it was, even where it is the device itself
pub same_image : (u w : World) (image device : List ℕ) (piece size done : ℕ) → HoldsUpTo u device size → DiffersOnlyIn device 0 size u w → CopiedSoFar image device piece done u w → readable w image ≡ readable u image
same_image u w image device piece size done holds only so_far =
    ⊎_elim
    (λ is.
    let old = bytes_of (disk u device) holds.0 holds.1 in
    let before : readable u image ≡ old.0 = subst (λ (p : List ℕ). readable u p ≡ old.0) (sym is) (readable_disk u device old.0 old.1) in
    let there : disk w device ≡ Some old.0 =
    so_far.front
    ∙ ap (λ (o : Option (List ℕ)). option_map (with_image_front done (readable u image)) o) old.1
    ∙ ap (λ (xs : List ℕ). Some (with_image_front done xs old.0)) before
    ∙ ap (λ (xs : List ℕ). Some xs) (take-append-drop done old.0) in
    let after : readable w image ≡ old.0 = subst (λ (p : List ℕ). readable w p ≡ old.0) (sym is) (readable_disk w device old.0 there) in
    after ∙ sym before)
    (λ ne. readable_only device 0 size u w image ne only)
    (by_path image device)

-- what is fetched, one piece more
same_kind : (a b : Option (List ℕ)) → option_map length a ≡ option_map length b → is_some a ≡ is_some b
same_kind None None e = refl
same_kind None (Some y) e = cc
same_kind (Some x) None e = cc
same_kind (Some x) (Some y) e = refl

fetched_more : (u w : World) (image : List ℕ) (n m : ℕ) → is_some (disk w image) ≡ is_some (disk u image) → w.fetched ≡ (with_fetched u image n).fetched → (with_fetched w image m).fetched ≡ (with_fetched u image (n + m)).fetched
unfolding with_fetched
fetched_more u w image n m same is =
    ap (λ (b : Bool). cond b w.fetched (w.fetched + m)) same
    ∙ ap (λ (f : ℕ). cond (is_some (disk u image)) f (f + m)) is
    ∙ twice (is_some (disk u image)) u.fetched
  where
    twice : (b : Bool) (f : ℕ) → cond b (cond b f (f + n)) (cond b f (f + n) + m) ≡ cond b f (f + (n + m))
    twice true f = refl
    twice false f = omega arith

-- what a piece adds
written_adds : (w : World) (image device : List ℕ) (at n : ℕ) (bytes : List ℕ) → let v = with_write (with_fetched w image n) device at bytes in (v.pending ≡ w.pending ++ span device at (length bytes) ∷ []) × (v.writes ≡ w.writes ++ span device at (length bytes) ∷ []) × (v.fetched ≡ (with_fetched w image n).fetched)
unfolding with_write with_fetched
written_adds w image device at n bytes = (refl, refl, refl)

read_leaves : (w : World) (image device : List ℕ) (n : ℕ) → let v = with_fetched w image n in (disk v device ≡ disk w device) × (v.pending ≡ w.pending) × (v.writes ≡ w.writes)
unfolding with_fetched
read_leaves w image device n = (refl, refl, refl)

disk_fetching : (w : World) (image path : List ℕ) (n : ℕ) → disk (with_fetched w image n) path ≡ disk w path
unfolding with_fetched
disk_fetching w image path n = refl

module _ (u w v : World) (image device : List ℕ) (piece size k n : ℕ) (bytes : List ℕ) (holds : HoldsUpTo u device size) (some : 0 < n) (small : n ≤ piece) (count : length bytes ≡ n) (le : k * piece + n ≤ size) (only : DiffersOnlyIn device 0 size u w) (so_far : CopiedSoFar image device piece (k * piece) u w) (copied : IsCopied image device (k * piece) bytes w v) where
  same : readable w image ≡ readable u image
  same = same_image u w image device piece size (k * piece) holds only so_far

  taken : bytes ≡ take n (drop (k * piece) (readable u image))
  taken = subst (λ (c : ℕ). bytes ≡ take c (drop (k * piece) (readable u image))) count (subst (λ (xs : List ℕ). bytes ≡ take (length bytes) (drop (k * piece) xs)) same copied.bytes)

  -- the message so far, one piece longer
  pub message_more : take (k * piece) (readable u image) ++ bytes ≡ take (k * piece + n) (readable u image)
  message_more = ap (λ (xs : List ℕ). take (k * piece) (readable u image) ++ xs) taken ∙ sym (take-add (k * piece) n (readable u image))

  abbrev next : World
  next = with_write (with_fetched w image (length bytes)) device (k * piece) bytes

  front : disk v device ≡ option_map (with_image_front (k * piece + n) (readable u image)) (disk u device)
  front =
      let old = bytes_of (disk u device) holds.0 holds.1 in
      let R = readable u image in
      let here : disk w device ≡ Some (with_image_front (k * piece) R old.0) = so_far.front ∙ ap (λ (o : Option (List ℕ)). option_map (with_image_front (k * piece) R) o) old.1 in
      ap (λ (x : World). disk x device) copied.left
      ∙ disk-written (with_fetched w image (length bytes)) device (k * piece) bytes (with_image_front (k * piece) R old.0) (disk_fetching w image device (length bytes) ∙ here)
      ∙ ap (λ (x : List ℕ). Some x) (front_more R old.0 (k * piece) n bytes so_far.enough taken count)
      ∙ sym (ap (λ (o : Option (List ℕ)). option_map (with_image_front (k * piece + n) R) o) old.1)

  added : (before after start : List Span) → before ≡ start ++ pieces device piece (k * piece) → after ≡ before ++ span device (k * piece) (length bytes) ∷ [] → after ≡ start ++ pieces device piece (k * piece + n)
  added before after start b a =
      a
      ∙ ap (λ (s : List Span). s ++ span device (k * piece) (length bytes) ∷ []) b
      ∙ ap (λ (c : ℕ). (start ++ pieces device piece (k * piece)) ++ span device (k * piece) c ∷ []) count
      ∙ append_assoc start (pieces device piece (k * piece)) (span device (k * piece) n ∷ [])
      ∙ ap (λ (s : List Span). start ++ s) (sym (pieces_more device piece k n some small))

  pub copied_more : CopiedSoFar image device piece (k * piece + n) u v
  copied_more =
      let adds = written_adds w image device (k * piece) (length bytes) bytes in
      record {
        enough = omega (arith, count, subst (λ (xs : List ℕ). k * piece + length bytes ≤ length xs) same copied.enough);
        front = front;
        pending = added w.pending v.pending u.pending so_far.pending (ap (λ (x : World). x.pending) copied.left ∙ adds.0);
        writes = added w.writes v.writes u.writes so_far.writes (ap (λ (x : World). x.writes) copied.left ∙ adds.1);
        fetched = ap (λ (x : World). x.fetched) copied.left ∙ adds.2
            ∙ fetched_more u w image (k * piece) (length bytes) (same_kind (disk w image) (disk u image) (only.lengths image)) so_far.fetched
            ∙ ap (λ (c : ℕ). (with_fetched u image (k * piece + c)).fetched) count;
      }

-- the same at a place that is a multiple of a piece
module _ (u w v : World) (image device : List ℕ) (piece size k done n : ℕ) (bytes : List ℕ) (at : done ≡ k * piece) (holds : HoldsUpTo u device size) (some : 0 < n) (small : n ≤ piece) (count : length bytes ≡ n) (le : done + n ≤ size) (only : DiffersOnlyIn device 0 size u w) (so_far : CopiedSoFar image device piece done u w) (copied : IsCopied image device done bytes w v) where
  le_at : k * piece + n ≤ size
  le_at = omega (arith, at, le)

  so_far_at : CopiedSoFar image device piece (k * piece) u w
  so_far_at = subst (λ (d : ℕ). CopiedSoFar image device piece d u w) at so_far

  copied_at : IsCopied image device (k * piece) bytes w v
  copied_at = subst (λ (d : ℕ). IsCopied image device d bytes w v) at copied

  pub message_step : take done (readable u image) ++ bytes ≡ take (done + n) (readable u image)
  message_step =
      subst (λ (d : ℕ). take d (readable u image) ++ bytes ≡ take (d + n) (readable u image)) (sym at)
      (message_more u w v image device piece size k n bytes holds some small count le_at only so_far_at copied_at)

  pub copied_step : CopiedSoFar image device piece (done + n) u v
  copied_step =
      subst (λ (d : ℕ). CopiedSoFar image device piece (d + n) u v) (sym at)
      (copied_more u w v image device piece size k n bytes holds some small count le_at only so_far_at copied_at)

-- the next piece starts at a multiple of a piece too
pub next_even : (size done piece n : ℕ) → n ≡ min piece (size - done) → (k : ℕ) × (done ≡ k * piece) → done + n < size → (k : ℕ) × (done + n ≡ k * piece)
next_even size done piece n is at lt =
    let full : n ≡ piece = omega (arith, is, lt) in
    (at.0 + 1, ap (λ (m : ℕ). done + m) full ∙ ap (λ (d : ℕ). d + piece) at.1 ∙ next at.0 piece)
  where
    next : (k n : ℕ) → k * n + n ≡ (k + 1) * n
    next k n = omega arith

-- so far only whole pieces
whole_is : (piece k done n found : ℕ) → done ≡ k * piece → done ≤ found → found < done + n → n ≤ piece → whole_length piece found ≡ done
whole_is piece k done n found at starts fewer small =
    let split : found ≡ k * piece + (found - done) = omega (arith, at, starts) in
    ap (λ (m : ℕ). m / piece * piece) split
    ∙ ap (λ (m : ℕ). m * piece) (div-mul-add k piece (found - done) (omega (arith, starts, fewer, small)))
    ∙ sym at

-- the image ends within a piece
cut_more : (u w v : World) (image device : List ℕ) (piece size k done n found : ℕ) (bytes : List ℕ) → HoldsUpTo u device size → done ≡ k * piece → n ≤ piece → length bytes ≡ n → done + n ≤ size → DiffersOnlyIn device 0 size u w → DiffersOnlyIn device 0 size u v → CopiedSoFar image device piece done u w → IsCut image done bytes found w v → IsShort image device piece size found u v
cut_more u w v image device piece size k done n found bytes holds at small count le only since so_far cut =
    let same = same_image u w image device piece size done holds only so_far in
    let there = subst (λ (xs : List ℕ). done ≤ length xs → found ≡ length xs) same cut.ends in
    let whole = sym (whole_is piece k done n found at cut.starts (omega (arith, cut.fewer, count)) small) in
    let left = read_leaves w image device (found - done) in
    let sum : done + (found - done) ≡ found = omega (arith, cut.starts) in
    record {
      fewer = omega (arith, cut.fewer, count, le);
      ends = there so_far.enough;
      front = subst (λ (d : ℕ). disk v device ≡ option_map (with_image_front d (readable u image)) (disk u device)) whole (ap (λ (x : World). disk x device) cut.left ∙ left.0 ∙ so_far.front);
      only = since;
      pending = subst (λ (d : ℕ). v.pending ≡ u.pending ++ pieces device piece d) whole (ap (λ (x : World). x.pending) cut.left ∙ left.1 ∙ so_far.pending);
      writes = subst (λ (d : ℕ). v.writes ≡ u.writes ++ pieces device piece d) whole (ap (λ (x : World). x.writes) cut.left ∙ left.2 ∙ so_far.writes);
      fetched = ap (λ (x : World). x.fetched) cut.left
          ∙ fetched_more u w image done (found - done) (same_kind (disk w image) (disk u image) (only.lengths image)) so_far.fetched
          ∙ ap (λ (c : ℕ). (with_fetched u image c).fetched) sum;
    }

pub short_more : (u w v : World) (image device : List ℕ) (piece size k done n : ℕ) (bytes : List ℕ) (stop : WholeStop) → HoldsUpTo u device size → done ≡ k * piece → n ≤ piece → length bytes ≡ n → done + n ≤ size → DiffersOnlyIn device 0 size u w → DiffersOnlyIn device 0 size u v → CopiedSoFar image device piece done u w → PieceEnds {T = Unit {0}} image device done bytes w v (Err stop) → WholeEnds image device piece size u v (Err stop)
short_more u w v image device piece size k done n bytes (Short found) holds at small count le only since so_far ends = cut_more u w v image device piece size k done n found bytes holds at small count le only since so_far ends
short_more u w v image device piece size k done n bytes (Outside fault) holds at small count le only since so_far ends = tt
short_more u w v image device piece size k done n bytes NoMemory holds at small count le only since so_far ends = tt

-- all is there, and synced
pub synced_leaves : (w : World) (device : List ℕ) → let v = with_sync w device in (disk v device ≡ disk w device) × (v.pending ≡ filter (λ s. not (bytes_eq s.path device)) w.pending) × (v.writes ≡ w.writes) × (v.fetched ≡ w.fetched)
unfolding with_sync
synced_leaves w device = (refl, refl, refl, refl)

pub whole_written : (u w v : World) (image device : List ℕ) (piece size done : ℕ) (digest : Digest) → done ≡ size → CopiedSoFar image device piece done u w → DiffersOnlyIn device 0 size u v → v ≡ with_sync w device → digest.0 ≡ sha256 (take done (readable u image)) → IsWritten image device piece size digest u v
whole_written u w v image device piece size done digest all so_far only did hashed =
    let leaves = synced_leaves w device in
    let was = synced_leaves u device in
    let full : CopiedSoFar image device piece size u w = subst (λ (k : ℕ). CopiedSoFar image device piece k u w) all so_far in
    record {
      enough = full.enough;
      front = ap (λ (x : World). disk x device) did ∙ leaves.0 ∙ full.front;
      only = only;
      pending = ap (λ (x : World). x.pending) did ∙ leaves.1
          ∙ ap (λ (s : List Span). filter (λ s. not (bytes_eq s.path device)) s) full.pending
          ∙ filter-append (λ s. not (bytes_eq s.path device)) u.pending (pieces device piece size)
          ∙ ap (λ (s : List Span). filter (λ s. not (bytes_eq s.path device)) u.pending ++ s) (pieces_synced device piece size)
          ∙ append-nil (filter (λ s. not (bytes_eq s.path device)) u.pending)
          ∙ sym was.1;
      writes = ap (λ (x : World). x.writes) did ∙ leaves.2 ∙ full.writes;
      fetched = ap (λ (x : World). x.fetched) did ∙ leaves.3 ∙ full.fetched;
      hashed = subst (λ (k : ℕ). digest.0 ≡ sha256 (take k (readable u image))) all hashed;
    }
