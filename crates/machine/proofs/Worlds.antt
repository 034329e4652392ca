-- What the calls make of a world, path by path.
use Rattle.std.proofs.Common.{◌≡◌, ◌≢◌, ◌⊎◌, inl, inr, ⊎_elim, take, drop, ◌-◌, arith, get_or, subst, ℕ, ◌+◌, ◌<◌, ◌≤◌, Bool, true, false, not, cond, ◌&&◌, ◌||◌, List, [], ◌∷◌, ◌++◌, length, filter, Option, Some, None, refl, sym, ◌∙◌, ap}
use Rattle.std.specs.Prelude.{bytes_eq, slice_get, nat_le, nat_lt, unwrap_or}
use Rattle.std.specs.Option.{option_map, option_and_then}
use Rattle.std.proofs.lemmas.Slice.Eq.{bytes_eq-Decides}
use Rattle.std.proofs.lemmas.Bool.{true≢false, and_parts, or_cases, leb-true, ltb-true}
use Rattle.std.proofs.lemmas.List.Folds.{list_any-append}
use Rattle.std.proofs.lemmas.List.{ext_get_or, get_or_append_left, get_or-append_right, get_or-drop, get_or-take, length-append, length-drop, length-take, length-take-le}
use Rattle.std.proofs.lemmas.Option.{slice_get-get_or, slice_get_past, unwrap_or-slice_get}
use Rattle.std.proofs.lemmas.Bool.Decides.{nat_tests}
use Rattle.machine.specs.declared.world.Named.{Named}
use Rattle.machine.specs.declared.world.Span.{Span}
use Rattle.machine.specs.declared.world.World.{World}
use Rattle.machine.specs.World.{bytes_under, disk, patch_at, patch_under}
use Rattle.machine.specs.Crash.{covers, is_in, Crash}

or_from_left : (x y : Bool) → x ≡ true → (x || y) ≡ true
or_from_left true y e = refl
or_from_left false y e = absurd (true≢false (sym e))

or_from_right : (x y : Bool) → y ≡ true → (x || y) ≡ true
or_from_right true y e = refl
or_from_right false y e = e

pub bytes_eq_same : (p : List ℕ) → bytes_eq p p ≡ true
bytes_eq_same p = (bytes_eq-Decides p p).1 refl

pub bytes_eq_other : (p q : List ℕ) → p ≢ q → bytes_eq p q ≡ false
bytes_eq_other p q ne =
    elim (bytes_eq p q) as (λ b. bytes_eq p q ≡ b → bytes_eq p q ≡ false) [
      | true ↦ λ e. absurd (ne ((bytes_eq-Decides p q).0 e))
      | false ↦ λ e. e
    ] refl

-- under the path
pub bytes_under-patch_same : (ns : List Named) (p : List ℕ) (at : ℕ) (bytes old : List ℕ) → bytes_under ns p ≡ Some old → bytes_under (patch_under ns p at bytes) p ≡ Some (patch_at old at bytes)
bytes_under-patch_same [] p at bytes old h = cc
bytes_under-patch_same (n ∷ ns) p at bytes old h =
    elim (bytes_eq n.path p) as (λ b. bytes_eq n.path p ≡ b → (cond b (Some n.bytes) (bytes_under ns p) ≡ Some old) → bytes_under (cond b (record n { bytes = patch_at n.bytes at bytes } ∷ ns) (n ∷ patch_under ns p at bytes)) p ≡ Some (patch_at old at bytes)) [
      | true ↦ λ e s. let same : n.bytes ≡ old = cc in rw e (ap (λ (b : List ℕ). Some (patch_at b at bytes)) same)
      | false ↦ λ e s. rw e (bytes_under-patch_same ns p at bytes old s)
    ] refl h

-- under another path
pub bytes_under-patch_other : (ns : List Named) (p q : List ℕ) (at : ℕ) (bytes : List ℕ) → q ≢ p → bytes_under (patch_under ns p at bytes) q ≡ bytes_under ns q
bytes_under-patch_other [] p q at bytes ne = refl
bytes_under-patch_other (n ∷ ns) p q at bytes ne =
    elim (bytes_eq n.path p) as (λ b. bytes_eq n.path p ≡ b → bytes_under (cond b (record n { bytes = patch_at n.bytes at bytes } ∷ ns) (n ∷ patch_under ns p at bytes)) q ≡ bytes_under (n ∷ ns) q) [
      | true ↦ λ e.
          let is = (bytes_eq-Decides n.path p).0 e in
          let other = bytes_eq_other n.path q (λ h. ne (sym h ∙ is)) in
          rw other refl
      | false ↦ λ e. ap (λ (o : Option (List ℕ)). cond (bytes_eq n.path q) (Some n.bytes) o) (bytes_under-patch_other ns p q at bytes ne)
    ] refl

-- the spans
pub is_in_one : (p q : List ℕ) (at n i : ℕ) → is_in (record { path = p; at = at; length = n } ∷ []) q i ≡ true → (p ≡ q) × (at ≤ i) × (i < at + n)
is_in_one p q at n i h =
    let first : covers (record { path = p; at = at; length = n }) q i ≡ true = ⊎_elim (λ e. e) (λ e. absurd (true≢false (sym e))) (or_cases (covers (record { path = p; at = at; length = n }) q i) false h) in
    let parts = and_parts (bytes_eq p q) (nat_le at i && nat_lt i (at + n)) first in
    let bounds = and_parts (nat_le at i) (nat_lt i (at + n)) parts.1 in
    ((bytes_eq-Decides p q).0 parts.0, leb-true at i bounds.0, ltb-true i (at + n) bounds.1)

pub is_in-append : (xs ys : List Span) (q : List ℕ) (i : ℕ) → is_in (xs ++ ys) q i ≡ true → (is_in xs q i ≡ true) ⊎ (is_in ys q i ≡ true)
is_in-append xs ys q i h = or_cases (is_in xs q i) (is_in ys q i) (sym (list_any-append (λ (s : Span). covers s q i) xs ys) ∙ h)

pub is_in-filter : (f : Span → Bool) (xs : List Span) (q : List ℕ) (i : ℕ) → is_in (filter f xs) q i ≡ true → is_in xs q i ≡ true
is_in-filter f [] q i h = h
is_in-filter f (x ∷ xs) q i h =
    elim (f x) as (λ b. is_in (cond b (x ∷ filter f xs) (filter f xs)) q i ≡ true → is_in (x ∷ xs) q i ≡ true) [
      | true ↦ λ t. ⊎_elim (λ e. or_from_left (covers x q i) (is_in xs q i) e) (λ e. or_from_right (covers x q i) (is_in xs q i) (is_in-filter f xs q i e)) (or_cases (covers x q i) (is_in (filter f xs) q i) t)
      | false ↦ λ t. or_from_right (covers x q i) (is_in xs q i) (is_in-filter f xs q i t)
    ] h

-- nothing of the path is left
pub is_in-synced : (xs : List Span) (p : List ℕ) (i : ℕ) → is_in (filter (λ s. not (bytes_eq s.path p)) xs) p i ≡ false
is_in-synced [] p i = refl
is_in-synced (x ∷ xs) p i =
    elim (bytes_eq x.path p) as (λ b. bytes_eq x.path p ≡ b → is_in (cond (not b) (x ∷ filter (λ s. not (bytes_eq s.path p)) xs) (filter (λ s. not (bytes_eq s.path p)) xs)) p i ≡ false) [
      | true ↦ λ e. is_in-synced xs p i
      | false ↦ λ e. rw e (is_in-synced xs p i)
    ] refl

-- What a crash leaves of a disk of which nothing was pending.
same_bytes : (xs ys : List ℕ) → length xs ≡ length ys → ((i : ℕ) → slice_get xs i ≡ slice_get ys i) → xs ≡ ys
same_bytes xs ys n each =
    ext_get_or 0 xs ys n (λ i lt. sym (unwrap_or-slice_get xs i 0) ∙ ap (λ (o : Option ℕ). unwrap_or o 0) (each i) ∙ unwrap_or-slice_get ys i 0)

pub same_disk : (a b : Option (List ℕ)) → option_map length a ≡ option_map length b → ((i : ℕ) → option_and_then (λ (l : List ℕ). slice_get l i) a ≡ option_and_then (λ (l : List ℕ). slice_get l i) b) → a ≡ b
same_disk None None n each = refl
same_disk None (Some y) n each = cc
same_disk (Some x) None n each = cc
same_disk (Some x) (Some y) n each = let same : length x ≡ length y = cc in ap (λ (l : List ℕ). Some l) (same_bytes x y same each)

-- two paths are one or not
pub by_path : (path device : List ℕ) → (path ≡ device) ⊎ (path ≢ device)
by_path path device =
    elim (bytes_eq path device) as (λ b. bytes_eq path device ≡ b → (path ≡ device) ⊎ (path ≢ device)) [
      | true ↦ λ e. inl ((bytes_eq-Decides path device).0 e)
      | false ↦ λ e. inr (λ same. true≢false (sym ((bytes_eq-Decides path device).1 same) ∙ e))
    ] refl

-- bytes with others in their place
pub length-patched : (old : List ℕ) (at : ℕ) (bytes : List ℕ) → at + length bytes ≤ length old → length (patch_at old at bytes) ≡ length old
length-patched old at bytes le = simp (length-append, length-take, length-drop) (omega arith)

lt_or_le : (i n : ℕ) → (i < n) ⊎ (n ≤ i)
lt_or_le i n = grind (arith, nat_tests)

get-patched : (old : List ℕ) (at : ℕ) (bytes : List ℕ) (i : ℕ) → at + length bytes ≤ length old → (i < at) ⊎ (at + length bytes ≤ i) → get_or (patch_at old at bytes) i 0 ≡ get_or old i 0
get-patched old at bytes i le (inl before) =
    let front : length (take at old) ≡ at = length-take-le at old (omega arith) in
    get_or_append_left (take at old ++ bytes) (drop (at + length bytes) old) 0 i (omega (arith, front, length-append (take at old) bytes))
    ∙ get_or_append_left (take at old) bytes 0 i (omega (arith, front))
    ∙ get_or-take at old i 0 before
get-patched old at bytes i le (inr behind) =
    let front : length (take at old) ≡ at = length-take-le at old (omega arith) in
    let n : length (take at old ++ bytes) ≡ at + length bytes = omega (arith, front, length-append (take at old) bytes) in
    let whole : at + length bytes + (i - (at + length bytes)) ≡ i = omega arith in
    get_or-append_right (take at old ++ bytes) (drop (at + length bytes) old) (at + length bytes) i 0 n behind
    ∙ get_or-drop (at + length bytes) old (i - (at + length bytes)) 0
    ∙ ap (λ (k : ℕ). get_or old k 0) whole

pub byte-patched : (old : List ℕ) (at : ℕ) (bytes : List ℕ) (i : ℕ) → at + length bytes ≤ length old → (at ≤ i → i < at + length bytes → ⊥) → slice_get (patch_at old at bytes) i ≡ slice_get old i
byte-patched old at bytes i le free =
    let place : (i < at) ⊎ (at + length bytes ≤ i) =
    ⊎_elim (λ lt. inl lt) (λ ge. ⊎_elim (λ lt. absurd (free ge lt)) (λ past. inr past) (lt_or_le i (at + length bytes))) (lt_or_le i at) in
    let same = get-patched old at bytes i le place in
    let long = length-patched old at bytes le in
    ⊎_elim
    (λ lt. slice_get-get_or (patch_at old at bytes) i 0 (subst (λ (k : ℕ). i < k) (sym long) lt) ∙ ap (λ (k : ℕ). Some k) same ∙ sym (slice_get-get_or old i 0 lt))
    (λ past. slice_get_past (patch_at old at bytes) i (subst (λ (k : ℕ). k ≤ i) (sym long) past) ∙ sym (slice_get_past old i past))
    (lt_or_le i (length old))

pub crash_settled : (w v : World) (p : List ℕ) → Crash w v → ((i : ℕ) → is_in w.pending p i ≡ false) → disk v p ≡ disk w p
crash_settled w v p crash none = same_disk (disk v p) (disk w p) (crash.lengths p) (λ i. crash.bytes p i (none i))
