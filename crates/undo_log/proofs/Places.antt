-- The first bytes under a path, by their place in the list.
use Rattle.std.proofs.Common.{◌≡◌, ℕ, suc, zero, ◌+◌, ◌<◌, Bool, true, false, not, cond, List, [], ◌∷◌, ◌++◌, length, take, Some, None, refl, sym, ◌∙◌, ap, arith, get_or}
use Rattle.std.specs.Prelude.{bytes_eq, nat_lt, position, slice_set}
use Rattle.std.specs.List.{position_or_len}
use Rattle.std.proofs.lemmas.Bool.{ltb-false}
use Rattle.std.proofs.lemmas.Bool.Decides.{nat_tests}
use Rattle.std.proofs.lemmas.List.{append-nil, drop_all, take_all}
use Rattle.std.proofs.lemmas.List.Quantifiers.{position-Some}
use Rattle.updater_text.specs.Lent.{with_front}
use Rattle.machine.specs.declared.world.Named.{Named}
use Rattle.machine.specs.World.{bytes_under, patch_at, patch_under}

first_bytes : (xs : List Named) (p : List ℕ) (i : ℕ) (d : Named) → i < length xs → bytes_eq (get_or xs i d).path p ≡ true → ((k : ℕ) → k < i → bytes_eq (get_or xs k d).path p ≡ false) → bytes_under xs p ≡ Some (get_or xs i d).bytes
first_bytes [] p i d within here earlier = absurd (omega arith)
first_bytes (x ∷ xs) p zero d within here earlier = rw here refl
first_bytes (x ∷ xs) p (suc i) d within here earlier =
    rw (earlier 0 (omega arith)) (first_bytes xs p i d (omega arith) here (λ k lt. earlier (suc k) (omega arith)))

first_patched : (xs : List Named) (p : List ℕ) (at : ℕ) (bytes : List ℕ) (i : ℕ) (d : Named) → i < length xs → bytes_eq (get_or xs i d).path p ≡ true → ((k : ℕ) → k < i → bytes_eq (get_or xs k d).path p ≡ false) → patch_under xs p at bytes ≡ slice_set xs i (record (get_or xs i d) { bytes = patch_at (get_or xs i d).bytes at bytes })
first_patched [] p at bytes i d within here earlier = absurd (omega arith)
first_patched (x ∷ xs) p at bytes zero d within here earlier = rw here refl
first_patched (x ∷ xs) p at bytes (suc i) d within here earlier =
    rw (earlier 0 (omega arith)) (ap (λ (ns : List Named). x ∷ ns) (first_patched xs p at bytes i d (omega arith) here (λ k lt. earlier (suc k) (omega arith))))

not_there : (xs : List Named) (p : List ℕ) → nat_lt (position_or_len (λ (n : Named). bytes_eq n.path p) xs) (length xs) ≡ false → bytes_under xs p ≡ None
not_there [] p past = refl
not_there (x ∷ xs) p past =
    elim (bytes_eq x.path p) as (λ b. nat_lt (cond (not b) (1 + position_or_len (λ (n : Named). bytes_eq n.path p) xs) 0) (suc (length xs)) ≡ false → cond b (Some x.bytes) (bytes_under xs p) ≡ None) [
      | true ↦ λ h. absurd (omega (arith, ltb-false 0 (suc (length xs)) h))
      | false ↦ λ h. not_there xs p (grind (arith, nat_tests))
    ] past

-- what a search for the path says
pub found_bytes : (xs : List Named) (p : List ℕ) (i : ℕ) (d : Named) → Some i ≡ position (λ (n : Named). bytes_eq n.path p) xs → bytes_under xs p ≡ Some (get_or xs i d).bytes
found_bytes xs p i d is =
    let first = position-Some (λ (n : Named). bytes_eq n.path p) xs i d (sym is) in
    first_bytes xs p i d first.0 first.1 first.2

pub found_patched : (xs : List Named) (p : List ℕ) (at : ℕ) (bytes : List ℕ) (i : ℕ) (d : Named) → Some i ≡ position (λ (n : Named). bytes_eq n.path p) xs → patch_under xs p at bytes ≡ slice_set xs i (record (get_or xs i d) { bytes = patch_at (get_or xs i d).bytes at bytes })
found_patched xs p at bytes i d is =
    let first = position-Some (λ (n : Named). bytes_eq n.path p) xs i d (sym is) in
    first_patched xs p at bytes i d first.0 first.1 first.2

pub found_none : (xs : List Named) (p : List ℕ) → None ≡ position (λ (n : Named). bytes_eq n.path p) xs → bytes_under xs p ≡ None
found_none xs p is = not_there xs p (past (nat_lt (position_or_len (λ (n : Named). bytes_eq n.path p) xs) (length xs)) (position_or_len (λ (n : Named). bytes_eq n.path p) xs) is)
  where
    past : (b : Bool) (i : ℕ) → None ≡ cond b (Some i) None → b ≡ false
    past true i e = cc
    past false i e = refl

-- items of which as many were written are those
whole_front : (items front : List ℕ) → length front ≡ length items → with_front items front ≡ front
whole_front items front same =
    ap (λ (rest : List ℕ). take (length items) (front ++ rest)) (drop_all (length front) items (omega (arith, same)))
    ∙ ap (λ (xs : List ℕ). take (length items) xs) (append-nil front)
    ∙ take_all (length items) front (omega (arith, same))

pub found_written : (xs : List Named) (p : List ℕ) (at : ℕ) (from : List ℕ) (i : ℕ) (d : Named) (given written : List ℕ) → Some i ≡ position (λ (n : Named). bytes_eq n.path p) xs → given ≡ (get_or xs i d).bytes → written ≡ patch_at given at from → length written ≡ length given → slice_set xs i (record (get_or xs i d) { bytes = with_front (get_or xs i d).bytes written }) ≡ patch_under xs p at from
found_written xs p at from i d given written is were become as_long =
    ap (λ (bytes : List ℕ). slice_set xs i (record (get_or xs i d) { bytes = bytes }))
    (whole_front (get_or xs i d).bytes written (as_long ∙ ap length were) ∙ become ∙ ap (λ (old : List ℕ). patch_at old at from) were)
    ∙ sym (found_patched xs p at from i d is)

pub same_some : (xs ys : List ℕ) → Some xs ≡ Some ys → xs ≡ ys
same_some xs ys e = cc
