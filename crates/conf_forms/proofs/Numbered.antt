-- A list with the place of each item.
use Rattle.std.proofs.Common.{◌≡◌, ◌<◌, ◌≤◌, ℕ, zero, suc, ◌+◌, List, [], ◌∷◌, length, take, Option, Some, None, slice_get, option_map, option_and_then, arith, take_all, ap, sym, ◌∙◌, refl}
use Rattle.std.specs.List.{enumerate_from}
use Rattle.std.proofs.lemmas.List.FromFn.{length-enumerate_from}

-- an item is told with its place
pub slice_get-from : {A : Type 0} (n : ℕ) (xs : List A) (i : ℕ) → slice_get (enumerate_from n xs) i ≡ option_map (λ x. (n + i, x)) (slice_get xs i)
slice_get-from n [] i = refl
slice_get-from n (x ∷ xs) zero = let e : n ≡ n + 0 = omega arith in ap (λ k. Some (k, x)) e
slice_get-from n (x ∷ xs) (suc i) = let e : (n + 1) + i ≡ n + suc i = omega arith in slice_get-from (n + 1) xs i ∙ ap (λ k. option_map (λ y. (k, y)) (slice_get xs i)) e

-- what holds of an item at its place
pub numbered_at : {A B : Type 0} (f : ℕ × A → Option B) (xs : List A) (i : ℕ) → option_and_then (λ x. f (i, x)) (slice_get xs i) ≡ option_and_then f (slice_get (enumerate_from 0 xs) i)
numbered_at {A = A} f xs i = go (slice_get xs i) ∙ sym (ap (option_and_then f) (slice_get-from 0 xs i ∙ ap (λ k. option_map (λ y. (k, y)) (slice_get xs i)) z))
  where
    z : 0 + i ≡ i
    z = omega arith

    go : (o : Option A) → option_and_then (λ x. f (i, x)) o ≡ option_and_then f (option_map (λ x. (i, x)) o)
    go (Some x) = refl
    go None = refl

pub numbered_within : {A : Type 0} (xs : List A) (i : ℕ) → i < length xs → i < length (enumerate_from 0 xs)
numbered_within xs i within = omega (arith, within, length-enumerate_from 0 xs)

pub numbered_all : {A : Type 0} (xs : List A) (i : ℕ) → length xs ≤ i → take i (enumerate_from 0 xs) ≡ enumerate_from 0 xs
numbered_all xs i past = take_all i (enumerate_from 0 xs) (omega (arith, past, length-enumerate_from 0 xs))
