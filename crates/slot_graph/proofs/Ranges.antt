-- Numbers from one on.
use Rattle.std.proofs.Common.{◌≡◌, ℕ, zero, suc, ◌+◌, [], ◌∷◌, ◌++◌, map, ap, ◌∙◌, arith}
use Rattle.std.specs.List.{range_with_len}

one_more : {A : Type 0} (f : ℕ → A) (a n : ℕ) → map f (range_with_len a (suc n)) ≡ map f (range_with_len a n) ++ f (a + n) ∷ []
one_more f a zero = let e : a ≡ a + 0 = omega arith in ap (λ k. f k ∷ []) e
one_more f a (suc n) = let e : (a + 1) + n ≡ a + suc n = omega arith in ap (λ more. f a ∷ more) (one_more f (a + 1) n ∙ ap (λ k. map f (range_with_len (a + 1) n) ++ f k ∷ []) e)

-- what f gives of the numbers up to the next one
pub map_range-next : {A : Type 0} (f : ℕ → A) (n : ℕ) → map f (range_with_len 0 (n + 1)) ≡ map f (range_with_len 0 n) ++ f n ∷ []
map_range-next f n =
    let next : n + 1 ≡ suc n = omega arith in
    let here : 0 + n ≡ n = omega arith in
    ap (λ k. map f (range_with_len 0 k)) next ∙ one_more f 0 n ∙ ap (λ k. map f (range_with_len 0 n) ++ f k ∷ []) here
