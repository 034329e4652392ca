-- Bytes that the writer adds.
use Rattle.std.proofs.Common.{◌≡◌, ℕ, zero, suc, ◌+◌, ◌%◌, ◌<◌, Bool, true, false, List, [], ◌∷◌, ◌++◌, refl, sym, ap, ◌∙◌, append_assoc, arith}
use Rattle.wire_value.specs.Spelling.{zeros, word}

zeros-push : (k : ℕ) → zeros k ++ 0 ∷ [] ≡ zeros (k + 1)
zeros-push zero = refl
zeros-push (suc k) = ap (λ (y : List ℕ). 0 ∷ y) (zeros-push k) ∙ one_more k
  where
    one_more : (k : ℕ) → 0 ∷ zeros (k + 1) ≡ zeros (suc k + 1)
    one_more k = let e : suc k + 1 ≡ suc (k + 1) = omega arith in ap zeros (sym e)

pub zeros_more : (old new : List ℕ) (k : ℕ) → new ≡ old ++ zeros k → new ++ 0 ∷ [] ≡ old ++ zeros (k + 1)
zeros_more old new k e = ap (λ (y : List ℕ). y ++ 0 ∷ []) e ∙ append_assoc old (zeros k) (0 ∷ []) ∙ ap (λ (y : List ℕ). old ++ y) (zeros-push k)

pub word_8 : (little : Bool) (x : ℕ) → x < 256 → word little 1 x ≡ x ∷ []
unfolding word
word_8 true x h = let e : x % 256 ≡ x = omega arith in ap (λ (y : ℕ). y ∷ []) e
word_8 false x h = let e : x % 256 ≡ x = omega arith in ap (λ (y : ℕ). y ∷ []) e
