-- Where none along a list is refused.
use Rattle.std.proofs.Common.{◌≡◌, ℕ, zero, suc, List, [], ◌∷◌, slice_get, Option, Some, None, ap, sym, ◌∙◌}
use Rattle.conf_forms.proofs.FirstOf.{both_none}
use Rattle.conf_forms.specs.Lists.{first_of}

-- the one at a place is not
pub none_at : {A B : Type 0} (f : A → Option B) (xs : List A) → first_of f xs ≡ None → (at : ℕ) (x : A) → slice_get xs at ≡ Some x → f x ≡ None
none_at f [] none at x is = absurd (cc)
none_at f (y ∷ xs) none zero x is = let same : y ≡ x = cc in ap f (sym same) ∙ (both_none (f y) (first_of f xs) none).0
none_at f (y ∷ xs) none (suc at) x is = none_at f xs (both_none (f y) (first_of f xs) none).1 at x is
