-- A list, up to a place and one item more.
use Rattle.std.proofs.Common.{◌≡◌, ◌<◌, ℕ, ◌+◌, List, [], ◌∷◌, ◌++◌, length, take, Option, Some, None, slice_get, option_map, refl, ◌∙◌, ap, arith}
use Rattle.std.proofs.lemmas.List.{take_more}
use Rattle.std.proofs.lemmas.Option.{get_or_from_slice_get, slice_get_within, slice_get-get_or}

pub take_get : {A : Type 0} (xs : List A) (i : ℕ) (x : A) → slice_get xs i ≡ Some x → take (i + 1) xs ≡ take i xs ++ x ∷ []
take_get xs i x h = take_more xs i x (slice_get_within xs i x h) ∙ ap (λ y. take i xs ++ y ∷ []) (get_or_from_slice_get xs i x x h)

-- where a part of the item at a place is known, the item is there
pub item_at : {A B : Type 0} (f : A → B) (o : Option A) (y : B) → Some y ≡ option_map f o → (x : A) × (o ≡ Some x) × (f x ≡ y)
item_at f (Some x) y h = (x, refl, cc)
item_at f None y h = absurd (cc)

pub none_at : {A B : Type 0} (f : A → B) (o : Option A) → None ≡ option_map f o → o ≡ None
none_at f (Some x) h = absurd (cc)
none_at f None h = refl

pub not_past : {A B : Type 0} (f : A → B) (xs : List A) (i n : ℕ) → None ≡ option_map f (slice_get xs i) → i < n → n ≡ length xs → ⊥
not_past f [] i n h within is = omega (arith, within, is)
not_past f (x ∷ xs) i n h within is = let none = none_at f (slice_get (x ∷ xs) i) h in let there = slice_get-get_or (x ∷ xs) i x (omega (arith, within, is)) in cc
