-- The first answer along a list.
use Rattle.std.proofs.Common.{◌≡◌, ◌<◌, ℕ, ◌+◌, List, [], ◌∷◌, ◌++◌, length, map, take, drop, get_or, Option, Some, None, refl, sym, ◌∙◌, ap, append_assoc, subst, slice_get, option_and_then, arith}
use Rattle.std.proofs.lemmas.List.{take_more, take-append-drop}
use Rattle.std.specs.Prelude.{Result, IfOk}
use Rattle.std.proofs.lemmas.Option.{get_or_from_slice_get, slice_get_within, slice_get-get_or}
use Rattle.conf_forms.specs.Lists.{or_else, first_of}

or_else_assoc : {A : Type 0} (a b c : Option A) → or_else (or_else a b) c ≡ or_else a (or_else b c)
or_else_assoc (Some x) b c = refl
or_else_assoc None b c = refl

pub or_else-None : {A : Type 0} (a : Option A) → or_else a None ≡ a
or_else-None (Some x) = refl
or_else-None None = refl

pub both_none : {A : Type 0} (a b : Option A) → or_else a b ≡ None → (a ≡ None) × (b ≡ None)
both_none (Some x) b h = absurd (cc)
both_none None b h = (refl, h)

pub first_of-append : {A B : Type 0} (f : A → Option B) (xs ys : List A) → first_of f (xs ++ ys) ≡ or_else (first_of f xs) (first_of f ys)
first_of-append f [] ys = refl
first_of-append f (x ∷ xs) ys = ap (or_else (f x)) (first_of-append f xs ys) ∙ sym (or_else_assoc (f x) (first_of f xs) (first_of f ys))

pub first_of-map : {A B C : Type 0} (f : B → Option C) (g : A → B) (xs : List A) → first_of f (map g xs) ≡ first_of (λ x. f (g x)) xs
first_of-map f g [] = refl
first_of-map f g (x ∷ xs) = ap (or_else (f (g x))) (first_of-map f g xs)

-- none so far, and none at the next place
pub first_of_more : {A B : Type 0} (f : A → Option B) (xs : List A) (i : ℕ) (d : A) → first_of f (take i xs) ≡ None → i < length xs → f (get_or xs i d) ≡ None → first_of f (take (i + 1) xs) ≡ None
first_of_more f xs i d none within here =
    ap (first_of f) (take_more xs i d within) ∙ first_of-append f (take i xs) (get_or xs i d ∷ []) ∙ (λ j. or_else (none j) (or_else (here j) None))

-- none so far, and one at the next place
first_of_at : {A B : Type 0} (f : A → Option B) (xs rest : List A) (x : A) (y : B) → first_of f xs ≡ None → f x ≡ Some y → first_of f (xs ++ x ∷ rest) ≡ Some y
first_of_at f xs rest x y none here = first_of-append f xs (x ∷ rest) ∙ (λ j. or_else (none j) (or_else (here j) (first_of f rest)))

split_at : {A : Type 0} (xs : List A) (i : ℕ) (d : A) → i < length xs → xs ≡ take i xs ++ get_or xs i d ∷ drop (i + 1) xs
split_at {A = A} xs i d within = sym (take-append-drop (i + 1) xs) ∙ ap (λ (front : List A). front ++ drop (i + 1) xs) (take_more xs i d within) ∙ append_assoc (take i xs) (get_or xs i d ∷ []) (drop (i + 1) xs)

pub first_of_hit : {A B : Type 0} (f : A → Option B) (xs : List A) (i : ℕ) (d : A) (y : B) → first_of f (take i xs) ≡ None → i < length xs → f (get_or xs i d) ≡ Some y → first_of f xs ≡ Some y
first_of_hit f xs i d y none within here = ap (first_of f) (split_at xs i d within) ∙ first_of_at f (take i xs) (drop (i + 1) xs) (get_or xs i d) y none here

-- an answer of a call, told by an equal value
pub is_along : {A E : Type 0} (r : Result A E) (a b : A) → a ≡ b → IfOk r (λ x. x ≡ a) → IfOk r (λ x. x ≡ b)
is_along r a b e h = subst (λ y. IfOk r (λ x. x ≡ y)) e h

-- a list in two parts, where the first has none
pub first_of-second : {A B : Type 0} (f : A → Option B) (xs ys : List A) → None ≡ first_of f xs → first_of f ys ≡ first_of f (xs ++ ys)
first_of-second f xs ys none = ap (λ o. or_else o (first_of f ys)) none ∙ sym (first_of-append f xs ys)

-- and where it has one
pub first_of-first : {A B : Type 0} (f : A → Option B) (xs ys : List A) (y : B) → Some y ≡ first_of f xs → Some y ≡ first_of f (xs ++ ys)
first_of-first f xs ys y one = ap (λ o. or_else o (first_of f ys)) one ∙ sym (first_of-append f xs ys)

-- two items that have none stand before
pub after_two : {A B : Type 0} (f : A → Option B) (x y : A) (xs : List A) → None ≡ f x → None ≡ f y → first_of f xs ≡ first_of f (x ∷ y ∷ xs)
after_two f x y xs p q = λ i. or_else (p i) (or_else (q i) (first_of f xs))

-- the same by the item at a place, where there is one
pub item_hit : {A B : Type 0} (f : A → Option B) (xs : List A) (i : ℕ) (y : B) → first_of f (take i xs) ≡ None → Some y ≡ option_and_then f (slice_get xs i) → Some y ≡ first_of f xs
item_hit {A = A} {B = B} f xs i y none h = go (slice_get xs i) refl h
  where
    go : (o : Option A) → slice_get xs i ≡ o → Some y ≡ option_and_then f o → Some y ≡ first_of f xs
    go (Some x) e one = sym (first_of_hit f xs i x y none (slice_get_within xs i x e) (ap f (get_or_from_slice_get xs i x x e) ∙ sym one))
    go None e one = absurd (cc)

not_within : {A : Type 0} (xs : List A) (i : ℕ) → slice_get xs i ≡ None → i < length xs → ⊥
not_within [] i e within = omega (arith, within)
not_within (x ∷ xs) i e within = let there = slice_get-get_or (x ∷ xs) i x within in cc

pub item_more : {A B : Type 0} (f : A → Option B) (xs : List A) (i : ℕ) → first_of f (take i xs) ≡ None → None ≡ option_and_then f (slice_get xs i) → i < length xs → first_of f (take (i + 1) xs) ≡ None
item_more {A = A} {B = B} f xs i none h within = go (slice_get xs i) refl h
  where
    go : (o : Option A) → slice_get xs i ≡ o → None ≡ option_and_then f o → first_of f (take (i + 1) xs) ≡ None
    go (Some x) e one = first_of_more f xs i x none within (ap f (get_or_from_slice_get xs i x x e) ∙ sym one)
    go None e one = absurd (not_within xs i e within)

-- the same by the item that a loop reads
pub item_of_hit : {A B : Type 0} (f : A → Option B) (xs : List A) (i : ℕ) (x : A) (y : B) → first_of f (take i xs) ≡ None → i < length xs → x ≡ get_or xs i x → Some y ≡ f x → Some y ≡ first_of f xs
item_of_hit f xs i x y none within is one = sym (first_of_hit f xs i x y none within (ap f (sym is) ∙ sym one))

pub item_of_more : {A B : Type 0} (f : A → Option B) (xs : List A) (i : ℕ) (x : A) → first_of f (take i xs) ≡ None → i < length xs → x ≡ get_or xs i x → None ≡ f x → first_of f (take (i + 1) xs) ≡ None
item_of_more f xs i x none within is one = first_of_more f xs i x none within (ap f (sym is) ∙ sym one)
