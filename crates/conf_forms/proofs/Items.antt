-- The pieces of a list, and its items.
use Rattle.std.proofs.Common.{◌≡◌, ◌≢◌, ℕ, Bool, true, false, cond, eqb, List, [], ◌∷◌, ◌++◌, length, suc, refl, sym, ◌∙◌, ap, subst, Option, Some, None, Bor}
use Rattle.std.specs.Prelude.{unwrap_or, MatchOption}
use Rattle.std.specs.List.{onto_first, slice_split}
use Rattle.std.proofs.Math.Dec.{eqb-suc-zero}
use Rattle.std.proofs.lemmas.Bool.{eqb-true}
use Rattle.keyfile.specs.Items.{items_of, without_empty_last}

abbrev split : List ℕ → List (List ℕ)
split = slice_split (λ b. eqb b 59)

-- a text has a first piece
has_first : (xs : List ℕ) → (s : List ℕ) × (ss : List (List ℕ)) × (split xs ≡ s ∷ ss)
has_first [] = ([], [], refl)
has_first (x ∷ xs) = go (eqb x 59) (has_first xs)
  where
    go : (b : Bool) → (s : List ℕ) × (ss : List (List ℕ)) × (split xs ≡ s ∷ ss) → (s : List ℕ) × (ss : List (List ℕ)) × (cond b ([] ∷ split xs) (onto_first x (split xs)) ≡ s ∷ ss)
    go true r = ([], split xs, refl)
    go false r = (x ∷ r.0, r.1, ap (onto_first x) r.2)

-- a semicolon at the end adds an empty piece
split_end : (xs : List ℕ) → split (xs ++ 59 ∷ []) ≡ split xs ++ [] ∷ []
split_end [] = refl
split_end (x ∷ xs) = go (eqb x 59) (has_first xs) (split_end xs)
  where
    go : (b : Bool) → (s : List ℕ) × (ss : List (List ℕ)) × (split xs ≡ s ∷ ss) → split (xs ++ 59 ∷ []) ≡ split xs ++ [] ∷ [] → cond b ([] ∷ split (xs ++ 59 ∷ [])) (onto_first x (split (xs ++ 59 ∷ []))) ≡ cond b ([] ∷ split xs) (onto_first x (split xs)) ++ [] ∷ []
    go true r more = ap (λ (ys : List (List ℕ)). [] ∷ ys) more
    go false r more =
        ap (onto_first x) (more ∙ ap (λ (ys : List (List ℕ)). ys ++ [] ∷ []) r.2) ∙ sym (ap (λ (ys : List (List ℕ)). onto_first x ys ++ [] ∷ []) r.2)

-- which is left out
left_out_end : (ys : List (List ℕ)) → without_empty_last (ys ++ [] ∷ []) ≡ ys
left_out_end [] = refl
left_out_end (y ∷ []) = refl
left_out_end (y ∷ z ∷ zs) = ap (λ (more : List (List ℕ)). y ∷ more) (left_out_end (z ∷ zs))

pub items_before_end : (xs : List ℕ) → items_of (xs ++ 59 ∷ []) ≡ split xs
items_before_end xs = ap without_empty_last (split_end xs) ∙ left_out_end (split xs)

tail_same : (s : List ℕ) (xs ys : List (List ℕ)) → s ∷ xs ≡ s ∷ ys → xs ≡ ys
tail_same s xs ys e = cc

-- the last piece is not empty, and so nothing is left out
abbrev IsWhole : List (List ℕ) → Type 0
IsWhole ys = without_empty_last ys ≡ ys

after_empty : (s : List ℕ) (ss : List (List ℕ)) → IsWhole (s ∷ ss) → IsWhole ([] ∷ s ∷ ss)
after_empty s ss h = ap (λ (ys : List (List ℕ)). [] ∷ ys) h

not_zero : (n : ℕ) → eqb (suc n) 0 ≡ false
not_zero n = eqb-suc-zero n

whole_one : {A : Type 0} {y : A} (b : Bool) → b ≡ false → cond b [] (y ∷ []) ≡ y ∷ []
whole_one true e = absurd (cc)
whole_one false e = refl

onto_longer : (x : ℕ) (s : List ℕ) (ss : List (List ℕ)) → IsWhole (s ∷ ss) → IsWhole ((x ∷ s) ∷ ss)
onto_longer x s [] h = whole_one (eqb (length (x ∷ s)) 0) (not_zero (length s))
onto_longer x s (t ∷ ts) h = ap (λ (ys : List (List ℕ)). (x ∷ s) ∷ ys) (tail_same s (without_empty_last (t ∷ ts)) (t ∷ ts) h)

-- the text does not end with a semicolon
pub items_whole : (x : ℕ) (xs : List ℕ) → ((front : List ℕ) → x ∷ xs ≢ front ++ 59 ∷ []) → items_of (x ∷ xs) ≡ split (x ∷ xs)
items_whole x [] other = go (eqb x 59) refl
  where
    go : (b : Bool) → eqb x 59 ≡ b → IsWhole (cond b ([] ∷ [] ∷ []) ((x ∷ []) ∷ []))
    go true e = absurd (other [] (ap (λ y. y ∷ []) (eqb-true x 59 e)))
    go false e = whole_one (eqb (length (x ∷ [])) 0) (not_zero 0)
items_whole x (y ∷ ys) other = go (eqb x 59) (has_first (y ∷ ys)) (items_whole y ys (λ front e. other (x ∷ front) (ap (λ (zs : List ℕ). x ∷ zs) e)))
  where
    go : (b : Bool) → (s : List ℕ) × (ss : List (List ℕ)) × (split (y ∷ ys) ≡ s ∷ ss) → IsWhole (split (y ∷ ys)) → IsWhole (cond b ([] ∷ split (y ∷ ys)) (onto_first x (split (y ∷ ys))))
    go true r h = subst (λ (zs : List (List ℕ)). IsWhole ([] ∷ zs)) (sym r.2) (after_empty r.0 r.1 (subst IsWhole r.2 h))
    go false r h = subst (λ (zs : List (List ℕ)). IsWhole (onto_first x zs)) (sym r.2) (onto_longer x r.0 r.1 (subst IsWhole r.2 h))

-- the text without a semicolon at its end has the items for its pieces
pub items_read : (text : List ℕ) (r : Option (Bor (List ℕ))) (given : Bor (List ℕ)) → given.now ≡ text → text ≢ []
    → MatchOption r ((front : List ℕ) → text ≢ front ++ (59 ∷ [])) (λ x. text ≡ x.now ++ (59 ∷ [])) → items_of text ≡ split (unwrap_or r given).now
items_read text (Some x) given same some h = ap items_of h ∙ items_before_end x.now
items_read [] None given same some h = absurd (some refl)
items_read (x ∷ xs) None given same some h = items_whole x xs h ∙ ap split (sym same)
