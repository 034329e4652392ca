-- What holds of each item of a list, and of the acts that an install makes its list of.
use Rattle.std.proofs.Common.{◌≡◌, ◌≤◌, ◌+◌, ℕ, zero, suc, Bool, true, false, cond, List, [], ◌∷◌, ◌++◌, map, filter, reverse, flat_map, slice_get, Some, refl, sym, subst, arith}
use Rattle.std.specs.List.{range_with_len}
use Rattle.std.proofs.lemmas.List.{reverse-append}
use Rattle.install_facts.specs.declared.report.Note.{Note}
use Rattle.install_plan.specs.Acts.{notes_in, steps_in}
use Rattle.install_plan.specs.declared.step.Act.{Act}
use Rattle.install_plan.specs.declared.step.Act.TheVariants.{Do, Tell}
use Rattle.install_plan.specs.declared.step.Step.{Step}

-- it holds of each item
abbrev pub Each : {X : Type 0} → (X → Type 0) → List X → Type 0
Each P [] = Unit {0}
Each P (x ∷ xs) = P x × Each P xs

-- of two lists, one after the other
pub each_append : {X : Type 0} (P : X → Type 0) (xs ys : List X) → Each P xs → Each P ys → Each P (xs ++ ys)
each_append P [] ys front back = back
each_append P (x ∷ xs) ys front back = (front.0, each_append P xs ys front.1 back)

-- and of each of the two
pub each_apart : {X : Type 0} (P : X → Type 0) (xs ys : List X) → Each P (xs ++ ys) → Each P xs × Each P ys
each_apart P [] ys all = (tt, all)
each_apart P (x ∷ xs) ys all = let rest = each_apart P xs ys all.1 in ((all.0, rest.0), rest.1)

-- what follows from it
pub each_weaker : {X : Type 0} (P Q : X → Type 0) → ((x : X) → P x → Q x) → (xs : List X) → Each P xs → Each Q xs
each_weaker P Q each [] all = tt
each_weaker P Q each (x ∷ xs) all = (each x all.0, each_weaker P Q each xs all.1)

-- both hold
pub each_both : {X : Type 0} (P Q R : X → Type 0) → ((x : X) → P x → Q x → R x) → (xs : List X) → Each P xs → Each Q xs → Each R xs
each_both P Q R each [] left right = tt
each_both P Q R each (x ∷ xs) left right = (each x left.0 right.0, each_both P Q R each xs left.1 right.1)

-- of one item, where a test passes
pub each_if : {X : Type 0} (P : X → Type 0) (b : Bool) (x : X) → P x → Each P (cond b (x ∷ []) [])
each_if P true x here = (here, tt)
each_if P false x here = tt

-- of what lists give that are joined
pub each_flat_map : {X Y : Type 0} (P : X → Type 0) (Q : Y → Type 0) (f : X → List Y) → ((x : X) → P x → Each Q (f x)) → (xs : List X) → Each P xs → Each Q (flat_map f xs)
each_flat_map P Q f each [] all = tt
each_flat_map P Q f each (x ∷ xs) all = each_append Q (f x) (flat_map f xs) (each x all.0) (each_flat_map P Q f each xs all.1)

-- of what a function gives for each
pub each_map : {X Y : Type 0} (P : X → Type 0) (Q : Y → Type 0) (f : X → Y) → ((x : X) → P x → Q (f x)) → (xs : List X) → Each P xs → Each Q (map f xs)
each_map P Q f each [] all = tt
each_map P Q f each (x ∷ xs) all = (each x all.0, each_map P Q f each xs all.1)

-- of those that pass a test
pub each_filter : {X : Type 0} (P : X → Type 0) (test : X → Bool) (xs : List X) → Each P xs → Each P (filter test xs)
each_filter P test [] all = tt
each_filter {X} P test (x ∷ xs) all = go (test x) (each_filter P test xs all.1)
  where
    go : (b : Bool) → Each P (filter test xs) → Each P (cond b (x ∷ filter test xs) (filter test xs))
    go true rest = (all.0, rest)
    go false rest = rest

-- and that they pass it
pub each_passes : {X : Type 0} (test : X → Bool) (xs : List X) → Each (λ x. test x ≡ true) (filter test xs)
each_passes test [] = tt
each_passes {X} test (x ∷ xs) = go (test x) refl (each_passes test xs)
  where
    go : (b : Bool) → test x ≡ b → Each (λ y. test y ≡ true) (filter test xs) → Each (λ y. test y ≡ true) (cond b (x ∷ filter test xs) (filter test xs))
    go true is rest = (is, rest)
    go false is rest = rest

-- from the last to the first
pub each_reverse : {X : Type 0} (P : X → Type 0) (xs : List X) → Each P xs → Each P (reverse xs)
each_reverse P [] all = tt
each_reverse P (x ∷ xs) all = subst (Each P) (sym (reverse-append (x ∷ []) xs)) (each_append P (reverse xs) (x ∷ []) (each_reverse P xs all.1) (all.0, tt))

-- of so many numbers from one on
pub each_range : (P : ℕ → Type 0) → (from count : ℕ) → ((n : ℕ) → from ≤ n → P n) → Each P (range_with_len from count)
each_range P from zero each = tt
each_range P from (suc count) each = (each from (omega arith), each_range P (from + 1) count (λ n le. each n (omega (arith, le))))

-- where it holds of the item at any place
pub each_from : {X : Type 0} (P : X → Type 0) (xs : List X) → ((j : ℕ) (x : X) → slice_get xs j ≡ Some x → P x) → Each P xs
each_from P [] each = tt
each_from P (x ∷ xs) each = (each zero x refl, each_from P xs (λ j y is. each (suc j) y is))

-- and of the item at a place
pub each_at : {X : Type 0} (P : X → Type 0) (xs : List X) → Each P xs → (j : ℕ) (x : X) → slice_get xs j ≡ Some x → P x
each_at P [] all j x is = absurd (cc)
each_at P (y ∷ xs) all zero x is = let same : y ≡ x = cc in subst P same all.0
each_at P (y ∷ xs) all (suc j) x is = each_at P xs all.1 j x is

-- where a list is split, of the item between
pub each_between : {X : Type 0} (P : X → Type 0) (xs before after : List X) (x : X) → xs ≡ before ++ x ∷ after → Each P xs → P x
each_between P xs before after x is all = go before (subst (Each P) is all)
  where
    go : (front : List _) → Each P (front ++ x ∷ after) → P x
    go [] all = all.0
    go (y ∷ front) all = go front all.1

-- ---- of acts

-- it holds of a step
abbrev pub OfStep : (Step → Type 0) → Act → Type 0
OfStep P (Do s) = P s
OfStep P (Tell n) = Unit {0}

-- it holds of a note
abbrev pub OfNote : (Note → Type 0) → Act → Type 0
OfNote P (Do s) = Unit {0}
OfNote P (Tell n) = P n

-- of the steps among acts
pub each_step : (P : Step → Type 0) (acts : List Act) → Each (OfStep P) acts → Each P (steps_in acts)
each_step P [] all = tt
each_step P (Do s ∷ acts) all = (all.0, each_step P acts all.1)
each_step P (Tell n ∷ acts) all = each_step P acts all.1

-- and of the notes
pub each_note : (P : Note → Type 0) (acts : List Act) → Each (OfNote P) acts → Each P (notes_in acts)
each_note P [] all = tt
each_note P (Do s ∷ acts) all = each_note P acts all.1
each_note P (Tell n ∷ acts) all = (all.0, each_note P acts all.1)
