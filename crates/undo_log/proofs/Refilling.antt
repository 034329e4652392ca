-- Files that stay are taken out of those that were there, and put back at their places.
use Rattle.std.proofs.Common.{◌≡◌, ◌⊎◌, ⊎_elim, ℕ, ◌+◌, ◌<◌, ◌≤◌, Bool, true, false, cond, List, [], ◌∷◌, ◌++◌, length, take, drop, filter, map, refl, sym, ◌∙◌, ap, get_or}
use Rattle.std.specs.Prelude.{slice_set}
use Rattle.std.proofs.lemmas.List.{append_assoc, drop_all, drop_more, take-append-drop, take_more_set}
use Rattle.machine.specs.declared.world.Named.{Named}
use Rattle.undo_log.specs.Undo.{with_blanks_at, items_at, with_files_at}
use Rattle.undo_log.proofs.Rest.{same_here}

-- files of which those that are marked were taken out are whole with them
pub with_files_at-with_blanks_at : (marks : List Bool) (files : List Named) → with_files_at marks (with_blanks_at marks files) (items_at marks files) ≡ files
with_files_at-with_blanks_at [] files = refl
with_files_at-with_blanks_at (b ∷ marks) [] = refl
with_files_at-with_blanks_at (true ∷ marks) (n ∷ files) = ap (λ (ns : List Named). n ∷ ns) (with_files_at-with_blanks_at marks files)
with_files_at-with_blanks_at (false ∷ marks) (n ∷ files) = ap (λ (ns : List Named). n ∷ ns) (with_files_at-with_blanks_at marks files)

-- the items that pass a test are at the places that it marks
pub items_at-map : {A : Type 0} (f : A → Bool) (xs : List A) → items_at (map f xs) xs ≡ filter f xs
items_at-map f [] = refl
items_at-map f (x ∷ xs) = elim (f x) as (λ b. items_at (b ∷ map f xs) (x ∷ xs) ≡ cond b (x ∷ filter f xs) (filter f xs)) [
  | true ↦ ap (λ ys. x ∷ ys) (items_at-map f xs)
  | false ↦ items_at-map f xs
]

-- one place more
refilled_one : (b : Bool) (n v : Named) (marks : List Bool) (places others : List Named) → v ∷ [] ≡ with_files_at (b ∷ []) (n ∷ []) others → v ∷ with_files_at marks places (cond b (drop 1 others) others) ≡ with_files_at (b ∷ marks) (n ∷ places) others
refilled_one false n v marks places others is = ap (λ (ns : List Named). ns ++ with_files_at marks places others) is
refilled_one true n v marks places [] is = ap (λ (ns : List Named). ns ++ with_files_at marks places []) is
refilled_one true n v marks places (o ∷ others) is = ap (λ (ns : List Named). ns ++ with_files_at marks places others) is

module _ (marks : List Bool) (initial places all : List Named) (at : ℕ) (n v : Named) (in_marks : at < length marks) (in_initial : at < length initial) (in_places : at < length places) where
  pub refill_more : (others rest : List Named) → rest ≡ cond (get_or marks at false) (drop 1 others) others → v ∷ [] ≡ with_files_at (get_or marks at false ∷ []) (get_or places at n ∷ []) others → drop at places ≡ drop at initial → take at places ++ with_files_at (drop at marks) (drop at initial) others ≡ all → take (at + 1) (slice_set places at v) ++ with_files_at (drop (at + 1) marks) (drop (at + 1) initial) rest ≡ all
  refill_more others rest left is same done =
      let put = is ∙ ap (λ (m : Named). with_files_at (get_or marks at false ∷ []) (m ∷ []) others) (same_here places initial at n same) in
      ap (λ (ns : List Named). ns ++ with_files_at (drop (at + 1) marks) (drop (at + 1) initial) rest) (take_more_set places at v in_places)
      ∙ append_assoc (take at places) (v ∷ []) (with_files_at (drop (at + 1) marks) (drop (at + 1) initial) rest)
      ∙ ap (λ (ns : List Named). take at places ++ v ∷ with_files_at (drop (at + 1) marks) (drop (at + 1) initial) ns) left
      ∙ ap (λ (ns : List Named). take at places ++ ns) (refilled_one (get_or marks at false) (get_or initial at n) v (drop (at + 1) marks) (drop (at + 1) initial) others put)
      ∙ ap (λ (bs : List Bool). take at places ++ with_files_at bs (get_or initial at n ∷ drop (at + 1) initial) others) (sym (drop_more marks at false in_marks))
      ∙ ap (λ (ns : List Named). take at places ++ with_files_at (drop at marks) ns others) (sym (drop_more initial at n in_initial))
      ∙ done

-- no place more
module _ (marks : List Bool) (initial places others all : List Named) (at : ℕ) where
  refilled_end : (length marks ≤ at) ⊎ (length initial ≤ at) → with_files_at (drop at marks) (drop at initial) others ≡ drop at initial
  refilled_end past =
      ⊎_elim
      (λ no_marks. ap (λ (bs : List Bool). with_files_at bs (drop at initial) others) (drop_all at marks no_marks))
      (λ no_places. ap (λ (ns : List Named). with_files_at (drop at marks) ns others) (drop_all at initial no_places) ∙ none (drop at marks) ∙ sym (drop_all at initial no_places))
      past
    where
      none : (bs : List Bool) → with_files_at bs [] others ≡ []
      none [] = refl
      none (b ∷ bs) = refl

  pub refill_done : (length marks ≤ at) ⊎ (length initial ≤ at) → drop at places ≡ drop at initial → take at places ++ with_files_at (drop at marks) (drop at initial) others ≡ all → places ≡ all
  refill_done past rest done =
      sym (take-append-drop at places)
      ∙ ap (λ (ns : List Named). take at places ++ ns) (rest ∙ sym (refilled_end past))
      ∙ done

-- one file more is taken
emptied_more : (b : Bool) (n : Named) (marks : List Bool) (files : List Named) → with_blanks_at (b ∷ []) (n ∷ []) ++ with_blanks_at marks files ≡ with_blanks_at (b ∷ marks) (n ∷ files)
emptied_more true n marks files = refl
emptied_more false n marks files = refl

marked_more : (b : Bool) (n : Named) (marks : List Bool) (files : List Named) → items_at (b ∷ []) (n ∷ []) ++ items_at marks files ≡ items_at (b ∷ marks) (n ∷ files)
marked_more true n marks files = refl
marked_more false n marks files = refl

module _ (marks : List Bool) (initial files : List Named) (at : ℕ) (n : Named) (in_marks : at < length marks) (in_initial : at < length initial) (in_files : at < length files) (rest : drop at files ≡ drop at initial) where
  pub emptied_next : (all : List Named) (v : Named) → v ∷ [] ≡ with_blanks_at (get_or marks at false ∷ []) (get_or files at n ∷ []) → take at files ++ with_blanks_at (drop at marks) (drop at initial) ≡ all → take (at + 1) (slice_set files at v) ++ with_blanks_at (drop (at + 1) marks) (drop (at + 1) initial) ≡ all
  emptied_next all v is done =
      ap (λ (ns : List Named). ns ++ with_blanks_at (drop (at + 1) marks) (drop (at + 1) initial)) (take_more_set files at v in_files)
      ∙ append_assoc (take at files) (v ∷ []) (with_blanks_at (drop (at + 1) marks) (drop (at + 1) initial))
      ∙ ap (λ (ns : List Named). take at files ++ (ns ++ with_blanks_at (drop (at + 1) marks) (drop (at + 1) initial))) (is ∙ ap (λ (m : Named). with_blanks_at (get_or marks at false ∷ []) (m ∷ [])) (same_here files initial at n rest))
      ∙ ap (λ (ns : List Named). take at files ++ ns) (emptied_more (get_or marks at false) (get_or initial at n) (drop (at + 1) marks) (drop (at + 1) initial))
      ∙ ap (λ (bs : List Bool). take at files ++ with_blanks_at bs (get_or initial at n ∷ drop (at + 1) initial)) (sym (drop_more marks at false in_marks))
      ∙ ap (λ (ns : List Named). take at files ++ with_blanks_at (drop at marks) ns) (sym (drop_more initial at n in_initial))
      ∙ done

  pub marked_next : (all taken taken' : List Named) → taken' ≡ taken ++ items_at (get_or marks at false ∷ []) (get_or files at n ∷ []) → taken ++ items_at (drop at marks) (drop at initial) ≡ all → taken' ++ items_at (drop (at + 1) marks) (drop (at + 1) initial) ≡ all
  marked_next all taken taken' is done =
      ap (λ (ns : List Named). ns ++ items_at (drop (at + 1) marks) (drop (at + 1) initial)) is
      ∙ append_assoc taken (items_at (get_or marks at false ∷ []) (get_or files at n ∷ [])) (items_at (drop (at + 1) marks) (drop (at + 1) initial))
      ∙ ap (λ (m : Named). taken ++ (items_at (get_or marks at false ∷ []) (m ∷ []) ++ items_at (drop (at + 1) marks) (drop (at + 1) initial))) (same_here files initial at n rest)
      ∙ ap (λ (ns : List Named). taken ++ ns) (marked_more (get_or marks at false) (get_or initial at n) (drop (at + 1) marks) (drop (at + 1) initial))
      ∙ ap (λ (bs : List Bool). taken ++ items_at bs (get_or initial at n ∷ drop (at + 1) initial)) (sym (drop_more marks at false in_marks))
      ∙ ap (λ (ns : List Named). taken ++ items_at (drop at marks) ns) (sym (drop_more initial at n in_initial))
      ∙ done
