-- Words that are joined.
use Rattle.std.proofs.Common.{◌≡◌, ◌++◌, ◌+◌, ℕ, List, [], ◌∷◌, map, refl, ap, ◌∙◌, sym, codes, decimal}
use Rattle.std.proofs.lemmas.List.Folds.{flat_map-map}
use Rattle.std.specs.List.{join_by}
use Rattle.slot_graph.specs.declared.job.Job.{Job}
use Rattle.child_steps.specs.Hooks.{numbers}

-- the words may be made first
join_by-map : {X : Type 0} (f : X → List ℕ) (gap : List ℕ) (xs : List X) → join_by (λ word. word) gap (map f xs) ≡ join_by f gap xs
join_by-map f gap [] = refl
join_by-map f gap (x ∷ xs) = ap (λ rest. f x ++ rest) (flat_map-map (λ word. gap ++ word) f xs)

pub joined_numbers : (places : List ℕ) → join_by (λ word. word) (codes " ") (map (λ at. decimal (at + 1)) places) ≡ numbers places
joined_numbers places = join_by-map (λ at. decimal (at + 1)) (codes " ") places
