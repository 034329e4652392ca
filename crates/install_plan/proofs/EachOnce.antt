-- The roots that were met, each once.
use Rattle.std.proofs.Common.{◌≡◌, ◌==◌, ◌||◌, ◌&&◌, ◌+◌, ◌<◌, ℕ, Bool, true, false, cond, not, List, [], ◌∷◌, ◌++◌, filter, get_or, length, map, take, refl, sym, ◌∙◌, ap, subst}
use Rattle.std.specs.List.{list_any}
use Rattle.std.proofs.lemmas.Bool.Decides.{Decides-eqb, same_from_decides}
use Rattle.std.proofs.lemmas.List.{append-nil, map_more}
use Rattle.std.proofs.lemmas.List.Elements.{filter-append}
use Rattle.slot_graph.specs.declared.job.Job.{Job}
use Rattle.system_conf.specs.Configuration.{Configuration}
use Rattle.install_plan.specs.Acts.{each_once, has_bootname, with_root}

flipped : (x r : ℕ) → (r == x) ≡ (x == r)
flipped x r =
    same_from_decides {P = r ≡ x} (r == x) (x == r) (Decides-eqb r x)
    (λ h. sym ((Decides-eqb x r).0 h), λ p. (Decides-eqb x r).1 (sym p))

or_false : (a b : Bool) → a ≡ false → b ≡ (a || b)
or_false true b e = absurd (cc)
or_false false b e = refl

-- one of these is the root
abbrev any : ℕ → List ℕ → Bool
any r xs = list_any (λ q. q == r) xs

-- those that are not
abbrev others : ℕ → List ℕ → List ℕ
others x xs = filter (λ y. not (y == x)) xs

-- what is left out is no other root
any_kept : (x r : ℕ) (xs : List ℕ) → (x == r) ≡ false → any r (others x xs) ≡ any r xs
any_kept x r [] e = refl
any_kept x r (y ∷ ys) e =
    elim (y == x) as (λ b. (y == x) ≡ b → any r (cond (not b) (y ∷ others x ys) (others x ys)) ≡ ((y == r) || any r ys)) [
      | true ↦ λ same. any_kept x r ys e ∙ or_false (y == r) (any r ys) (subst (λ (n : ℕ). (n == r) ≡ false) (sym ((Decides-eqb y x).0 same)) e)
      | false ↦ λ other. ap (λ (b : Bool). (y == r) || b) (any_kept x r ys e)
    ] refl

kept_push : (x r : ℕ) (xs : List ℕ) (a : Bool) → others x (cond (not a) (xs ++ r ∷ []) xs) ≡ cond (not a) (others x xs ++ others x (r ∷ [])) (others x xs)
kept_push x r xs true = refl
kept_push x r xs false = filter-append (λ y. not (y == x)) xs (r ∷ [])

none_more : (a : Bool) (xs : List ℕ) → cond (not a) (xs ++ []) xs ≡ xs
none_more true xs = refl
none_more false xs = append-nil xs

kept_more : (x r : ℕ) (xs : List ℕ) → others x (cond (not (any r xs)) (xs ++ r ∷ []) xs) ≡ cond (not ((x == r) || any r (others x xs))) (others x xs ++ r ∷ []) (others x xs)
kept_more x r xs =
    let at : (b : Bool) → (x == r) ≡ b → others x (r ∷ []) ≡ cond (not b) (r ∷ []) [] = λ b e. ap (λ (t : Bool). cond (not t) (r ∷ []) []) (flipped x r ∙ e) in
    let pushed : (ys : List ℕ) → others x (r ∷ []) ≡ ys → others x (cond (not (any r xs)) (xs ++ r ∷ []) xs) ≡ cond (not (any r xs)) (others x xs ++ ys) (others x xs) =
    λ ys e. kept_push x r xs (any r xs) ∙ ap (λ (zs : List ℕ). cond (not (any r xs)) (others x xs ++ zs) (others x xs)) e in
    elim (x == r) as (λ b. (x == r) ≡ b → others x (cond (not (any r xs)) (xs ++ r ∷ []) xs) ≡ cond (not (b || any r (others x xs))) (others x xs ++ r ∷ []) (others x xs)) [
      | true ↦ λ e. pushed [] (at true e) ∙ none_more (any r xs) (others x xs)
      | false ↦ λ e. pushed (r ∷ []) (at false e) ∙ ap (λ (t : Bool). cond (not t) (others x xs ++ r ∷ []) (others x xs)) (sym (any_kept x r xs e))
    ] refl

before : (x : ℕ) (t : Bool) (xs ys : List ℕ) → x ∷ cond t xs ys ≡ cond t (x ∷ xs) (x ∷ ys)
before x true xs ys = refl
before x false xs ys = refl

once_more : (xs : List ℕ) (r : ℕ) → each_once (xs ++ r ∷ []) ≡ cond (not (any r (each_once xs))) (each_once xs ++ r ∷ []) (each_once xs)
once_more [] r = refl
once_more (x ∷ xs) r =
    ap (λ (ys : List ℕ). x ∷ others x ys) (once_more xs r)
    ∙ ap (λ (ys : List ℕ). x ∷ ys) (kept_more x r (each_once xs))
    ∙ before x (not ((x == r) || any r (others x (each_once xs)))) (others x (each_once xs) ++ r ∷ []) (others x (each_once xs))

-- a root that passes a test, and does not stand there yet, comes to the end
roots_more : (h : ℕ → Bool) (xs : List ℕ) (r : ℕ) → cond (h r && not (any r (each_once (filter h xs)))) (each_once (filter h xs) ++ r ∷ []) (each_once (filter h xs)) ≡ each_once (filter h (xs ++ r ∷ []))
roots_more h xs r =
    elim (h r) as (λ b. cond (b && not (any r (each_once (filter h xs)))) (each_once (filter h xs) ++ r ∷ []) (each_once (filter h xs)) ≡ each_once (filter h xs ++ cond b (r ∷ []) [])) [
      | true ↦ sym (once_more (filter h xs) r)
      | false ↦ sym (ap each_once (append-nil (filter h xs)))
    ]
    ∙ sym (ap each_once (filter-append h xs (r ∷ [])))

-- the same of the root over one more job
pub roots_at : (c : Configuration) (jobs : List Job) (i : ℕ) (d : Job) (old new : List ℕ) → i < length jobs → old ≡ each_once (filter (has_bootname c) (map (λ job. job.root) (take i jobs))) → new ≡ with_root c old (get_or jobs i d).root → new ≡ each_once (filter (has_bootname c) (map (λ job. job.root) (take (i + 1) jobs)))
roots_at c jobs i d old new within before pushed =
    pushed
    ∙ ap (λ (roots : List ℕ). with_root c roots (get_or jobs i d).root) before
    ∙ roots_more (has_bootname c) (map (λ (job : Job). job.root) (take i jobs)) (get_or jobs i d).root
    ∙ ap (λ (xs : List ℕ). each_once (filter (has_bootname c) xs)) (sym (map_more (λ (job : Job). job.root) jobs i d within))
