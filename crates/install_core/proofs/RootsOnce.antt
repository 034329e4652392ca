-- The roots over the jobs' slots are listed once each.
use Rattle.std.proofs.Common.{◌≡◌, ◌≢◌, ◌==◌, not, ℕ, Bool, true, false, cond, List, [], ◌∷◌, ◌++◌, filter, map, reverse, sym, subst, eq-eqb}
use Rattle.std.proofs.lemmas.Bool.{both_ways, not-true}
use Rattle.std.proofs.lemmas.List.{reverse-append}
use Rattle.system_conf.specs.Configuration.{Configuration}
use Rattle.install_facts.specs.Facts.{FactsContent}
use Rattle.install_plan.specs.Acts.{each_once, has_bootname, target_roots}
use Rattle.install_plan.proofs.Each.{Each, each_append, each_filter, each_passes, each_reverse, each_weaker}

-- no number stands twice
abbrev pub Differ : List ℕ → Type 0
Differ [] = Unit {0}
Differ (x ∷ xs) = Each (λ y. x ≢ y) xs × Differ xs

-- so it is for those that pass a test
differ_filter : (test : ℕ → Bool) (xs : List ℕ) → Differ xs → Differ (filter test xs)
differ_filter test [] differ = tt
differ_filter test (x ∷ xs) differ = go (test x) (differ_filter test xs differ.1)
  where
    go : (b : Bool) → Differ (filter test xs) → Differ (cond b (x ∷ filter test xs) (filter test xs))
    go true rest = (each_filter (λ y. x ≢ y) test xs differ.0, rest)
    go false rest = rest

-- what is kept beside a number is another
other : (x y : ℕ) → not (y == x) ≡ true → x ≢ y
other x y passes same = both_ways (y == x) (not-true (y == x) passes) (eq-eqb y x (sym same))

-- each once: no number twice
differ_once : (xs : List ℕ) → Differ (each_once xs)
differ_once [] = tt
differ_once (x ∷ xs) = (
  each_weaker (λ y. not (y == x) ≡ true) (λ y. x ≢ y) (other x) (filter (λ y. not (y == x)) (each_once xs)) (each_passes (λ y. not (y == x)) (each_once xs)),
  differ_filter (λ y. not (y == x)) (each_once xs) (differ_once xs),
)

-- one more at the end
differ_push : (xs : List ℕ) (x : ℕ) → Differ xs → Each (λ y. x ≢ y) xs → Differ (xs ++ x ∷ [])
differ_push [] x differ apart = (tt, tt)
differ_push (y ∷ xs) x differ apart = (each_append (λ z. y ≢ z) xs (x ∷ []) differ.0 ((λ same. apart.0 (sym same)), tt), differ_push xs x differ.1 apart.1)

-- from the last to the first
differ_reverse : (xs : List ℕ) → Differ xs → Differ (reverse xs)
differ_reverse [] differ = tt
differ_reverse (x ∷ xs) differ = subst Differ (sym (reverse-append (x ∷ []) xs)) (differ_push (reverse xs) x (differ_reverse xs differ.1) (each_reverse (λ y. x ≢ y) xs differ.0))

-- the roots as they are made primary
pub roots_differ : (c : Configuration) (f : FactsContent) → Differ (reverse (target_roots c f))
roots_differ c f = differ_reverse (target_roots c f) (differ_once (filter (has_bootname c) (map (λ job. job.root) f.jobs)))
