-- The roots that an install marks are those over the slots of its jobs that have bootnames.
use Rattle.std.proofs.Common.{◌≡◌, ◌≢◌, ⊎_elim, ◌==◌, eqb, not, ℕ, zero, suc, Bool, true, false, cond, List, [], ◌∷◌, filter, map, slice_get, is_some, Option, Some, None, sym, ◌∙◌, ap, subst}
use Rattle.std.specs.Prelude.{option_and_then, option_map, unwrap_or}
use Rattle.std.specs.Option.{option_map_or}
use Rattle.std.proofs.lemmas.Bool.Decides.{eqb_tells}
use Rattle.std.proofs.lemmas.Option.{slice_get-map}
use Rattle.keyfile.specs.Groups.{Text}
use Rattle.slot_graph.specs.declared.job.Job.{Job}
use Rattle.system_conf.specs.Configuration.{Configuration}
use Rattle.system_conf.specs.declared.slot.Slot.{Slot}
use Rattle.install_facts.specs.Facts.{FactsContent}
use Rattle.install_plan.specs.Acts.{each_once, has_bootname, target_roots}
use Rattle.install_steps.specs.Steps.{bootname_of}
use Rattle.install_safety.specs.Safe.{HasBootname}

-- it stands at some place
abbrev pub StandsIn : ℕ → List ℕ → Type 0
StandsIn x xs = (j : ℕ) × (slice_get xs j ≡ Some x)

in_more : (x y : ℕ) (xs : List ℕ) → StandsIn x xs → StandsIn x (y ∷ xs)
in_more x y xs at = (suc at.0, at.1)

in_filter : (test : ℕ → Bool) (x : ℕ) (xs : List ℕ) → test x ≡ true → StandsIn x xs → StandsIn x (filter test xs)
in_filter test x [] passes at = absurd (cc)
in_filter test x (y ∷ xs) passes (zero, is) =
    let same : y ≡ x = cc in
    subst (λ (b : Bool). StandsIn x (cond b (y ∷ filter test xs) (filter test xs))) (sym (ap test same ∙ passes)) (zero, is)
in_filter test x (y ∷ xs) passes (suc j, is) = go (test y) (in_filter test x xs passes (j, is))
  where
    go : (b : Bool) → StandsIn x (filter test xs) → StandsIn x (cond b (y ∷ filter test xs) (filter test xs))
    go true at = in_more x y (filter test xs) at
    go false at = at

in_once_more : (x y : ℕ) (xs : List ℕ) → StandsIn x (each_once xs) → StandsIn x (each_once (y ∷ xs))
in_once_more x y xs later = ⊎_elim same other (eqb_tells x y)
  where
    same : (eqb x y ≡ true) × (x ≡ y) → StandsIn x (each_once (y ∷ xs))
    same h = (zero, ap (λ (n : ℕ). Some n) (sym h.1))

    other : (eqb x y ≡ false) × (x ≢ y) → StandsIn x (each_once (y ∷ xs))
    other h = in_more x y (filter (λ z. not (z == y)) (each_once xs)) (in_filter (λ z. not (z == y)) x (each_once xs) (ap not h.0) later)

in_once : (x : ℕ) (xs : List ℕ) → StandsIn x xs → StandsIn x (each_once xs)
in_once x [] at = absurd (cc)
in_once x (y ∷ xs) (zero, is) = (zero, is)
in_once x (y ∷ xs) (suc j, is) = in_once_more x y xs (in_once x xs (j, is))

-- a slot with a bootname has one
pub named : (c : Configuration) (root : ℕ) (name : Text) → HasBootname c root name → has_bootname c root ≡ true
named c root name has = go (slice_get c.slots root) has
  where
    go : (o : Option Slot) → option_and_then (λ s. s.bootname) o ≡ Some name → option_map_or (λ s. is_some s.bootname) o false ≡ true
    go None e = absurd (cc)
    go (Some s) e = ap is_some e

pub name_is : (c : Configuration) (root : ℕ) (name : Text) → HasBootname c root name → name ≡ bootname_of c root
name_is c root name has = ap (λ (o : Option Text). unwrap_or o []) (sym has)

-- the root over a job's slot is marked, where it has a bootname
pub target_there : (c : Configuration) (f : FactsContent) (at : ℕ) (job : Job) (name : Text) → slice_get f.jobs at ≡ Some job → HasBootname c job.root name → StandsIn job.root (target_roots c f)
target_there c f at job name there has =
    in_once job.root (filter (has_bootname c) (map (λ job. job.root) f.jobs))
    (in_filter (has_bootname c) job.root (map (λ job. job.root) f.jobs) (named c job.root name has)
    (at, slice_get-map (λ (j : Job). j.root) f.jobs at ∙ ap (option_map (λ (j : Job). j.root)) there))
