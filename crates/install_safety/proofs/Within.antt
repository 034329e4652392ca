-- An install is somewhere within its list of steps, and what holds of each step holds of all.
use Rattle.std.proofs.Common.{◌≡◌, ◌⊎◌, inl, inr, ⊎_elim, Bool, List, [], ◌∷◌, ◌++◌, Result, Ok, Err, IsTrue, refl, sym, ◌∙◌, ap, subst}
use Rattle.std.specs.Prelude.{⊤}
use Rattle.boot_model.specs.declared.boot_kind.BootKind.{BootKind}
use Rattle.machine.specs.declared.stops.Stop.{Stop}
use Rattle.machine.specs.declared.world.World.{World}
use Rattle.machine.specs.Past.{Always, Past, world_now}
use Rattle.machine.proofs.Moments.{always_joins, always_now, always_start, always_weaker}
use Rattle.slot_status.specs.Records.{RecordContent}
use Rattle.system_conf.specs.Configuration.{Configuration}
use Rattle.install_facts.specs.Facts.{FactsContent}
use Rattle.install_facts.specs.declared.refusal.InstallRefusal.{InstallRefusal}
use Rattle.install_plan.specs.Acts.{steps_in}
use Rattle.install_plan.specs.declared.step.Act.{Act}
use Rattle.install_plan.specs.declared.step.Act.TheVariants.{Do}
use Rattle.install_plan.specs.declared.step.Step.{Step}
use Rattle.install_plan.proofs.Each.{Each}
use Rattle.install_plan.proofs.Shape.{steps_more}
use Rattle.install_steps.specs.Progress.{ComesTo, Progress}
use Rattle.install_steps.specs.Steps.{Begun, Part, Run, book_after, changed}
use Rattle.install_safety.specs.Lists.{Within}

module _ (c : Configuration) (f : FactsContent) where
  -- all of them are done
  pub run_within : (book : List RecordContent) (steps : List Step) (a z : Past) → Run c f book steps a z → Within c f book steps a z
  run_within book [] a z ran = ran
  run_within book (s ∷ steps) a z ran = inr (ran.0, ran.1, run_within (changed f s book) steps ran.0 z ran.2)

  -- the first of them are done, and one more was begun
  pub begun_within : (book : List RecordContent) (steps more : List Step) (s : Step) (a b z : Past) → Run c f book steps a b → Begun c f (book_after f steps book) s b z → Within c f book (steps ++ s ∷ more) a z
  begun_within book [] more s a b z ran begun = inl (subst (λ (p : Past). Begun c f book s p z) ran begun)
  begun_within book (t ∷ steps) more s a b z ran begun = inr (ran.0, ran.1, begun_within (changed f t book) steps more s ran.0 b z ran.2 begun)

  -- within a list that is joined of two: within the first, or within the second after the first
  pub within_splits : (book : List RecordContent) (first second : List Step) (a z : Past) → Within c f book (first ++ second) a z
      → Within c f book first a z ⊎ ((b : Past) × Run c f book first a b × Within c f (book_after f first book) second b z)
  within_splits book [] second a z within = inr (a, refl, within)
  within_splits book (s ∷ first) second a z (inl begun) = inl (inl begun)
  within_splits book (s ∷ first) second a z (inr h) =
      ⊎_elim (λ w. inl (inr (h.0, h.1, w))) (λ r. inr (r.0, (h.0, h.1, r.1), r.2)) (within_splits (changed f s book) first second h.0 z h.2)

  -- a run of a list that is joined of two
  pub run_splits : (book : List RecordContent) (first second : List Step) (a z : Past) → Run c f book (first ++ second) a z
      → (b : Past) × Run c f book first a b × Run c f (book_after f first book) second b z
  run_splits book [] second a z ran = (a, refl, ran)
  run_splits book (s ∷ first) second a z ran =
      let rest = run_splits (changed f s book) first second ran.0 z ran.2 in
      (rest.0, (ran.0, ran.1, rest.1), rest.2)

  -- the past goes on
  pub within_grows : (book : List RecordContent) (steps : List Step) (a z : Past) → Within c f book steps a z → Always a z (λ u. Unit {0})
  within_grows book [] a z same = subst (λ (q : Past). Always a q (λ u. Unit {0})) (sym same) (always_start a (λ u. Unit {0}) tt)
  within_grows book (s ∷ steps) a z (inl begun) = always_weaker a z (Part a.boot c f book s (world_now a)) (λ u. Unit {0}) (λ u p. tt) begun.part
  within_grows book (s ∷ steps) a z (inr h) =
      always_joins a h.0 z (λ u. Unit {0}) (always_weaker a h.0 (Part a.boot c f book s (world_now a)) (λ u. Unit {0}) (λ u p. tt) h.1.begun.part)
      (within_grows (changed f s book) steps h.0 z h.2)

  -- a relation that is kept by each step that is so, and that joins, is kept by all
  module _ (R : World → World → Type 0) (none : (w : World) → R w w) (joins : (u v w : World) → R u v → R v w → R u w) (Is : Step → Type 0)
      (step : (boot : BootKind) (book : List RecordContent) (s : Step) (w u : World) → Is s → Part boot c f book s w u → R w u) where
    pub within_keeps : (book : List RecordContent) (steps : List Step) → Each Is steps → (a z : Past) → Within c f book steps a z → Always a z (R (world_now a))
    within_keeps book [] are a z same = subst (λ (q : Past). Always a q (R (world_now a))) (sym same) (always_start a (R (world_now a)) (none (world_now a)))
    within_keeps book (s ∷ steps) are a z (inl begun) =
        always_weaker a z (Part a.boot c f book s (world_now a)) (R (world_now a)) (λ u p. step a.boot book s (world_now a) u are.0 p) begun.part
    within_keeps book (s ∷ steps) are a z (inr h) =
        let first = always_weaker a h.0 (Part a.boot c f book s (world_now a)) (R (world_now a)) (λ u p. step a.boot book s (world_now a) u are.0 p) h.1.begun.part in
        let here = always_now a h.0 (R (world_now a)) first in
        always_joins a h.0 z (R (world_now a)) first
        (always_weaker h.0 z (R (world_now h.0)) (R (world_now a)) (λ u p. joins (world_now a) (world_now h.0) u here p) (within_keeps (changed f s book) steps are.1 h.0 z h.2))

    pub run_keeps : (book : List RecordContent) (steps : List Step) → Each Is steps → (a z : Past) → Run c f book steps a z → R (world_now a) (world_now z)
    run_keeps book steps are a z ran = always_now a z (R (world_now a)) (within_keeps book steps are a z (run_within book steps a z ran))

-- ---- from how far the steps came

steps_append : (acts more : List Act) (s : Step) → steps_in (acts ++ Do s ∷ more) ≡ steps_in acts ++ s ∷ steps_in more
steps_append acts more s = steps_more acts (Do s ∷ more)

module _ (t : Bool) (c : Configuration) (f : FactsContent) (acts : List Act) (a z : Past) (told : IsTrue t) where
  comes_within : (done rest : List Act) (reached : Past) (result : Result ⊤ (Stop InstallRefusal)) → acts ≡ done ++ rest → Run c f f.book (steps_in done) a reached → ComesTo t c f done rest reached z result → Within c f f.book (steps_in acts) a z
  comes_within done rest reached (Ok x) order ran comes =
      let same = comes.1 told in
      let all : steps_in acts ≡ steps_in done = ap steps_in (order ∙ ap (λ (xs : List Act). done ++ xs) comes.0) ∙ steps_more done [] ∙ append_nil (steps_in done) in
      subst (λ (steps : List Step). Within c f f.book steps a z) (sym all) (subst (λ (p : Past). Within c f f.book (steps_in done) a p) (sym same) (run_within c f f.book (steps_in done) a reached ran))
    where
      append_nil : (xs : List Step) → xs ++ [] ≡ xs
      append_nil [] = refl
      append_nil (x ∷ xs) = ap (λ (ys : List Step). x ∷ ys) (append_nil xs)
  comes_within done rest reached (Err stop) order ran comes =
      let all : steps_in acts ≡ steps_in done ++ comes.at ∷ steps_in comes.later = ap steps_in (order ∙ ap (λ (xs : List Act). done ++ xs) comes.order) ∙ steps_append done comes.later comes.at in
      subst (λ (steps : List Step). Within c f f.book steps a z) (sym all) (begun_within c f f.book (steps_in done) (steps_in comes.later) comes.at a reached z ran (comes.begun told))

  pub progress_within : (result : Result ⊤ (Stop InstallRefusal)) → Progress t c f acts a z result → Within c f f.book (steps_in acts) a z
  progress_within result progress = comes_within progress.done progress.rest progress.reached result progress.order (progress.ran told) progress.comes_to
