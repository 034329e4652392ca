-- Acts of which one at most notes something: that their job is done.
use Rattle.std.proofs.Common.{◌≡◌, ◌⊎◌, inl, inr, ℕ, List, [], ◌∷◌, ◌++◌, refl, sym, ap, ◌∙◌, subst, arith, append_assoc}
use Rattle.install_facts.specs.declared.report.Note.{Note}
use Rattle.install_plan.specs.declared.step.Act.{Act}
use Rattle.install_plan.specs.declared.step.Act.TheVariants.{Do, Tell}
use Rattle.install_plan.specs.declared.step.Step.TheVariants as step
use Rattle.install_plan.proofs.Each.{Each, OfStep, each_append, each_weaker}
use Rattle.install_core.proofs.InTurn.{Clear}
use Rattle.install_core.proofs.QuietSteps.{Later, Notes, OnceActs, Quiet, no_job_later, once_quiet, quiet_no_job, quiet_notes}

-- acts of which one notes that this job is done
pub record Splits (at : ℕ) (acts : List Act) : Type 0 where
  pub front : List Act
  pub back : List Act
  pub is : acts ≡ front ++ Do (step.Done at) ∷ back
  pub quiet_front : Each (OfStep Quiet) front
  pub quiet_back : Each (OfStep Quiet) back

-- quiet acts before them
pub before : (at : ℕ) (quiet acts : List Act) → Each (OfStep Quiet) quiet → Splits at acts → Splits at (quiet ++ acts)
before at quiet acts are splits = record {
  front = quiet ++ splits.front;
  back = splits.back;
  is = ap (λ (xs : List Act). quiet ++ xs) splits.is ∙ sym (append_assoc quiet splits.front (Do (step.Done at) ∷ splits.back));
  quiet_front = each_append (OfStep Quiet) quiet splits.front are splits.quiet_front;
  quiet_back = splits.quiet_back;
}

-- a note behind them
pub behind : (at : ℕ) (acts : List Act) (n : Note) → Splits at acts → Splits at (acts ++ Tell n ∷ [])
behind at acts n splits = record {
  front = splits.front;
  back = splits.back ++ Tell n ∷ [];
  is = ap (λ (xs : List Act). xs ++ Tell n ∷ []) splits.is ∙ append_assoc splits.front (Do (step.Done at) ∷ splits.back) (Tell n ∷ []);
  quiet_front = splits.quiet_front;
  quiet_back = each_append (OfStep Quiet) splits.back (Tell n ∷ []) splits.quiet_back (tt, tt);
}

-- that note no job but this one, which they note once
abbrev pub OfJob : ℕ → List Act → Type 0
OfJob at acts = Each (OfStep Quiet) acts ⊎ Splits at acts

-- each of them notes no other
pub job_notes : (at : ℕ) (acts : List Act) → OfJob at acts → Each (OfStep (Notes at)) acts
job_notes at acts (inl quiet) = each_weaker (OfStep Quiet) (OfStep (Notes at)) (quiet_notes at) acts quiet
job_notes at acts (inr splits) =
    subst (Each (OfStep (Notes at))) (sym splits.is)
    (each_append (OfStep (Notes at)) splits.front (Do (step.Done at) ∷ splits.back) (each_weaker (OfStep Quiet) (OfStep (Notes at)) (quiet_notes at) splits.front splits.quiet_front)
    (refl, each_weaker (OfStep Quiet) (OfStep (Notes at)) (quiet_notes at) splits.back splits.quiet_back))

-- what notes later jobs is clear of this one
later_clear : (at : ℕ) (a : Act) → OfStep (Later at) a → OfStep (Clear (step.Done at)) a
later_clear at (Tell n) later = tt
later_clear at (Do (step.Done job)) later = λ same. omega (arith, same, later)
later_clear at (Do s) later = tt

-- and so is what notes nothing
quiet_later : (at : ℕ) (a : Act) → OfStep Quiet a → OfStep (Later at) a
quiet_later at a quiet = no_job_later at a (quiet_no_job a quiet)

-- they note nothing twice, before acts of later jobs that do not
pub once_job : (at : ℕ) (acts later : List Act) → OfJob at acts → Each (OfStep (Later at)) later → OnceActs later → OnceActs (acts ++ later)
once_job at acts later (inl quiet) are once = once_quiet acts later quiet once
once_job at acts later (inr splits) are once =
    let all = each_append (OfStep (Later at)) splits.back later (each_weaker (OfStep Quiet) (OfStep (Later at)) (quiet_later at) splits.back splits.quiet_back) are in
    let clear = each_weaker (OfStep (Later at)) (OfStep (Clear (step.Done at))) (later_clear at) (splits.back ++ later) all in
    subst OnceActs (sym (ap (λ (xs : List Act). xs ++ later) splits.is ∙ append_assoc splits.front (Do (step.Done at) ∷ splits.back) later))
    (once_quiet splits.front (Do (step.Done at) ∷ (splits.back ++ later)) splits.quiet_front (clear, once_quiet splits.back later splits.quiet_back once))
