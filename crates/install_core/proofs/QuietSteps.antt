-- What steps note: that a job is done, that a root is activated, or nothing.
use Rattle.std.proofs.Common.{◌≡◌, ◌<◌, ℕ, List, [], ◌∷◌, ◌++◌, sym, subst}
use Rattle.install_plan.specs.Acts.{steps_in}
use Rattle.install_plan.specs.declared.step.Act.{Act}
use Rattle.install_plan.specs.declared.step.Act.TheVariants.{Do, Tell}
use Rattle.install_plan.specs.declared.step.Step.{Step}
use Rattle.install_plan.specs.declared.step.Step.TheVariants as step
use Rattle.install_plan.proofs.Each.{Each, OfStep, each_from, each_step}
use Rattle.install_core.proofs.InTurn.{Clear, Once}

-- ---- what steps note

-- neither that a job is done nor that a root is activated
abbrev pub Quiet : Step → Type 0
Quiet (step.Done job) = ⊥
Quiet (step.Activated root) = ⊥
Quiet s = Unit {0}

-- no job but this one, and no root
abbrev pub Notes : ℕ → Step → Type 0
Notes at (step.Done job) = job ≡ at
Notes at (step.Activated root) = ⊥
Notes at s = Unit {0}

-- no job
abbrev pub NoJob : Step → Type 0
NoJob (step.Done job) = ⊥
NoJob s = Unit {0}

-- no job up to this one
abbrev pub Later : ℕ → Step → Type 0
Later at (step.Done job) = at < job
Later at s = Unit {0}

-- what follows for an act from one of these
pub quiet_notes : (at : ℕ) (a : Act) → OfStep Quiet a → OfStep (Notes at) a
quiet_notes at (Tell n) quiet = tt
quiet_notes at (Do (step.Done job)) quiet = absurd quiet
quiet_notes at (Do (step.Activated root)) quiet = absurd quiet
quiet_notes at (Do s) quiet = tt

pub quiet_no_job : (a : Act) → OfStep Quiet a → OfStep NoJob a
quiet_no_job (Tell n) quiet = tt
quiet_no_job (Do (step.Done job)) quiet = absurd quiet
quiet_no_job (Do s) quiet = tt

pub no_job_later : (at : ℕ) (a : Act) → OfStep NoJob a → OfStep (Later at) a
no_job_later at (Tell n) none = tt
no_job_later at (Do (step.Done job)) none = absurd none
no_job_later at (Do s) none = tt

-- a later job
pub notes_later : (at job : ℕ) → at < job → (a : Act) → OfStep (Notes job) a → OfStep (Later at) a
notes_later at job before (Tell n) notes = tt
notes_later at job before (Do (step.Done other)) notes = subst (λ (n : ℕ). at < n) (sym notes) before
notes_later at job before (Do s) notes = tt

-- ---- acts that note nothing twice

-- each step is clear of those after it
abbrev pub OnceActs : List Act → Type 0
OnceActs [] = Unit {0}
OnceActs (Do s ∷ acts) = Each (OfStep (Clear s)) acts × OnceActs acts
OnceActs (Tell n ∷ acts) = OnceActs acts

-- so is each among the steps
pub once_steps : (acts : List Act) → OnceActs acts → Once (steps_in acts)
once_steps [] once = tt
once_steps (Do s ∷ acts) once = (each_step (Clear s) acts once.0, once_steps acts once.1)
once_steps (Tell n ∷ acts) once = once_steps acts once

-- what notes nothing is clear of all
quiet_clear : (s : Step) → Quiet s → (a : Act) → OfStep (Clear s) a
quiet_clear (step.Done job) quiet a = absurd quiet
quiet_clear (step.Activated root) quiet a = absurd quiet
quiet_clear s quiet (Tell n) = tt
quiet_clear s quiet (Do t) = tt

-- acts that note nothing may stand before any
pub once_quiet : (acts later : List Act) → Each (OfStep Quiet) acts → OnceActs later → OnceActs (acts ++ later)
once_quiet [] later quiet once = once
once_quiet (Do s ∷ acts) later quiet once = (each_from (OfStep (Clear s)) (acts ++ later) (λ j a is. quiet_clear s quiet.0 a), once_quiet acts later quiet.1 once)
once_quiet (Tell n ∷ acts) later quiet once = once_quiet acts later quiet.1 once
