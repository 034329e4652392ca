-- What can be noted in the book at the time that was asked.
use Rattle.std.proofs.Common.{◌≡◌, ◌<◌, ℕ, ℤ, length, Some, None, sym, subst}
use Rattle.slot_status.specs.Refusals.{activate_refusal}
use Rattle.install_facts.specs.Facts.{FactsContent}
use Rattle.install_plan.specs.declared.step.Step.{Step}
use Rattle.install_plan.specs.declared.step.Step.TheVariants as step
use Rattle.install_steps.specs.Noting.{CanFinish, CanNote, CanNoteAt}
use Rattle.install_steps.specs.Steps.{slot_at}

module _ (f : FactsContent) (s : Step) (seconds : ℤ) (can : CanNote f s) (now : f.now ≡ Some seconds) where
  can_then : (x : Step) → s ≡ x → CanNoteAt f x seconds
  can_then x is = subst (λ (y : Step). CanNoteAt f y seconds) is (can seconds now)

  pub can_begin : (slot : ℕ) → s ≡ step.Begin slot → slot < length f.book
  can_begin slot is = can_then (step.Begin slot) is

  pub can_finish : (job : ℕ) (at : ℤ) → s ≡ step.Done job → at ≡ seconds → CanFinish f.book (slot_at f job) at
  can_finish job at is same = subst (λ (z : ℤ). CanFinish f.book (slot_at f job) z) (sym same) (can_then (step.Done job) is)

  pub can_activate : (root : ℕ) (at : ℤ) → s ≡ step.Activated root → at ≡ seconds → (root < length f.book) × (activate_refusal f.book root at ≡ None)
  can_activate root at is same = subst (λ (z : ℤ). (root < length f.book) × (activate_refusal f.book root z ≡ None)) (sym same) (can_then (step.Activated root) is)
