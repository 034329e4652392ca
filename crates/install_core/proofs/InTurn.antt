-- Steps that can be done at the start can be done one after another, where none is noted twice.
use Rattle.std.proofs.Common.{◌≡◌, ◌≢◌, ◌<◌, ℕ, ℤ, List, [], ◌∷◌, length, Option, Some, None, refl, sym, ap, ◌∙◌, subst}
use Rattle.slot_status.specs.Refusals.{is_at_end, refusal_of}
use Rattle.system_conf.specs.Configuration.{Configuration}
use Rattle.install_facts.specs.Facts.{FactsContent}
use Rattle.install_plan.specs.declared.step.Step.{Step}
use Rattle.install_plan.specs.declared.step.Step.TheVariants as step
use Rattle.install_steps.specs.Doing.{CanDo}
use Rattle.install_steps.specs.Noting.{CanFinish}
use Rattle.install_steps.specs.Progress.{CanDoAll, facts_after}
use Rattle.install_steps.specs.Steps.{changed, slot_at}
use Rattle.install_core.proofs.Counts.{LeavesActivations, LeavesInstalls, activations_after, installs_after, length_after}
use Rattle.install_plan.proofs.Each.{Each, each_both}

-- the two do not note the same
abbrev pub Clear : Step → Step → Type 0
Clear (step.Done job) (step.Done other) = job ≢ other
Clear (step.Activated root) (step.Activated other) = root ≢ other
Clear s t = Unit {0}

-- no two of these steps do
abbrev pub Once : List Step → Type 0
Once [] = Unit {0}
Once (s ∷ steps) = Each (Clear s) steps × Once steps

-- jobs have slots of their own
abbrev pub OwnSlots : FactsContent → Type 0
OwnSlots f = (j k slot : ℕ) → slot_at f j ≡ Some slot → slot_at f k ≡ Some slot → j ≡ k

module _ (c : Configuration) (f : FactsContent) (own : OwnSlots f) where
  -- a step leaves the count of another's slot
  leaves_installs : (s : Step) (job slot : ℕ) → Clear s (step.Done job) → slot_at f job ≡ Some slot → LeavesInstalls f slot s
  leaves_installs (step.Run child caller) job slot clear is = tt
  leaves_installs (step.Bad root) job slot clear is = tt
  leaves_installs (step.Begin at) job slot clear is = tt
  leaves_installs (step.Put at put) job slot clear is = tt
  leaves_installs (step.Settle at) job slot clear is = tt
  leaves_installs (step.Index at) job slot clear is = tt
  leaves_installs (step.Done at) job slot clear is = λ same. clear (own at job slot same is)
  leaves_installs (step.Primary root) job slot clear is = tt
  leaves_installs (step.Activated root) job slot clear is = tt

  -- and that of another's root
  leaves_activations : (s : Step) (root : ℕ) → Clear s (step.Activated root) → LeavesActivations f root s
  leaves_activations (step.Run child caller) root clear = tt
  leaves_activations (step.Bad other) root clear = tt
  leaves_activations (step.Begin at) root clear = tt
  leaves_activations (step.Put at put) root clear = tt
  leaves_activations (step.Settle at) root clear = tt
  leaves_activations (step.Index at) root clear = tt
  leaves_activations (step.Done at) root clear = tt
  leaves_activations (step.Primary other) root clear = tt
  leaves_activations (step.Activated other) root clear = λ same. clear (sym same)

  module _ (s : Step) where
    all_after : length f.book ≡ length c.slots → length (changed f s f.book) ≡ length c.slots
    all_after all = length_after f s f.book ∙ all

    within_after : (slot : ℕ) → slot < length f.book → slot < length (changed f s f.book)
    within_after slot within = subst (λ (n : ℕ). slot < n) (sym (length_after f s f.book)) within

    finish_after : (job : ℕ) (seconds : ℤ) → Clear s (step.Done job) → CanFinish f.book (slot_at f job) seconds → CanFinish (changed f s f.book) (slot_at f job) seconds
    finish_after job seconds clear can = go (slot_at f job) refl can
      where
        go : (o : Option ℕ) → slot_at f job ≡ o → CanFinish f.book o seconds → CanFinish (changed f s f.book) o seconds
        go None e can = can
        go (Some slot) e can = (within_after slot can.0, ap (λ (n : ℕ). refusal_of slot seconds (is_at_end n)) (installs_after f slot s f.book (leaves_installs s job slot clear e)) ∙ can.1)

    -- what could be done before a step can be done after it, where that notes something else
    still : (t : Step) → Clear s t → CanDo c f t → CanDo c (facts_after f s) t
    still (step.Run child caller) clear can = can
    still (step.Bad root) clear can = can
    still (step.Begin slot) clear can = record { all = all_after can.all; can = λ seconds now. within_after slot (can.can seconds now) }
    still (step.Put job put) clear can = can
    still (step.Settle slot) clear can = can
    still (step.Index job) clear can = can
    still (step.Done job) clear can = record { all = all_after can.all; can = λ seconds now. finish_after job seconds clear (can.can seconds now) }
    still (step.Primary root) clear can = can
    still (step.Activated root) clear can = record {
      all = all_after can.all;
      can = λ seconds now. (
        within_after root (can.can seconds now).0,
        ap (λ (n : ℕ). refusal_of root seconds (is_at_end n)) (activations_after f root s f.book (leaves_activations s root clear)) ∙ (can.can seconds now).1,
      );
    }

-- so all of them can be done
pub in_turn : (c : Configuration) (f : FactsContent) → OwnSlots f → (steps : List Step) → Each (CanDo c f) steps → Once steps → CanDoAll c f steps
in_turn c f own [] can once = tt
in_turn c f own (s ∷ steps) can once = (
  can.0,
  in_turn c (facts_after f s) own steps (each_both (CanDo c f) (Clear s) (CanDo c (facts_after f s)) (λ t can clear. still c f own s t clear can) steps can.1 once.0) once.1,
)
