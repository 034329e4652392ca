-- Answers in order.
use Rattle.std.proofs.Common.{◌≡◌, Bool, Option, Some, None, Result, Ok, Err, IsTrue, sym, ◌∙◌, ap, subst}
use Rattle.machine.specs.declared.stops.Fault.{Fault}
use Rattle.machine.specs.Frames.{Unchanged}
use Rattle.machine.specs.Past.{Fails, Past}
use Rattle.machine.specs.Stops.{stop_fault}
use Rattle.machine.specs.declared.stops.Stop.{Stop}
use Rattle.machine.specs.declared.stops.Stop.TheVariants.{Refused, Outside, NoMemory}
use Rattle.machine.proofs.Failing.{fails_join, fails_none}
use Rattle.machine.proofs.Joins.{unchanged_join, unchanged_none}
use Rattle.install_facts.specs.Answers.{Looked, Tells, TellsIf}

-- the same answer by an equal meaning
pub tells_as : {T P R : Type 0} (plain : T → P) (p q : Result P R) (result : Result T (Stop R)) → p ≡ q → Tells plain p result → Tells plain q result
tells_as plain p q (Ok x) e h = sym e ∙ h
tells_as plain p q (Err (Refused why)) e h = sym e ∙ h
tells_as plain p q (Err (Outside kind)) e h = tt
tells_as plain p q (Err NoMemory) e h = tt

pub tells_if_as : {T P R : Type 0} (plain : T → P) (p q : Option (Result P R)) (result : Result T (Stop R)) → p ≡ q → TellsIf plain p result → TellsIf plain q result
tells_if_as plain p q (Ok x) e h = sym e ∙ h
tells_if_as plain p q (Err (Refused why)) e h = sym e ∙ h
tells_if_as plain p q (Err (Outside kind)) e h = tt
tells_if_as plain p q (Err NoMemory) e h = tt

-- an answer that needs nothing more
pub told_now : {T P R : Type 0} (plain : T → P) (p : Result P R) (result : Result T (Stop R)) → Tells plain p result → TellsIf plain (Some p) result
told_now plain p (Ok x) h = ap Some h
told_now plain p (Err (Refused why)) h = ap Some h
told_now plain p (Err (Outside kind)) h = tt
told_now plain p (Err NoMemory) h = tt

-- nothing was changed, and then the rest
pub looked_after : {T R : Type 0} (t : Bool) (P Q : Result T (Stop R) → Type 0) (a b c : Past) (result : Result T (Stop R)) → Unchanged t a b → Fails t a b None → (IsTrue t → P result → Q result) → Looked t P b c result → Looked t Q a c result
looked_after t P Q a b c result unchanged fine turns rest = record {
  unchanged = unchanged_join t a b c unchanged rest.unchanged;
  answers = λ told. turns told (rest.answers told);
  fails = fails_join t a b c (stop_fault result) fine rest.fails;
}

-- nothing was done
pub looked_none : {T R : Type 0} (t : Bool) (P : Result T (Stop R) → Type 0) (a : Past) (result : Result T (Stop R)) → stop_fault result ≡ None → (IsTrue t → P result) → Looked t P a a result
looked_none t P a result none answers = record {
  unchanged = unchanged_none t a;
  answers = answers;
  fails = subst (λ (f : Option Fault). Fails t a a f) (sym none) (fails_none t a);
}
