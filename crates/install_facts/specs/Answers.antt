-- What calls answer that look about before an install.
use Rattle.std.specs.Prelude.{◌≡◌, Bool, IsTrue, Option, Some, Result, Ok, Err}
use Rattle.machine.specs.Frames.{Unchanged}
use Rattle.machine.specs.Past.{Fails, Past}
use Rattle.machine.specs.Stops.{stop_fault}
use Rattle.machine.specs.declared.stops.Stop.{Stop}
use Rattle.machine.specs.declared.stops.Stop.TheVariants.{Refused, Outside, NoMemory}

-- the answer, in plain terms, is this one, unless a call failed or it was out of memory
abbrev pub Tells : {T P R : Type 0} → (T → P) → Result P R → Result T (Stop R) → Type 0
Tells plain expected (Ok x) = expected ≡ Ok (plain x)
Tells plain expected (Err (Refused why)) = expected ≡ Err why
Tells plain expected (Err (Outside kind)) = Unit {0}
Tells plain expected (Err NoMemory) = Unit {0}

-- the same where an answer may need what is not there yet: then there is none
abbrev pub TellsIf : {T P R : Type 0} → (T → P) → Option (Result P R) → Result T (Stop R) → Type 0
TellsIf plain expected (Ok x) = expected ≡ Some (Ok (plain x))
TellsIf plain expected (Err (Refused why)) = expected ≡ Some (Err why)
TellsIf plain expected (Err (Outside kind)) = Unit {0}
TellsIf plain expected (Err NoMemory) = Unit {0}

-- where told: nothing was changed, the answer is such a one, and no call failed, or the one that is told
pub record Looked {T R : Type 0} (tells : Bool) (Told : Result T (Stop R) → Type 0) (old new : Past) (result : Result T (Stop R)) : Type 0 where
  pub unchanged : Unchanged tells old new
  pub answers : IsTrue tells → Told result
  pub fails : Fails tells old new (stop_fault result)
