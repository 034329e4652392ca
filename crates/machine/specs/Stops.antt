-- What a call over a machine answers, and why it stops.
use Rattle.std.specs.Prelude.{◌≡◌, ◌≤◌, ℕ, Option, Some, None, Result, Ok, Err}
use Rattle.updater_text.specs.Counts.{CountRose}
use Rattle.machine.specs.declared.stops.Fault.{Fault}
use Rattle.machine.specs.declared.stops.Stop.{Stop}
use Rattle.machine.specs.declared.stops.Stop.TheVariants.{Refused, Outside, NoMemory}

-- the answer is this one, unless a call failed or it was out of memory
abbrev pub Settles : {T R : Type 0} → Result T (Stop R) → Result T R → Type 0
Settles (Ok x) expected = expected ≡ Ok x
Settles (Err (Refused r)) expected = expected ≡ Err r
Settles (Err (Outside kind)) expected = Unit {0}
Settles (Err NoMemory) expected = Unit {0}

-- the kind of the call that failed
abbrev pub stop_fault : {T R : Type 0} → Result T (Stop R) → Option Fault
stop_fault (Ok x) = None
stop_fault (Err (Refused r)) = None
stop_fault (Err (Outside kind)) = Some kind
stop_fault (Err NoMemory) = None

-- counts never fall, and a fault of the outside is answered only where that of faults rose
abbrev pub StopCounted : {T R : Type 0} → ℕ → ℕ → ℕ → ℕ → Result T (Stop R) → Type 0
StopCounted faults faults' wants wants' (Ok x) = (faults ≤ faults') × (wants ≤ wants')
StopCounted faults faults' wants wants' (Err (Refused r)) = (faults ≤ faults') × (wants ≤ wants')
StopCounted faults faults' wants wants' (Err (Outside kind)) = CountRose faults faults' × (wants ≤ wants')
StopCounted faults faults' wants wants' (Err NoMemory) = (faults ≤ faults') × (wants ≤ wants')
