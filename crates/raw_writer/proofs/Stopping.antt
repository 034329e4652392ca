-- What a stop says of the call that failed.
use Rattle.std.proofs.Common.{◌≡◌, Err, refl}
use Rattle.machine.specs.declared.stops.Fault.{Fault}
use Rattle.machine.specs.declared.calls.CallStop.{CallStop}
use Rattle.machine.specs.declared.calls.CallStop.TheVariants.{Failed, NoMemory}
use Rattle.machine.specs.Calls.{call_fault}
use Rattle.raw_writer.specs.Whole.{whole_stop, whole_fault}

pub whole_stop_fault : (S T : Type 0) (stop : CallStop) (kind : Fault) → whole_fault {T = T} (Err (whole_stop stop kind)) ≡ call_fault {T = S} kind (Err stop)
whole_stop_fault S T Failed kind = refl
whole_stop_fault S T NoMemory kind = refl
