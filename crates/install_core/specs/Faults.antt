-- Which call of an install failed.
use Rattle.std.specs.Prelude.{◌≡◌, ℕ, Bool, true, false, IsTrue, List, Option, Some, None, Ok, Err, if◌then◌else◌}
use Rattle.updater_text.specs.Counts.{CountRose}
use Rattle.machine.specs.declared.stops.Fault.{Fault}
use Rattle.machine.specs.declared.stops.Stop.TheVariants.{Refused, Outside, NoMemory}
use Rattle.machine.specs.Past.{Moment, Past, but_last, first_failed, moments_since}
use Rattle.child_steps.specs.declared.close.Closing.{Closing}
use Rattle.child_steps.specs.declared.close.Closing.TheVariants as closing
use Rattle.install_core.specs.Course.{Answer}
use Rattle.install_core.specs.declared.ending.InstallEnd.{InstallEnd}

-- the call was made that runs the unmount
abbrev pub is_called : Closing → Bool
is_called closing.NotMounted = false
is_called closing.Unmounted = true
is_called (closing.Ended ended) = true
is_called closing.Failed = true
is_called closing.NoMemory = false

-- the calls since, but for that one, which is the last
abbrev pub before_unmount : Closing → Past → Past → List Moment
before_unmount closed old new = if is_called closed then but_last (moments_since old new) else moments_since old new

-- the answer tells this fault, or that there was none, unless memory was out
abbrev pub TellsFault : Option Fault → Answer → Type 0
TellsFault fault (Ok installed) = fault ≡ None
TellsFault fault (Err (Refused why)) = fault ≡ None
TellsFault fault (Err (Outside kind)) = fault ≡ Some kind
TellsFault fault (Err NoMemory) = Unit {0}

-- where told: the answer tells the first call that failed, but for the unmount's
pub record FaultTold (tells : Bool) (old new : Past) (end : InstallEnd) : Type 0 where
  pub first : IsTrue tells → TellsFault (first_failed (before_unmount end.closing old new)) end.result

-- the counts that rose where the unmount failed, or had no memory
pub record UnmountCounted (faults faults' wants wants' : ℕ) (closed : Closing) : Type 0 where
  pub failed : closed ≡ closing.Failed → CountRose faults faults'
  pub wanted : closed ≡ closing.NoMemory → CountRose wants wants'
