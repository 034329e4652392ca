-- A call of the machine that failed, in words.
use Rattle.std.specs.Prelude.{ℕ, List, ◌++◌, codes}
use Rattle.machine.specs.declared.stops.Fault.{Fault}
use Rattle.machine.specs.declared.stops.Fault.TheVariants as fault

-- what the call was for
abbrev pub fault_word : Fault → List ℕ
fault_word fault.Read = codes "read"
fault_word fault.Write = codes "write"
fault_word fault.Sync = codes "sync"
fault_word fault.Size = codes "size"
fault_word fault.Replace = codes "replace"
fault_word fault.Run = codes "run"
fault_word fault.Clock = codes "clock"

-- that it failed
abbrev pub fault_cause : Fault → List ℕ
fault_cause kind = codes "outside fault: " ++ fault_word kind
