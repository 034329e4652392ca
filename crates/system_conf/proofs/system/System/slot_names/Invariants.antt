use Rattle.std.proofs.Common.{◌≡◌, map, take}
use Rattle.system_conf.proofs.system.System.slot_names.Given as goal

abbrev pub invariant-loop-slot : goal.invariant-loop-slot
invariant-loop-slot l = l.names.items ≡ map (λ s. s.name) (take l.slot-index l.slot-items)
