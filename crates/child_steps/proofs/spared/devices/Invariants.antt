use Rattle.std.proofs.Common.{◌≡◌, map, take}
use Rattle.child_steps.proofs.spared.devices.Given as goal

abbrev pub invariant-loop-slot : goal.invariant-loop-slot
invariant-loop-slot l = l.found ≡ map (λ s. s.device) (take l.slot-index l.slots)
