use Rattle.std.proofs.Common.{◌≡◌, length}
use Rattle.system_conf.specs.Slots.{climb}
use Rattle.system_conf.proofs.roots.chain_end.Given as goal

abbrev pub invariant-loop-left : goal.invariant-loop-left
invariant-loop-left l = climb l.slots l.left l.at ≡ climb l.slots (length l.slots) l.fn.slot

abbrev pub decreases-loop-left : goal.decreases-loop-left
decreases-loop-left l = l.left
