use Rattle.std.proofs.Common.{◌≡◌, ◌++◌, drop, map}
use Rattle.status_report.specs.Views.{is_good}
use Rattle.status_report.proofs.view.are_good.Given as goal

abbrev pub invariant-loop-slot : goal.invariant-loop-slot
invariant-loop-slot l =
    l.good ++ map (is_good l.system.boot l.vars l.system.slots) (drop l.slot-index l.slot-items) ≡ map (is_good l.system.boot l.vars l.system.slots) l.slot-items
