use Rattle.std.proofs.Common.{length, ◌-◌, ◌≤◌, ◌≡◌, None}
use Rattle.machine.specs.Past.{Fails}
use Rattle.machine.proofs.Reading.{Filled}
use Rattle.machine.proofs.reads.fill.Given as goal

abbrev pub invariant-loop-done : goal.invariant-loop-done
invariant-loop-done g l =
    let past = g.M.Machine.past in
    record {
      within : l.done ≤ length l.into;
      as_long : length l.into ≡ length l.initial.into;
      faults : g.M.Machine.faults l.fn.m ≤ g.M.Machine.faults l.m;
      wants : g.M.Machine.wants l.fn.m ≤ g.M.Machine.wants l.m;
      fails : Fails g.M.Machine.tells (past l.fn.m) (past l.m) None;
      filled : Filled g.M.Machine.tells (past l.fn.m) (past l.m) l.path l.at l.done l.initial.into l.into;
    }

-- proposed from the loop's first test
abbrev pub decreases-loop-done : goal.decreases-loop-done
decreases-loop-done g l = length l.initial.into - l.done
