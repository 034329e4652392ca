use Rattle.std.proofs.Common.{IsTrue, ◌≤◌, None, Ok, take}
use Rattle.std.specs.FinMap as fin
use Rattle.machine.specs.Past.{Fails}
use Rattle.boot_backends.specs.Ends.{Finishes}
use Rattle.boot_backends.proofs.runs.run_commands.Given as goal

abbrev pub invariant-loop-command : goal.invariant-loop-command
invariant-loop-command g l = record {
  faults : g.M.Machine.faults l.fn.m ≤ g.M.Machine.faults l.m;
  wants : g.M.Machine.wants l.fn.m ≤ g.M.Machine.wants l.m;
  fails : Fails g.M.Machine.tells (g.M.Machine.past l.fn.m) (g.M.Machine.past l.m) None;
  told : IsTrue g.M.Machine.tells → Finishes (take l.command-index l.commands) fin.empty (g.M.Machine.past l.fn.m) (g.M.Machine.past l.m) (Ok l.read);
}
