use Rattle.std.proofs.Common.{◌≤◌, take}
use Rattle.system_conf.specs.Reads.{system_configuration}
use Rattle.install_facts.specs.Facts.{facts_content}
use Rattle.install_plan.specs.Acts.{steps_in}
use Rattle.install_steps.proofs.ActsDone.{SoFar}
use Rattle.install_steps.proofs.running.run_acts.Given as goal

-- the acts before this one were done
abbrev pub invariant-loop-act : goal.invariant-loop-act
invariant-loop-act g l = record {
  faults : g.M.Machine.faults l.fn.m ≤ g.M.Machine.faults l.m;
  wants : g.M.Machine.wants l.fn.m ≤ g.M.Machine.wants l.m;
  so_far : SoFar g.M.Machine.tells (system_configuration l.system) (facts_content l.fn.facts) (steps_in l.acts) (take l.act-index l.acts) (g.M.Machine.past l.fn.m) (g.M.Machine.past l.m) (facts_content l.facts) l.fn.ends l.ends (g.P.Report.stands l.fn.report) (g.P.Report.stands l.report);
}
