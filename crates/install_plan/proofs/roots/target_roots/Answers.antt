use Rattle.system_conf.specs.Reads.{system_configuration}
use Rattle.slot_graph.specs.declared.job.Job.{Job}
use Rattle.install_plan.proofs.EachOnce.{roots_at}
use Rattle.install_plan.proofs.roots.target_roots.Goals as goal

pub loop-job-preserved : goal.loop-job-preserved
loop-job-preserved c =
    let none : Job = record { image = 0; slot = 0; root = 0 } in
    roots_at (system_configuration c.args.system.now) c.args.facts.now.jobs c.loop-job.job-index none c.loop-job.roots c.push_root.new.roots
    (rw c.as_slice-job-items.ensures at c.loop-job-test.true) c.loop-job.invariant (rw c.as_slice-job-items.ensures at c.in_ok-push_root.ensures)
