use Rattle.std.proofs.Common.{Ok}
use Rattle.child_steps.proofs.Mounting.{own_spares}
use Rattle.machine.proofs.Running.{only_runs_run}
use Rattle.install_steps.proofs.programs.run_program.Goals as goal

pub returns-in-Code-eq0-clause-kept : goal.returns-in-Code-eq0-clause-kept
returns-in-Code-eq0-clause-kept g c =
    only_runs_run _ c.args.child.now.spares c.args.child.now _ _ (Ok c.in-Ok.exit) (own_spares c.args.child.now c.requires) c.in-Ok.ensures.past

pub returns-in-Ok-clause-kept : goal.returns-in-Ok-clause-kept
returns-in-Ok-clause-kept g c =
    only_runs_run _ c.args.child.now.spares c.args.child.now _ _ (Ok c.in-Ok.exit) (own_spares c.args.child.now c.requires) c.in-Ok.ensures.past
