use Rattle.std.proofs.Common.{[], Ok, Err}
use Rattle.machine.proofs.Running.{only_runs_run}
use Rattle.system_conf.specs.Reads.{system_configuration}
use Rattle.child_steps.specs.Children.{helper_spares}
use Rattle.child_steps.proofs.mount.run_child.Goals as goal

pub returns-in-Ok-clause-kept : goal.returns-in-Ok-clause-kept
returns-in-Ok-clause-kept g c = only_runs_run _ (helper_spares (system_configuration c.args.system.now) []) c.args.child.now _ _ (Ok c.in-Ok.exit) c.requires c.in-Ok.ensures.past

pub returns-in-Err-clause-kept : goal.returns-in-Err-clause-kept
returns-in-Err-clause-kept g c = only_runs_run _ (helper_spares (system_configuration c.args.system.now) []) c.args.child.now _ _ (Err c.in-Err.stop) c.requires c.in-Err.ensures.past
