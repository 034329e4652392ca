use Rattle.std.proofs.Common.{Ok, Err}
use Rattle.machine.specs.declared.calls.RunStop.TheVariants as run
use Rattle.machine.proofs.Running.{only_runs_run}
use Rattle.child_steps.proofs.Mounting.{own_spares}
use Rattle.child_steps.proofs.close.close_bundle.Goals as goal

pub returns-in-Ok-clause-kept : goal.returns-in-Ok-clause-kept
returns-in-Ok-clause-kept g c =
    only_runs_run _ c.args.mounted.umount.spares c.args.mounted.umount _ _ (Ok c.in-Ok.exit) (own_spares c.args.mounted.umount c.args.mounted.helper) c.in-Ok.ensures.past

pub returns-in-Err-Failed-clause-kept : goal.returns-in-Err-Failed-clause-kept
returns-in-Err-Failed-clause-kept g c =
    only_runs_run _ c.args.mounted.umount.spares c.args.mounted.umount _ _ (Err run.Failed) (own_spares c.args.mounted.umount c.args.mounted.helper) (rw c.in-Err-Failed.field-0-is at c.in-Err-Failed.ensures.past)
