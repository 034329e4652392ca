use Rattle.std.proofs.Common.{[], ◌∷◌, Ok, Err}
use Rattle.machine.proofs.Failing.{fails_run}
use Rattle.machine.proofs.Running.{only_runs_run}
use Rattle.system_conf.specs.Reads.{system_configuration}
use Rattle.child_steps.specs.Children.{helper_spares, mount_point}
use Rattle.machine.specs.declared.calls.RunStop.TheVariants as run
use Rattle.child_steps.proofs.check.run_hook.Goals as goal

pub returns-in-Ok-check_answer-clause-kept : goal.returns-in-Ok-check_answer-clause-kept
returns-in-Ok-check_answer-clause-kept g c =
    let conf = system_configuration c.args.system.now in
    only_runs_run _ (helper_spares conf (mount_point conf ∷ [])) c.args.hook.now _ _ (Ok c.in-Ok.exit) c.requires c.in-Ok.ensures.past

pub returns-in-Ok-check_answer-clause-fails : goal.returns-in-Ok-check_answer-clause-fails
returns-in-Ok-check_answer-clause-fails g c = fails_run _ _ _ c.args.hook.now (Ok c.in-Ok.exit) c.in-Ok.ensures.past

pub returns-in-Err-clause-kept : goal.returns-in-Err-clause-kept
returns-in-Err-clause-kept g c =
    let conf = system_configuration c.args.system.now in
    only_runs_run _ (helper_spares conf (mount_point conf ∷ [])) c.args.hook.now _ _ (Ok c.in-Ok.exit) c.requires c.in-Ok.ensures.past

pub returns-in-Err-clause-fails : goal.returns-in-Err-clause-fails
returns-in-Err-clause-fails g c = fails_run _ _ _ c.args.hook.now (Ok c.in-Ok.exit) c.in-Ok.ensures.past

pub returns-in-Err-Failed-clause-kept : goal.returns-in-Err-Failed-clause-kept
returns-in-Err-Failed-clause-kept g c =
    let conf = system_configuration c.args.system.now in
    only_runs_run _ (helper_spares conf (mount_point conf ∷ [])) c.args.hook.now _ _ (Err run.Failed) c.requires (rw c.in-Err-Failed.field-0-is at c.in-Err-Failed.ensures.past)
