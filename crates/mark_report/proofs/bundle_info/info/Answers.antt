use Rattle.std.proofs.Common.{[], ◌∷◌}
use Rattle.machine.proofs.Running.{only_runs_join, only_runs_wider}
use Rattle.system_conf.specs.Reads.{system_configuration}
use Rattle.child_steps.specs.Children.{helper_spares, mounting, umount_child}
use Rattle.child_steps.specs.Mounting.{succeeded}
use Rattle.mark_report.proofs.Opened.{counted_unopened}
use Rattle.mark_report.proofs.Telling.{opened_answers, opened_closes, opened_fails, ran_two, unopened}
use Rattle.mark_report.proofs.bundle_info.info.Goals as goal

pub returns-in-Ok-clause-kept : goal.returns-in-Ok-clause-kept
returns-in-Ok-clause-kept g c =
    let conf = system_configuration c.args.system.now in
    only_runs_join _ (helper_spares conf []) (mounting conf c.args.bundle.now) (umount_child conf ∷ []) _ _ _ (λ told. ran_two conf c.args.bundle.now succeeded succeeded _ _ (c.in-Ok.ensures.ends told)) c.in-Ok.ensures.kept c.read_mounted.ensures.kept

pub returns-in-Ok-clause-answers : goal.returns-in-Ok-clause-answers
returns-in-Ok-clause-answers g c = λ told.
    opened_answers (system_configuration c.args.system.now) c.args.bundle.now _ _ _ c.read_mounted.result (c.in-Ok.ensures.ends told) (c.read_mounted.ensures.ends told)

pub returns-in-Ok-clause-fails : goal.returns-in-Ok-clause-fails
returns-in-Ok-clause-fails g c = λ told.
    opened_fails (system_configuration c.args.system.now) c.args.bundle.now _ _ _ c.read_mounted.result (c.in-Ok.ensures.ends told) (c.read_mounted.ensures.ends told)

pub returns-in-Ok-clause-closes : goal.returns-in-Ok-clause-closes
returns-in-Ok-clause-closes g c = λ told.
    opened_closes (system_configuration c.args.system.now) c.args.bundle.now _ _ _ c.read_mounted.result (c.in-Ok.ensures.ends told) (c.read_mounted.ensures.ends told)

pub returns-in-Err-clause-kept : goal.returns-in-Err-clause-kept
returns-in-Err-clause-kept g c =
    let conf = system_configuration c.args.system.now in
    only_runs_wider _ (helper_spares conf []) (mounting conf c.args.bundle.now) (umount_child conf ∷ []) _ _ c.in-Err.ensures.kept

pub returns-in-Err-clause-answers : goal.returns-in-Err-clause-answers
returns-in-Err-clause-answers g c = λ told.
    rw c.mount_stop.ensures (unopened (system_configuration c.args.system.now) c.args.bundle.now _ _ c.in-Err.stop (c.in-Err.ensures.ends told)).answers

pub returns-in-Err-clause-fails : goal.returns-in-Err-clause-fails
returns-in-Err-clause-fails g c = λ told.
    rw c.mount_stop.ensures (unopened (system_configuration c.args.system.now) c.args.bundle.now _ _ c.in-Err.stop (c.in-Err.ensures.ends told)).fails

pub returns-in-Err-clause-closes : goal.returns-in-Err-clause-closes
returns-in-Err-clause-closes g c = λ told.
    (unopened (system_configuration c.args.system.now) c.args.bundle.now _ _ c.in-Err.stop (c.in-Err.ensures.ends told)).closes

pub returns-in-Err-clause-counts : goal.returns-in-Err-clause-counts
returns-in-Err-clause-counts g c = rw c.mount_stop.ensures (counted_unopened _ _ _ _ c.in-Err.stop c.in-Err.ensures.counts)
