use Rattle.std.proofs.Common.{[], ◌∷◌, sym, subst}
use Rattle.machine.proofs.Failing.{fails_join}
use Rattle.machine.proofs.Running.{only_runs_join, only_runs_wider}
use Rattle.machine.specs.Runs.{SparesThese}
use Rattle.machine.specs.Stops.{stop_fault}
use Rattle.system_conf.specs.Reads.{system_configuration}
use Rattle.child_steps.specs.Children.{check_child, helper_spares, mount_child}
use Rattle.child_steps.specs.declared.mount.ChildSet.{ChildSet}
use Rattle.child_steps.proofs.Mounting.{check_spares, ends_checked, ran_one}
use Rattle.child_steps.proofs.mount.mount_bundle.Goals as goal

pub run_check-requires : goal.run_check-requires
run_check-requires g c =
    subst (λ (x : ChildSet). SparesThese (helper_spares (system_configuration c.args.system.now) []) x.check) (sym c.in-Ok.ensures) (check_spares (system_configuration c.args.system.now) c.args.bundle.now)

pub returns-in-Ok-run_check-clause-kept : goal.returns-in-Ok-run_check-clause-kept
returns-in-Ok-run_check-clause-kept g c =
    let conf = system_configuration c.args.system.now in
    let checked = rw c.in-Ok.ensures at c.in-Ok-run_check.ensures.ends in
    only_runs_join _ (helper_spares conf []) (check_child conf c.args.bundle.now ∷ []) (mount_child conf c.args.bundle.now ∷ []) _ _ _ (λ told. ran_one (check_child conf c.args.bundle.now) _ _ _ (checked told)) (rw c.in-Ok.ensures at c.run_check.ensures.kept) (rw c.in-Ok.ensures at c.mount_checked.ensures.kept)

pub returns-in-Ok-run_check-clause-ends : goal.returns-in-Ok-run_check-clause-ends
returns-in-Ok-run_check-clause-ends g c =
    let checked = rw c.in-Ok.ensures at c.in-Ok-run_check.ensures.ends in
    let mounted = rw c.in-Ok.ensures at c.mount_checked.ensures.ends in
    λ told. ends_checked (system_configuration c.args.system.now) c.args.bundle.now _ _ _ c.mount_checked.result (checked told) (mounted told)

pub returns-in-Err-clause-kept : goal.returns-in-Err-clause-kept
returns-in-Err-clause-kept g c =
    let conf = system_configuration c.args.system.now in
    only_runs_wider _ (helper_spares conf []) (check_child conf c.args.bundle.now ∷ []) (mount_child conf c.args.bundle.now ∷ []) _ _ (rw c.in-Ok.ensures at c.run_check.ensures.kept)

pub returns-in-Ok-run_check-clause-fails : goal.returns-in-Ok-run_check-clause-fails
returns-in-Ok-run_check-clause-fails g c = fails_join _ _ _ _ (stop_fault c.mount_checked.result) c.in-Ok-run_check.ensures.fails c.mount_checked.ensures.fails
