use Rattle.std.proofs.Common.{Err, IsTrue, [], ap, subst}
use Rattle.keyfile.specs.Groups.{Text}
use Rattle.machine.specs.Runs.{OnlyRuns}
use Rattle.child_steps.specs.Children.{helper_spares, mounting}
use Rattle.child_steps.specs.Mounting.{MountEnds}
use Rattle.system_conf.specs.Reads.{system_configuration}
use Rattle.install_core.proofs.Going.{installs_mounted, installs_unmounted}
use Rattle.install_core.proofs.AllDone.{done_at_success}
use Rattle.install_core.proofs.FaultsTold.{fault_told}
use Rattle.install_core.proofs.LeftUntouched.{leaves_untouched}
use Rattle.install_core.proofs.CrashSafety.{install_is_safe}
use Rattle.child_steps.specs.declared.close.Closing.TheVariants as closing
use Rattle.install_core.proofs.UnmountCounts.{counted_as, counted_since, none_counted}
use Rattle.install_core.proofs.installing.install.Goals as goal

pub returns-in-Ok-clause-course : goal.returns-in-Ok-clause-course
returns-in-Ok-clause-course g c =
    installs_mounted _ (system_configuration c.args.system.now) c.args.request.now _ _ _ _ _ _ c.in-Ok.mounted c.install_mounted-worked.result.0.result c.install_mounted-worked.result.1 c.install_mounted-worked.result.0.book_unread c.end_of.result
    c.note.ensures (rw c.as_str.ensures at c.in-Ok.ensures.ends) (rw c.as_str.ensures at c.in-Ok.ensures.kept) c.in-Ok.ensures.fails c.install_mounted-worked.ensures.worked c.end_of.ensures.is c.end_of.ensures.closing c.end_of.ensures.unread

pub returns-in-Err-clause-course : goal.returns-in-Err-clause-course
returns-in-Err-clause-course g c =
    installs_unmounted _ (system_configuration c.args.system.now) c.args.request.now _ (g.P.Report.stands c.note.new.self) (g.P.Report.stands c.note.new.self) _ _ c.in-Err.stop (Err c.mount_stop.result) c.end_of-in-Err.result
    c.note.ensures (subst (λ (b : Text). IsTrue g.M.Machine.tells → MountEnds (system_configuration c.args.system.now) b (g.M.Machine.past c.args.m.now) (g.M.Machine.past c.mount_bundle.new.m) (Err c.in-Err.stop)) c.as_str.ensures c.in-Err.ensures.ends)
    (subst (λ (b : Text). OnlyRuns g.M.Machine.tells (helper_spares (system_configuration c.args.system.now) []) (mounting (system_configuration c.args.system.now) b) (g.M.Machine.past c.args.m.now) (g.M.Machine.past c.mount_bundle.new.m)) c.as_str.ensures c.in-Err.ensures.kept) c.in-Err.ensures.fails (ap Err c.mount_stop.ensures) c.end_of-in-Err.ensures.is c.end_of-in-Err.ensures.closing c.end_of-in-Err.ensures.unread

pub returns-in-Ok-clause-untouched : goal.returns-in-Ok-clause-untouched
returns-in-Ok-clause-untouched g c = leaves_untouched _ _ c.args.request.now _ _ _ _ c.end_of.result (returns-in-Ok-clause-course g c)

pub returns-in-Err-clause-untouched : goal.returns-in-Err-clause-untouched
returns-in-Err-clause-untouched g c = leaves_untouched _ _ c.args.request.now _ _ _ _ c.end_of-in-Err.result (returns-in-Err-clause-course g c)

pub returns-in-Ok-clause-crash_safe : goal.returns-in-Ok-clause-crash_safe
returns-in-Ok-clause-crash_safe g c = install_is_safe c.args.system.now _ c.args.request.now _ _ _ _ c.end_of.result (returns-in-Ok-clause-course g c)

pub returns-in-Err-clause-crash_safe : goal.returns-in-Err-clause-crash_safe
returns-in-Err-clause-crash_safe g c = install_is_safe c.args.system.now _ c.args.request.now _ _ _ _ c.end_of-in-Err.result (returns-in-Err-clause-course g c)

pub returns-in-Ok-clause-done : goal.returns-in-Ok-clause-done
returns-in-Ok-clause-done g c = done_at_success _ _ c.args.request.now _ _ _ _ c.end_of.result (returns-in-Ok-clause-course g c)

pub returns-in-Err-clause-done : goal.returns-in-Err-clause-done
returns-in-Err-clause-done g c = done_at_success _ _ c.args.request.now _ _ _ _ c.end_of-in-Err.result (returns-in-Err-clause-course g c)

pub returns-in-Ok-clause-fails : goal.returns-in-Ok-clause-fails
returns-in-Ok-clause-fails g c = fault_told _ _ c.args.request.now _ _ _ _ c.end_of.result (returns-in-Ok-clause-course g c)

pub returns-in-Err-clause-fails : goal.returns-in-Err-clause-fails
returns-in-Err-clause-fails g c = fault_told _ _ c.args.request.now _ _ _ _ c.end_of-in-Err.result (returns-in-Err-clause-course g c)

pub returns-in-Ok-clause-unmount : goal.returns-in-Ok-clause-unmount
returns-in-Ok-clause-unmount g c =
    counted_as _ _ _ _ c.install_mounted-worked.result.1 c.end_of.result.closing c.end_of.ensures.closing
    (counted_since _ _ _ _ _ _ c.install_mounted-worked.result.1 c.in-Ok.ensures.counts.0 c.in-Ok.ensures.counts.1 c.install_mounted-worked.ensures.unmount)

pub returns-in-Err-clause-unmount : goal.returns-in-Err-clause-unmount
returns-in-Err-clause-unmount g c = counted_as _ _ _ _ closing.NotMounted c.end_of-in-Err.result.closing c.end_of-in-Err.ensures.closing (none_counted _ _ _ _)
