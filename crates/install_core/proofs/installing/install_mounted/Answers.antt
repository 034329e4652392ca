use Rattle.machine.specs.declared.world.Child.{Child}
use Rattle.std.proofs.Common.{IsTrue, [], ◌∷◌, subst}
use Rattle.machine.specs.Runs.{OnlyRuns}
use Rattle.child_steps.specs.Closing.{ClosingEnds}
use Rattle.system_conf.specs.Reads.{system_configuration}
use Rattle.install_core.proofs.Going.{worked_noted}
use Rattle.install_core.proofs.UnmountCounts.{unmount_counted}
use Rattle.install_core.proofs.installing.install_mounted.Goals as goal

pub returns-clause-worked : goal.returns-clause-worked
returns-clause-worked g c =
    worked_noted _ (system_configuration c.args.system.now) c.args.request.now _ _ _ _ _ _ c.work-worked.result.result c.close_bundle-closing.result c.work-worked.result.book_unread c.note.ensures c.work-worked.ensures.works
    (subst (λ (child : Child). OnlyRuns g.M.Machine.tells child.spares (child ∷ []) (g.M.Machine.past c.work-worked.new.m) (g.M.Machine.past c.close_bundle-closing.new.m)) c.requires c.close_bundle-closing.ensures.kept)
    (subst (λ (child : Child). IsTrue g.M.Machine.tells → ClosingEnds child (g.M.Machine.past c.work-worked.new.m) (g.M.Machine.past c.close_bundle-closing.new.m) c.close_bundle-closing.result) c.requires c.close_bundle-closing.ensures.ends)

pub returns-clause-unmount : goal.returns-clause-unmount
returns-clause-unmount g c = unmount_counted _ _ _ _ _ _ c.work-worked.result.result c.close_bundle-closing.result c.work-worked.ensures.counts c.close_bundle-closing.ensures.counts
