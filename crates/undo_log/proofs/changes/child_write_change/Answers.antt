use Rattle.undo_log.proofs.Children.{child_write_undone}
use Rattle.undo_log.proofs.changes.child_write_change.Goals as goal

pub returns-clause-back : goal.returns-clause-back
returns-clause-back c =
    child_write_undone _ _ _ _ _ _ _ c.requires c.in_ok-path_copy.ensures (rw c.as_slice-disks.ensures at c.in_ok-replaced.ensures) c.in_ok-child_write.ensures.ok
