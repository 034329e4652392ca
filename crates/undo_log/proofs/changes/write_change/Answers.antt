use Rattle.undo_log.proofs.Noting.{written_undone}
use Rattle.undo_log.proofs.changes.write_change.Goals as goal

pub returns-clause-back : goal.returns-clause-back
returns-clause-back c =
    written_undone _ _ _ _ _ _ _ c.requires c.in_ok-path_copy.ensures (rw c.as_slice-disks.ensures at c.in_ok-replaced.ensures) c.in_ok-write.ensures.ok
