use Rattle.std.proofs.Common.{◌∙◌}
use Rattle.undo_log.proofs.Noting.{noted_sync}
use Rattle.undo_log.proofs.log.UndoLog.sync_path.Goals as goal

pub returns-clause-ok : goal.returns-clause-ok
returns-clause-ok c =
    noted_sync _ _ _ _ (c.push_sync.ensures.boot ∙ c.room_for_note.ensures.boot) (rw c.as_str.ensures at c.in_ok-others.ensures) (rw c.room_for_note.ensures.world at c.push_sync.ensures.world)
    (rw c.room_for_note.ensures.notes at rw c.room_for_note.ensures.world at c.push_sync.ensures.notes)
