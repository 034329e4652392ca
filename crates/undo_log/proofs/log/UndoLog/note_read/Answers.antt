use Rattle.std.proofs.Common.{◌∙◌}
use Rattle.undo_log.proofs.Noting.{noted_read, same_readable}
use Rattle.undo_log.proofs.log.UndoLog.note_read.Goals as goal

pub returns-clause-ok : goal.returns-clause-ok
returns-clause-ok c =
    noted_read _ _ _ _ _ (c.push_note.ensures.boot ∙ c.room_for_note.ensures.boot) (rw c.as_str.ensures at rw c.room_for_note.ensures.world at c.count_read-changes.ensures.changes)
    (c.push_note.ensures.world ∙ (rw c.as_str.ensures at rw c.room_for_note.ensures.world at c.count_read-changes.ensures.world))
    (rw c.room_for_note.ensures.notes at c.push_note.ensures.notes)

pub returns-clause-found : goal.returns-clause-found
returns-clause-found c =
    same_readable _ _ _ _ (c.push_note.ensures.world ∙ (rw c.as_str.ensures at rw c.room_for_note.ensures.world at c.count_read-changes.ensures.world))
