use Rattle.std.proofs.Common.{◌∙◌}
use Rattle.undo_log.proofs.Noting.{noted_child}
use Rattle.undo_log.proofs.Children.{after_ran}
use Rattle.undo_log.proofs.log.UndoLog.run_child.Goals as goal

pub returns-clause-ok : goal.returns-clause-ok
returns-clause-ok c =
    noted_child _ _ _ _ _ c.push_note.ensures.boot c.in_ok-child_copy.ensures (rw c.push_note.ensures.world c.in_ok-changes.ensures.back)
    (after_ran _ _ _ c.args.effects.now _ _ c.requires (c.push_note.ensures.world ∙ c.in_ok-changes.ensures.ok))
    (rw c.reserve.ensures.items at c.push_note.ensures.notes)
