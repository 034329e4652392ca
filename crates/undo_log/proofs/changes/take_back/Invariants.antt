use Rattle.std.proofs.Common.{◌≡◌, vec_len}
use Rattle.undo_log.specs.Undo.{world_before_all}
use Rattle.undo_log.proofs.changes.take_back.Given as goal

abbrev pub invariant-loop-change : goal.invariant-loop-change
invariant-loop-change l = world_before_all l.changes.items l.world ≡ world_before_all l.initial.changes.items l.initial.world

abbrev pub decreases-loop-change : goal.decreases-loop-change
decreases-loop-change l = vec_len l.changes
