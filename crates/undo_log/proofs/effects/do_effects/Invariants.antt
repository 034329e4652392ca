use Rattle.std.proofs.Common.{◌≡◌, drop}
use Rattle.undo_log.specs.Effects.{after_effects}
use Rattle.undo_log.specs.Undo.{world_before_all}
use Rattle.undo_log.proofs.effects.do_effects.Given as goal

abbrev pub invariant-loop-effect : goal.invariant-loop-effect
invariant-loop-effect l = record {
  done : after_effects l.child (drop l.effect-index l.effects) l.world ≡ after_effects l.fn.child l.fn.effects l.fn.world;
  back : world_before_all l.changes.items l.world ≡ world_before_all l.fn.changes.items l.fn.world;
}
