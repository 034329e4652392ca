use Rattle.std.proofs.Common.{List, sym, ◌∙◌, ap}
use Rattle.machine.specs.declared.world.World.{World}
use Rattle.undo_log.specs.declared.notes.Change.{Change}
use Rattle.undo_log.specs.Undo.{world_before_all}
use Rattle.undo_log.proofs.Undoing.{world_before_all-push}
use Rattle.undo_log.proofs.changes.take_back.Goals as goal

pub loop-change-preserved : goal.loop-change-preserved
loop-change-preserved c =
    ap (λ (w : World). world_before_all c.pop.new.self.items w) c.undo.ensures
    ∙ sym (world_before_all-push c.pop.new.self.items c.in-Some.change c.loop-change.world)
    ∙ ap (λ (cs : List Change). world_before_all cs c.loop-change.world) (sym c.in-Some.ensures.items)
    ∙ c.loop-change.invariant
