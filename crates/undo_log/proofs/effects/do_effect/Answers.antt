use Rattle.std.proofs.Common.{List, ◌∙◌, ap}
use Rattle.machine.specs.declared.world.World.{World}
use Rattle.undo_log.specs.declared.notes.Change.{Change}
use Rattle.undo_log.specs.Undo.{world_before_all}
use Rattle.undo_log.proofs.Undoing.{world_before_all-push}
use Rattle.undo_log.proofs.effects.do_effect.Goals as goal

pub returns-in-Some-clause-back : goal.returns-in-Some-clause-back
returns-in-Some-clause-back c =
    ap (λ (cs : List Change). world_before_all cs c.change_world.new.world) c.push_reserved.ensures.items
    ∙ world_before_all-push c.reserve.new.self.items c.in-Some.change c.change_world.new.world
    ∙ ap (λ (w : World). world_before_all c.reserve.new.self.items w) (rw c.in-Some.is at c.in_ok-change.ensures.back)
    ∙ ap (λ (cs : List Change). world_before_all cs c.args.world.now) c.reserve.ensures.items
