use Rattle.std.proofs.Common.{◌≡◌, IfOk, sym, subst}
use Rattle.machine.specs.declared.world.World.{World}
use Rattle.undo_log.proofs.Undoing.{now-past_of}
use Rattle.machine_bench.proofs.bench.Bench.world.Goals as goal

pub returns : goal.returns
returns c = subst (λ (v : World). IfOk c.try_clone.result (λ w. w ≡ v)) (sym (now-past_of c.args.self.now.log)) c.try_clone.ensures
