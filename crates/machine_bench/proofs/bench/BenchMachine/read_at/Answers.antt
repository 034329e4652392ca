use Rattle.std.proofs.Common.{IfOk, true, sym, subst}
use Rattle.machine.specs.declared.world.World.{World}
use Rattle.machine.specs.World.{readable}
use Rattle.machine.specs.Calls.{ReadSome}
use Rattle.undo_log.proofs.Undoing.{now-past_of}
use Rattle.machine_bench.proofs.Settling.{settled_read, settled_value}
use Rattle.machine_bench.proofs.bench.BenchMachine.read_at.Goals as goal

pub returns-clause-past : goal.returns-clause-past
returns-clause-past c = λ told.
    settled_read _ _ _ _ _ _ _ _ c.settle.ensures.log c.args.path.now c.read-noted.result c.settle.result c.settle.ensures.answer c.read-noted.ensures.ok c.read-noted.ensures.failed c.read-noted.ensures.err

pub returns-clause-answer : goal.returns-clause-answer
returns-clause-answer c =
    subst (λ (w : World). IfOk c.settle.result (ReadSome true (readable w c.args.path.now) c.args.at c.args.into.now c.read-noted.new.into)) (sym (now-past_of c.args.self.now.log))
    (settled_value _ _ _ _ _ c.read-noted.result c.settle.result (ReadSome true (readable c.args.self.now.log.world c.args.path.now) c.args.at c.args.into.now c.read-noted.new.into) c.settle.ensures.answer c.read-noted.ensures.read)
