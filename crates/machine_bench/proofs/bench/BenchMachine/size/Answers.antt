use Rattle.std.proofs.Common.{IfOk, true, sym, subst}
use Rattle.machine.specs.declared.world.World.{World}
use Rattle.machine.specs.World.{length_under}
use Rattle.machine.specs.Past.{Size}
use Rattle.machine.specs.Calls.{IsLong}
use Rattle.undo_log.proofs.Undoing.{now-past_of}
use Rattle.machine_bench.proofs.Settling.{settled_ends, settled_value}
use Rattle.machine_bench.proofs.bench.BenchMachine.size.Goals as goal

pub returns-clause-past : goal.returns-clause-past
returns-clause-past c = λ told.
    settled_ends _ _ _ _ _ _ _ _ c.settle.ensures.log (Size c.args.path.now) c.size-noted.result c.settle.result c.settle.ensures.answer c.size-noted.ensures.ok c.size-noted.ensures.err

pub returns-clause-answer : goal.returns-clause-answer
returns-clause-answer c =
    subst (λ (w : World). IfOk c.settle.result (IsLong true (length_under w c.args.path.now c.args.disk))) (sym (now-past_of c.args.self.now.log))
    (settled_value _ _ _ _ _ c.size-noted.result c.settle.result (IsLong true (length_under c.args.self.now.log.world c.args.path.now c.args.disk)) c.settle.ensures.answer c.size-noted.ensures.size)
