use Rattle.machine_bench.proofs.Settling.{settled_clock}
use Rattle.machine_bench.proofs.bench.BenchMachine.now.Goals as goal

pub returns-clause-past : goal.returns-clause-past
returns-clause-past c = λ told.
    settled_clock _ _ _ _ _ _ _ _ c.settle.ensures.log c.clock-noted.result c.settle.result c.settle.ensures.answer c.clock-noted.ensures.done c.clock-noted.ensures.failed c.clock-noted.ensures.err
