use Rattle.machine.specs.Past.{Sync}
use Rattle.machine_bench.proofs.Settling.{settled_ends}
use Rattle.machine_bench.proofs.bench.BenchMachine.sync.Goals as goal

pub returns-clause-past : goal.returns-clause-past
returns-clause-past c = λ told.
    settled_ends _ _ _ _ _ _ _ _ c.settle.ensures.log (Sync c.args.path.now) c.sync-noted.result c.settle.result c.settle.ensures.answer c.sync-noted.ensures.ok c.sync-noted.ensures.err
