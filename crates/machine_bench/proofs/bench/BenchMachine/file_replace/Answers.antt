use Rattle.machine.specs.Past.{Replace}
use Rattle.machine_bench.proofs.Settling.{settled_ends}
use Rattle.machine_bench.proofs.bench.BenchMachine.file_replace.Goals as goal

pub returns-clause-past : goal.returns-clause-past
returns-clause-past c = λ told.
    settled_ends _ _ _ _ _ _ _ _ c.settle.ensures.log (Replace c.args.path.now c.args.bytes.now) c.replace-noted.result c.settle.result c.settle.ensures.answer c.replace-noted.ensures.ok c.replace-noted.ensures.err
