use Rattle.std.specs.Prelude.{⊤}
use Rattle.boot_backends.proofs.Judging.{fails_judged, fails_stopped}
use Rattle.boot_backends.proofs.runs.run_one.Goals as goal

pub returns-in-Ok-clause-fails : goal.returns-in-Ok-clause-fails
returns-in-Ok-clause-fails g c = fails_judged _ _ _ c.args.command.now c.in_ok-child.child c.in-Ok.exit _ _ c.judge.result c.judge.ensures c.in-Ok.ensures.past

pub returns-clause-fails : goal.returns-clause-fails
returns-clause-fails g c = fails_stopped ⊤ _ _ _ c.in_ok-child.child c.in-Err.stop c.run_stop.result c.run_stop.ensures c.in-Err.ensures.past
