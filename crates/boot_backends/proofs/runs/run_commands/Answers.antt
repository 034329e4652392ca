use Rattle.std.proofs.Common.{refl, arith}
use Rattle.std.proofs.lemmas.Option.{slice_get_read}
use Rattle.machine.proofs.Failing.{fails_join}
use Rattle.boot_backends.proofs.Judging.{handed_on}
use Rattle.boot_backends.proofs.Loop.{ran_more, ran_stops}
use Rattle.boot_backends.proofs.runs.run_commands.Goals as goal

pub returns-in_err-run_one-clause-ends : goal.returns-in_err-run_one-clause-ends
returns-in_err-run_one-clause-ends g c = λ told.
    rw (handed_on c.from_residual.result c.in_err-run_one.field-0.0 c.from_residual.ensures.1)
    (ran_stops _ _ c.command-item.result _ _ _ _ _ c.run_one.new.read _ (slice_get_read _ _ _ _ refl c.loop-command-test.true c.command-item.is) (c.loop-command.invariant.told told) (c.in_err-run_one.ensures.ends told))

pub returns-in_err-run_one-clause-fails : goal.returns-in_err-run_one-clause-fails
returns-in_err-run_one-clause-fails g c =
    rw (handed_on c.from_residual.result c.in_err-run_one.field-0.0 c.from_residual.ensures.1)
    (fails_join _ _ _ _ _ c.loop-command.invariant.fails c.in_err-run_one.ensures.fails)

pub loop-command-preserved : goal.loop-command-preserved
loop-command-preserved g c = record {
  faults = omega (arith, c.loop-command.invariant.faults, c.in_ok-run_one.ensures.counts);
  wants = omega (arith, c.loop-command.invariant.wants, c.in_ok-run_one.ensures.counts);
  fails = fails_join _ _ _ _ _ c.loop-command.invariant.fails c.in_ok-run_one.ensures.fails;
  told = λ told. ran_more _ _ c.command-item.result _ _ _ _ _ _ (slice_get_read _ _ _ _ refl c.loop-command-test.true c.command-item.is) (c.loop-command.invariant.told told) (c.in_ok-run_one.ensures.ends told);
}
