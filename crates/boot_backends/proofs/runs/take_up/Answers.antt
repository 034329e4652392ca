use Rattle.boot_backends.proofs.Judging.{taken_as, taken_bad, taken_done, taken_unset}
use Rattle.std.proofs.Common.{refl}
use Rattle.boot_backends.proofs.runs.take_up.Goals as goal

pub returns-in_default : goal.returns-in_default
returns-in_default c =
    (taken_bad c.args.command.now c.args.exit.now c.args.read.now c.as_slice.result.now c.as_slice.ensures c.if-not-is_reading.ensures c.if-exit.false c.in_default.ensures.cases.0, refl)

pub returns-then-is_done : goal.returns-then-is_done
returns-then-is_done c =
    taken_as _ _ _ _ _ (taken_done c.args.command.now c.args.exit.now c.args.read.now c.as_slice.result.now c.as_slice.ensures c.if-not-is_reading.ensures c.if-exit.false c.in-Ok.out.now c.in-Ok.ensures.cases c.if-is_done.ensures) c.take_output.ensures

pub returns-else-is_done : goal.returns-else-is_done
returns-else-is_done c =
    taken_unset c.args.command.now c.args.exit.now c.args.read.now c.as_slice.result.now c.as_slice.ensures c.if-not-is_reading.ensures c.if-exit.false c.in-Ok.out.now c.in-Ok.ensures.cases c.if-is_done.ensures
