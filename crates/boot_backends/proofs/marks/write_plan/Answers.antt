use Rattle.machine.specs.declared.stops.Stop.TheVariants.{NoMemory}
use Rattle.boot_backends.proofs.Judging.{handed_on}
use Rattle.boot_backends.proofs.Loop.{no_memory_then, writes_done, writes_stopped, writes_unlisted}
use Rattle.boot_backends.proofs.marks.write_plan.Goals as goal

pub returns-in_ok-run_commands-in-Some-clause-ends : goal.returns-in_ok-run_commands-in-Some-clause-ends
returns-in_ok-run_commands-in-Some-clause-ends g c = λ told.
    writes_done _ c.in-Some.commands c.as_slice.result.now _ _ _ _ c.in-Some.is c.as_slice.ensures (c.in_ok-run_commands-in-Some.ensures.ends told)

pub returns-in_err-run_commands-in-Some-clause-ends : goal.returns-in_err-run_commands-in-Some-clause-ends
returns-in_err-run_commands-in-Some-clause-ends g c = λ told.
    rw (handed_on c.from_residual.result c.in_err-run_commands-in-Some.field-0.0 c.from_residual.ensures.1)
    (writes_stopped _ c.in-Some.commands c.as_slice.result.now _ _ _ _ c.in-Some.is c.as_slice.ensures (c.in_err-run_commands-in-Some.ensures.ends told))

pub returns-in_ok-name-in-None-clause-ends : goal.returns-in_ok-name-in-None-clause-ends
returns-in_ok-name-in-None-clause-ends g c = λ told. writes_unlisted _ _ _ _ c.in-None.is c.in_ok-name-in-None.ensures

pub returns-in_err-name-in-None-clause-ends : goal.returns-in_err-name-in-None-clause-ends
returns-in_err-name-in-None-clause-ends g c = λ told.
    rw (handed_on c.from_residual-in_err-name-in-None.result NoMemory c.from_residual-in_err-name-in-None.ensures.1) (no_memory_then _ _ _)
