use Rattle.std.proofs.Common.{◌∙◌}
use Rattle.machine.specs.declared.stops.Stop.TheVariants.{NoMemory}
use Rattle.machine.proofs.Failing.{fails_join}
use Rattle.boot_backends.proofs.Judging.{handed_on}
use Rattle.boot_backends.proofs.Loop.{marks_memory, marks_no_plan, marks_stopped, marks_writes}
use Rattle.boot_backends.proofs.marks.mark_name.Goals as goal

pub returns-in_err-looks-clause-ends : goal.returns-in_err-looks-clause-ends
returns-in_err-looks-clause-ends g c = λ told.
    rw (handed_on c.from_residual.result NoMemory c.from_residual.ensures.1) (marks_memory _ _ _ _ _)

pub returns-in_err-read-clause-ends : goal.returns-in_err-read-clause-ends
returns-in_err-read-clause-ends g c = λ told.
    rw (handed_on c.from_residual-in_err-read.result c.in_err-read.field-0.0 c.from_residual-in_err-read.ensures.1)
    (marks_stopped _ _ _ _ _ _ c.as_slice.result.now _ (c.as_slice.ensures ∙ c.in_ok-looks.ensures) (c.in_err-read.ensures.ends told))

pub returns-in_err-plan-clause-ends : goal.returns-in_err-plan-clause-ends
returns-in_err-plan-clause-ends g c = λ told.
    rw (handed_on c.from_residual-in_err-plan.result NoMemory c.from_residual-in_err-plan.ensures.1)
    (marks_no_plan _ _ _ _ _ _ c.as_slice.result.now _ (c.as_slice.ensures ∙ c.in_ok-looks.ensures) (c.in_ok-read.ensures.ends told))

pub returns-clause-ends : goal.returns-clause-ends
returns-clause-ends g c = λ told.
    marks_writes _ _ _ _ _ _ c.as_slice.result.now _ (c.as_slice.ensures ∙ c.in_ok-looks.ensures) (c.in_ok-read.ensures.ends told) _ _ _ c.in_ok-plan.ensures (c.write_plan.ensures.ends told)

pub returns-clause-fails : goal.returns-clause-fails
returns-clause-fails g c = fails_join _ _ _ _ _ c.in_ok-read.ensures.fails c.write_plan.ensures.fails
