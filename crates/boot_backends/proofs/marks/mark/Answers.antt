use Rattle.std.proofs.Common.{◌∙◌, List, ℕ, subst}
use Rattle.machine.specs.declared.stops.Stop.TheVariants.{NoMemory}
use Rattle.boot_backends.specs.Ends.{Marks}
use Rattle.boot_backends.proofs.Judging.{handed_on}
use Rattle.boot_backends.proofs.Loop.{marks_memory}
use Rattle.boot_backends.proofs.Names.{has_digits}
use Rattle.boot_backends.proofs.marks.mark.Goals as goal

pub mark_name-requires : goal.mark_name-requires
mark_name-requires g c = has_digits c.args.system.now.boot c.args.system.now.sound.boot_formed

pub returns-in_err-names-clause-ends : goal.returns-in_err-names-clause-ends
returns-in_err-names-clause-ends g c = λ told.
    rw (handed_on c.from_residual.result NoMemory c.from_residual.ensures.1) (marks_memory _ _ _ _ _)

pub returns-clause-ends : goal.returns-clause-ends
returns-clause-ends g c = λ told.
    subst (λ (ns : List (List ℕ)). Marks c.args.system.now.boot ns c.args.mark c.args.name.now (g.M.Machine.past c.args.m.now) (g.M.Machine.past c.mark_name.new.m) c.mark_name.result) (c.deref.ensures.value ∙ c.in_ok-names.ensures) (c.mark_name.ensures.ends told)
