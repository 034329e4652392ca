use Rattle.std.proofs.Common.{◌∙◌, ◌++◌, ap, ap₂, arith, sym}
use Rattle.status_report.specs.Words.{next_number, numbers}
use Rattle.status_report.proofs.Numbers.{numbers_push}
use Rattle.status_report.proofs.shell.numbers.Goals as goal

pub loop-slot-preserved : goal.loop-slot-preserved
loop-slot-preserved c = record {
  written = c.in_ok-push_str.ensures.bytes ∙ ap₂ (λ x y. x ++ y) c.loop-slot.invariant.written (c.as_str.ensures.value ∙ c.in_ok-next.ensures ∙ ap next_number c.loop-slot.invariant.number) ∙ sym (numbers_push c.loop-slot._slot-index);
  number = omega (arith, c.loop-slot.invariant.number);
}
