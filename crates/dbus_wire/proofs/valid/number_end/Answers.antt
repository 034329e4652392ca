use Rattle.std.proofs.Common.{ℕ, ◌+◌, sym, ap, ◌∙◌, Option}
use Rattle.wire_value.specs.Spelling.{gap}
use Rattle.dbus_wire.specs.Checking.{number_end}
use Rattle.dbus_wire.proofs.Checked.{number_is}
use Rattle.dbus_wire.proofs.valid.number_end.Goals as goal

pub returns-in-Some-clause-is : goal.returns-in-Some-clause-is
returns-in-Some-clause-is c =
    ap (λ (k : ℕ). c.value_start-start.result + k + 4) c.gap_before.ensures.is
    ∙ ap (λ (k : ℕ). k + gap 4 k + 4) c.value_start-start.ensures.is
    ∙ sym (number_is c.in-Some._number c.args.offset)
    ∙ ap (λ (o : Option ℕ). number_end o c.args.offset) (sym c.in-Some.is)
