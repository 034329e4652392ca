use Rattle.std.proofs.Common.{◌∙◌, sym}
use Rattle.child_steps.specs.Checks.{is_line_feed}
use Rattle.child_steps.proofs.PrintedTexts.{all_before, before_it}
use Rattle.child_steps.proofs.check.first_line.Goals as goal

pub returns-in-Some : goal.returns-in-Some
returns-in-Some c =
    c.truncate.ensures.items ∙ before_it is_line_feed c.args.output.items c.in-Some.end (sym (rw c.as_slice.ensures.value at c.in-Some.ensures))

pub returns-in-None : goal.returns-in-None
returns-in-None c = all_before is_line_feed c.args.output.items (sym (rw c.as_slice.ensures.value at c.in-None.ensures))
