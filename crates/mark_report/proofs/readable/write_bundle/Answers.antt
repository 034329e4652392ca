use Rattle.mark_report.specs.Info.{bundle_lines}
use Rattle.report_lines.proofs.Appends.{four_more}
use Rattle.mark_report.proofs.readable.write_bundle.Goals as goal

pub returns : goal.returns
unfolding bundle_lines
returns c =
    four_more _ _ _ _ _ _ _ _ _
    (rw c.as_str.ensures at c.in_ok-write_line.ensures) c.in_ok-write_line_if_any.ensures c.in_ok-write_line_if_any-2.ensures c.in_ok-write_line_if_any-3.ensures
