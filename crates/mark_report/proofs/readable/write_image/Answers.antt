use Rattle.mark_report.specs.Info.{image_lines}
use Rattle.report_lines.proofs.Appends.{four_more}
use Rattle.mark_report.proofs.readable.write_image.Goals as goal

pub returns : goal.returns
unfolding image_lines
returns c =
    four_more _ _ _ _ _ _ _ _ _
    (rw c.as_str.ensures at c.in_ok-write_line.ensures) c.in_ok-write_file_if_any.ensures c.in_ok-write_hooks.ensures c.in_ok-write_if.ensures
