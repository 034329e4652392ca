use Rattle.report_lines.proofs.Appends.{two_more}
use Rattle.status_report.specs.Texts.{time_lines}
use Rattle.status_report.proofs.readable.write_times.Goals as goal

pub returns : goal.returns
unfolding time_lines
returns c =
    two_more _ _ _ _ _
    (rw c.in_ok-installed.ensures at c.in_ok-write_line_if_any.ensures) (rw c.in_ok-activated.ensures at c.in_ok-write_line_if_any-2.ensures)
