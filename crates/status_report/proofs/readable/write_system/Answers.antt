use Rattle.report_lines.proofs.Appends.{three_more}
use Rattle.status_report.specs.Texts.{system_lines}
use Rattle.status_report.proofs.readable.write_system.Goals as goal

pub returns : goal.returns
unfolding system_lines
returns c =
    three_more _ _ _ _ _ _ _
    (rw c.as_str.ensures at c.in_ok-write_line.ensures) (rw c.as_slice-slots.ensures at c.in_ok-write_booted.ensures) (rw c.as_slice-slots.ensures at c.in_ok-write_primary.ensures)
