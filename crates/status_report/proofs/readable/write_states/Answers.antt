use Rattle.report_lines.proofs.Appends.{four_more}
use Rattle.status_report.specs.Texts.{state_lines}
use Rattle.status_report.proofs.readable.write_states.Goals as goal

pub returns : goal.returns
unfolding state_lines
returns c =
    four_more _ _ _ _ _ _ _ _ _
    (rw c.state_at.ensures at c.in_ok-write_line.ensures) c.in_ok-write_line_if_any.ensures (rw c.boot_status_at.ensures at c.in_ok-write_word_if_any.ensures)
    (rw c.as_slice.ensures at (rw c.parent_name-parent.ensures at c.in_ok-write_word_if_any-2.ensures))
