use Rattle.report_lines.proofs.Appends.{three_more}
use Rattle.status_report.specs.Texts.{system_settings}
use Rattle.status_report.proofs.shell.write_system.Goals as goal

pub returns : goal.returns
unfolding system_settings
returns c =
    three_more _ _ _ _ _ _ _
    (rw c.as_str.ensures at c.in_ok-write_setting.ensures)
    (rw c.as_slice-slots.ensures at (rw c.booted_name-booted.ensures at c.in_ok-write_setting-2.ensures))
    (rw c.as_slice-slots.ensures at (rw c.primary_name-primary.ensures at c.in_ok-write_setting-3.ensures))
