use Rattle.report_lines.proofs.Appends.{three_more}
use Rattle.status_report.specs.Texts.{boot_settings}
use Rattle.status_report.proofs.shell.write_boot.Goals as goal

pub returns : goal.returns
unfolding boot_settings
returns c =
    three_more _ _ _ _ _ _ _
    (rw c.text_or_none-bootname.ensures at c.in_ok-write_numbered.ensures)
    (rw c.as_slice.ensures at (rw c.parent_or_none-parent.ensures at c.in_ok-write_numbered-2.ensures))
    (rw c.boot_status_or_none-boot_status.ensures at c.in_ok-write_numbered-3.ensures)
