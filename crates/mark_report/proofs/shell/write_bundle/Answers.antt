use Rattle.mark_report.specs.Info.{bundle_settings}
use Rattle.report_lines.proofs.Appends.{four_more}
use Rattle.mark_report.proofs.shell.write_bundle.Goals as goal

pub returns : goal.returns
unfolding bundle_settings
returns c =
    four_more _ _ _ _ _ _ _ _ _
    (rw c.as_str.ensures at c.in_ok-write_setting.ensures) (rw c.text_or_none.ensures at c.in_ok-write_setting-2.ensures) (rw c.text_or_none-2.ensures at c.in_ok-write_setting-3.ensures) (rw c.text_or_none-3.ensures at c.in_ok-write_setting-4.ensures)
