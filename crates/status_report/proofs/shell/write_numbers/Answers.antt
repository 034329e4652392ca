use Rattle.std.proofs.Common.{◌∙◌, ap}
use Rattle.status_report.proofs.shell.write_numbers.Goals as goal

pub returns : goal.returns
returns c = rw c.as_slice.ensures at (rw c.in_ok-numbers.ensures at (rw c.as_str.ensures at c.write_setting.ensures))
