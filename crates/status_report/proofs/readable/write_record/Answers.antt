use Rattle.report_lines.proofs.Appends.{two_more}
use Rattle.status_report.specs.Texts.{record_lines}
use Rattle.status_report.proofs.readable.write_record.Goals as goal

pub returns : goal.returns
unfolding record_lines
returns c = two_more _ _ _ _ _ c.in_ok-write_image.ensures c.in_ok-write_times.ensures
