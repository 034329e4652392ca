use Rattle.rauc_cli.proofs.BundleInfo.{says_fault}
use Rattle.rauc_cli.proofs.info_lines.info_report.Goals as goal

pub returns-in-Err-Outside-clause-says : goal.returns-in-Err-Outside-clause-says
returns-in-Err-Outside-clause-says c =
    rw c.in-Err-Outside.is (rw c.in-Err-Outside.field-0-is (says_fault c.args.form c.in-Err-Outside.kind c.args.end.closing c.info_fault_report.result (rw c.in-Err-Outside.kind-is at c.info_fault_report.ensures)))
