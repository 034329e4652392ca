use Rattle.system_conf.specs.Reads.{system_configuration}
use Rattle.rauc_cli.proofs.BundleInfo.{ended_info}
use Rattle.rauc_cli.proofs.run.run_info.Goals as goal

pub returns-clause-ended : goal.returns-clause-ended
returns-clause-ended g c =
    ended_info _ c.args.form (system_configuration c.args.system.now) c.args.bundle.now _ _ c.info-end.result.result c.info-end.result.closing _ c.info-end.ensures.kept c.info-end.ensures.answers c.info-end.ensures.fails c.info-end.ensures.closes c.info_report.ensures.says
