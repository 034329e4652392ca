use Rattle.system_conf.specs.Reads.{system_configuration}
use Rattle.rauc_cli.proofs.SlotCommands.{ended_status}
use Rattle.rauc_cli.proofs.run.run_status.Goals as goal

pub returns-clause-ended : goal.returns-clause-ended
returns-clause-ended g c =
    ended_status _ c.args.form c.args.detailed (system_configuration c.args.system.now) _ _ _ c.status-view.result _ c.status-view.ensures.kept c.status-view.ensures.world c.status-view.ensures.causes c.status-view.ensures.fails c.status_report.ensures.says
