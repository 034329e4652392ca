use Rattle.system_conf.specs.Reads.{system_configuration}
use Rattle.rauc_cli.proofs.SlotCommands.{ended_mark}
use Rattle.rauc_cli.proofs.run.run_mark.Goals as goal

pub returns-clause-ended : goal.returns-clause-ended
returns-clause-ended g c =
    ended_mark _ (system_configuration c.args.system.now) c.args.action _ _ _ c.mark-marked.result _ c.mark-marked.ensures.marks c.mark_report.ensures.says
