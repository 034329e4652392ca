use Rattle.system_conf.specs.Reads.{system_configuration}
use Rattle.rauc_cli.proofs.Commands.{ended_slot}
use Rattle.rauc_cli.proofs.run.run_write_slot.Goals as goal

pub returns-clause-ended : goal.returns-clause-ended
returns-clause-ended g c =
    ended_slot _ (system_configuration c.args.system.now) c.args.slot.now c.args.image.now _ _ _ c.write_slot-written.result _ c.write_slot-written.ensures.put c.slot_report.ensures.says
