use Rattle.boot_commands.specs.declared.command.Mark.TheVariants as mark
use Rattle.system_conf.specs.Reads.{system_configuration}
use Rattle.install_steps.proofs.NamesMarked.{marks_done, marks_stopped}
use Rattle.install_steps.proofs.marking.mark_root_bad.Goals as goal

pub returns-in-Ok-clause-marks : goal.returns-in-Ok-clause-marks
returns-in-Ok-clause-marks g c =
    marks_done _ (system_configuration c.args.system.now) mark.Bad c.bootname.result.now _ _ _ c.bootname.ensures c.in-Ok.ensures.leaves c.in-Ok.ensures.others c.in-Ok.ensures.leads c.in-Ok.ensures.causes c.in-Ok.ensures.fails

pub returns-in-Err-clause-marks : goal.returns-in-Err-clause-marks
returns-in-Err-clause-marks g c =
    marks_stopped _ (system_configuration c.args.system.now) mark.Bad c.bootname.result.now _ _ _ c.in-Err.stop c.boot_stop.result c.bootname.ensures c.boot_stop.ensures c.in-Err.ensures.others c.in-Err.ensures.leads c.in-Err.ensures.causes c.in-Err.ensures.fails
