use Rattle.system_conf.specs.Reads.{system_configuration}
use Rattle.slot_marks.proofs.FilesPut.{marks_put, marks_unput}
use Rattle.slot_marks.proofs.noting.mark_and_put.Goals as goal

pub returns-in-Ok-clause-marks : goal.returns-in-Ok-clause-marks
returns-in-Ok-clause-marks g c =
    marks_put (system_configuration c.args.system.now) c.args.name.now c.args.path.now c.args.text.now _ _ _ _ c.put_text.result c.in-Ok.ensures.marks c.put_text.ensures.replaces c.put_text.ensures.put c.put_text.ensures.refuses c.put_text.ensures.fails

pub returns-in-Err-clause-marks : goal.returns-in-Err-clause-marks
returns-in-Err-clause-marks g c =
    rw c.boot_stop.ensures (marks_unput (system_configuration c.args.system.now) c.args.name.now c.args.path.now c.args.text.now _ _ _ c.in-Err.stop c.in-Err.ensures.marks)
