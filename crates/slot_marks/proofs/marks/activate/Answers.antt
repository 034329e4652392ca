use Rattle.std.proofs.Common.{refl}
use Rattle.system_conf.specs.Reads.{system_configuration}
use Rattle.slot_marks.proofs.Joining.{acts_done, acts_refused, acts_stopped}
use Rattle.slot_marks.proofs.SlotsNamed.{bootname_listed}
use Rattle.slot_marks.proofs.marks.activate.Goals as goal

pub returns-in-Err-prepare-clause-marks : goal.returns-in-Err-prepare-clause-marks
returns-in-Err-prepare-clause-marks g c = acts_refused _ (system_configuration c.args.system.now) c.args.path.now c.args.at _ _ c.in-Err-prepare.stop c.in-Err-prepare.ensures.prepares

pub mark_and_put-requires : goal.mark_and_put-requires
mark_and_put-requires g c =
    rw (c.bootname_text-name.ensures, c.as_slice-slots.ensures) (bootname_listed c.args.system.now.slots c.args.at c.requires)

pub returns-in-Ok-mark_and_put-clause-marks : goal.returns-in-Ok-mark_and_put-clause-marks
returns-in-Ok-mark_and_put-clause-marks g c =
    acts_done _ (system_configuration c.args.system.now) c.args.path.now c.args.at _ _ _ c.in-Ok-prepare.noted c.in-Ok-prepare.ensures.prepares _
    (rw (c.in-Ok.ensures, c.name_at.ensures, c.as_slice-slots.ensures) refl)
    (rw (c.as_slice.ensures, c.bootname_text-name.ensures, c.as_slice-slots.ensures) at c.in-Ok-mark_and_put.ensures.marks)

pub returns-in-Err-mark_and_put-clause-marks : goal.returns-in-Err-mark_and_put-clause-marks
returns-in-Err-mark_and_put-clause-marks g c =
    acts_stopped _ (system_configuration c.args.system.now) c.args.path.now c.args.at _ _ _ c.in-Ok-prepare.noted c.in-Ok-prepare.ensures.prepares c.in-Err-mark_and_put.stop
    (rw (c.as_slice.ensures, c.bootname_text-name.ensures, c.as_slice-slots.ensures) at c.in-Err-mark_and_put.ensures.marks)
