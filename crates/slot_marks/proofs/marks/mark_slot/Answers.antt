use Rattle.std.proofs.Common.{None, refl}
use Rattle.system_conf.specs.Reads.{system_configuration}
use Rattle.slot_marks.proofs.Joining.{marks_done, marks_nothing, marks_stopped}
use Rattle.slot_marks.proofs.SlotsNamed.{bootname_listed, stopped_there}
use Rattle.slot_marks.proofs.marks.mark_slot.Goals as goal

pub returns-in-Err-clause-marks : goal.returns-in-Err-clause-marks
returns-in-Err-clause-marks g c = marks_nothing _ (system_configuration c.args.system.now) c.args.action None c.args.at _

pub mark_name-requires : goal.mark_name-requires
mark_name-requires g c =
    rw (c.bootname_text.ensures, c.as_slice-slots.ensures) (bootname_listed c.args.system.now.slots c.args.at c.requires)

pub returns-in-Ok-mark_name-clause-marks : goal.returns-in-Ok-mark_name-clause-marks
returns-in-Ok-mark_name-clause-marks g c =
    marks_done _ (system_configuration c.args.system.now) c.args.action c.args.at _ _ _
    (rw (c.in-Ok.ensures, c.name_at.ensures, c.as_slice-slots.ensures) refl)
    (rw (c.bootname_text.ensures, c.as_slice-slots.ensures) at c.in-Ok-mark_name.ensures.marks)

pub returns-in-Err-mark_name-clause-marks : goal.returns-in-Err-mark_name-clause-marks
returns-in-Err-mark_name-clause-marks g c =
    rw c.boot_stop.ensures
    (marks_stopped _ (system_configuration c.args.system.now) c.args.action c.args.at _ _ c.in-Err-mark_name.stop (rw (c.bootname_text.ensures, c.as_slice-slots.ensures) at c.in-Err-mark_name.ensures.marks))

pub returns-in-Ok-mark_name-clause-named : goal.returns-in-Ok-mark_name-clause-named
returns-in-Ok-mark_name-clause-named g c = rw (c.in-Ok.ensures, c.name_at.ensures, c.as_slice-slots.ensures) refl

pub returns-in-Err-mark_name-clause-named : goal.returns-in-Err-mark_name-clause-named
returns-in-Err-mark_name-clause-named g c = rw c.boot_stop.ensures (stopped_there c.args.system.now.slots c.args.action c.args.at c.in-Err-mark_name.stop)
