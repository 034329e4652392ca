use Rattle.slot_marks.specs.Choice.{meant}
use Rattle.slot_marks.specs.Noting.{noted_by}
use Rattle.system_conf.specs.Reads.{system_configuration}
use Rattle.slot_marks.proofs.Joining.{marks_after, marks_refused}
use Rattle.slot_marks.proofs.SlotsNamed.{chosen_named, named_by, refused_by}
use Rattle.slot_marks.proofs.marks.mark.Goals as goal

pub mark_at-requires : goal.mark_at-requires
mark_at-requires g c =
    let named = c.in-Ok.ensures.named in
    chosen_named c.args.system.now.slots (meant c.args.system.now.slots named.0 c.args.who.now) c.in-Ok.at named.1

pub returns-in-Ok-clause-marks : goal.returns-in-Ok-clause-marks
returns-in-Ok-clause-marks g c =
    marks_after _ (system_configuration c.args.system.now) c.args.action (noted_by (system_configuration c.args.system.now) c.args.action) _ c.in-Ok.at _ _ _ c.mark_at.result c.in-Ok.ensures.chooses c.mark_at.ensures.marks

pub returns-in-Err-clause-marks : goal.returns-in-Err-clause-marks
returns-in-Err-clause-marks g c = marks_refused _ (system_configuration c.args.system.now) c.args.action (noted_by (system_configuration c.args.system.now) c.args.action) _ _ _ c.in-Err.stop c.in-Err.ensures.chooses

pub returns-in-Ok-clause-named : goal.returns-in-Ok-clause-named
returns-in-Ok-clause-named g c = named_by c.args.system.now.slots c.args.action c.args.who.now c.in-Ok.at c.mark_at.result c.in-Ok.ensures.named c.mark_at.ensures.named

pub returns-in-Err-clause-named : goal.returns-in-Err-clause-named
returns-in-Err-clause-named g c = refused_by c.args.system.now.slots c.args.action c.args.who.now c.in-Err.stop c.in-Err.ensures.named
