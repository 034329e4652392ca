use Rattle.std.proofs.Common.{◌∙◌, List, ap}
use Rattle.system_conf.specs.declared.slot.Slot.{Slot}
use Rattle.system_conf.specs.Reads.{system_configuration}
use Rattle.slot_writer.specs.Checks.{IsAbout}
use Rattle.slot_writer.specs.Slots.{device_at}
use Rattle.slot_writer.proofs.Naming.{about_passed}
use Rattle.slot_writer.proofs.Putting.{puts_unnoted, puts_written, room_noted}
use Rattle.slot_writer.proofs.write.write_noted.Goals as goal

pub write_whole-written-requires-clause-fits : goal.write_whole-written-requires-clause-fits
write_whole-written-requires-clause-fits g c =
    rw (c.device_at-device.ensures, c.as_slice.ensures)
    (room_noted _ (system_configuration c.args.system.now) c.args.note.now.text _ _ _ c.args.size c.in-Ok.ensures.steps.left c.requires.device)

pub returns-in-Ok-clause-put : goal.returns-in-Ok-clause-put
returns-in-Ok-clause-put g c =
    let device = c.device_at-device.ensures ∙ ap (λ (slots : List Slot). device_at slots c.args.slot) c.as_slice.ensures in
    rw c.whole_answer.ensures
    (puts_written _ (system_configuration c.args.system.now) c.args.image.now c.args.slot c.args.size _ _ c.args.note.now c.requires.note _ _ _ _ c.write_whole-written.result
    device c.requires.buffer c.in-Ok.ensures.steps c.write_whole-written.ensures.writes c.write_whole-written.ensures.ends c.write_whole-written.ensures.fails)

pub returns-in-Err-clause-put : goal.returns-in-Err-clause-put
returns-in-Err-clause-put g c =
    puts_unnoted _ (system_configuration c.args.system.now) c.args.image.now c.args.slot c.args.size _ _ c.args.note.now c.requires.note c.in-Err.stop c.in-Err.ensures.steps

pub returns-in-Err-clause-about : goal.returns-in-Err-clause-about
returns-in-Err-clause-about g c = about_passed c.in-Err.stop (IsAbout c.args.slot c.args.image.now) (c.in-Err.ensures.about c.args.slot c.args.image.now)
