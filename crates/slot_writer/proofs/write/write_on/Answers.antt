use Rattle.system_conf.specs.Reads.{system_configuration}
use Rattle.raw_writer.proofs.Checks.{checked_later}
use Rattle.slot_writer.proofs.Putting.{counted_later, puts_checked, puts_passed}
use Rattle.slot_writer.proofs.write.write_on.Goals as goal

pub write_checked-requires-clause-checked : goal.write_checked-requires-clause-checked
write_checked-requires-clause-checked g c =
    checked_later _ c.args.image.now _ c.in-Ok.size _ _ c.in-Ok.ensures.unchanged
    (rw (c.device_at-device.ensures, c.as_slice.ensures) at c.in-Ok.ensures.answers)

pub returns-in-Ok-clause-put : goal.returns-in-Ok-clause-put
returns-in-Ok-clause-put g c =
    puts_passed _ (system_configuration c.args.system.now) c.args.image.now c.args.slot c.in-Ok.size _ _ c.in-Ok.ensures.unchanged
    (rw (c.device_at-device.ensures, c.as_slice.ensures) at c.in-Ok.ensures.answers)
    _ c.write_checked.result c.in-Ok.ensures.fails c.write_checked.ensures.put

pub returns-in-Ok-clause-counts : goal.returns-in-Ok-clause-counts
returns-in-Ok-clause-counts g c =
    counted_later _ _ _ _ _ _ c.write_checked.result c.in-Ok.ensures.counts.0 c.in-Ok.ensures.counts.1 c.write_checked.ensures.counts

pub returns-in-Err-clause-put : goal.returns-in-Err-clause-put
returns-in-Err-clause-put g c =
    rw c.image_stop.ensures
    (puts_checked _ (system_configuration c.args.system.now) c.args.image.now c.args.slot _ _ c.in-Err.stop c.in-Err.ensures.unchanged
    (rw (c.device_at-device.ensures, c.as_slice.ensures) at c.in-Err.ensures.answers) c.in-Err.ensures.fails)
