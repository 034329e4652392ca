use Rattle.machine.specs.declared.stops.Fault.TheVariants as fault
use Rattle.machine.specs.declared.stops.Stop.TheVariants.{NoMemory, Outside}
use Rattle.system_conf.specs.Reads.{system_configuration}
use Rattle.raw_writer.proofs.Checks.{length_checked, room_checked}
use Rattle.slot_writer.proofs.Putting.{counted_later, note_later, puts_prepared, puts_stop}
use Rattle.slot_writer.proofs.write.write_checked.Goals as goal

pub write_noted-requires-clause-image : goal.write_noted-requires-clause-image
write_noted-requires-clause-image g c =
    length_checked _ c.args.image.now _ c.args.size _ _ c.in-Ok-prepare.ensures.unchanged c.requires.checked

pub write_noted-requires-clause-device : goal.write_noted-requires-clause-device
write_noted-requires-clause-device g c =
    room_checked _ c.args.image.now _ c.args.size _ _ c.in-Ok-prepare.ensures.unchanged c.requires.checked

pub write_noted-requires-clause-note : goal.write_noted-requires-clause-note
write_noted-requires-clause-note g c =
    note_later _ (system_configuration c.args.system.now) c.args.slot _ _ c.in-Ok-prepare.note c.in-Ok-prepare.ensures.unchanged c.in-Ok-prepare.ensures.note

pub returns-in-Ok-prepare-clause-put : goal.returns-in-Ok-prepare-clause-put
returns-in-Ok-prepare-clause-put g c =
    puts_prepared _ (system_configuration c.args.system.now) c.args.image.now c.args.slot c.args.size _ _ _ c.write_noted.result c.in-Ok-prepare.ensures.unchanged c.in-Ok-prepare.ensures.fails c.write_noted.ensures.put

pub returns-in-Ok-prepare-clause-counts : goal.returns-in-Ok-prepare-clause-counts
returns-in-Ok-prepare-clause-counts g c =
    counted_later _ _ _ _ _ _ c.write_noted.result c.in-Ok-prepare.ensures.counts.0 c.in-Ok-prepare.ensures.counts.1 c.write_noted.ensures.counts

pub returns-in-Err-Failed-clause-put : goal.returns-in-Err-Failed-clause-put
returns-in-Err-Failed-clause-put g c =
    puts_stop _ (system_configuration c.args.system.now) c.args.image.now _ _ _ (Outside fault.Read) c.in-Err-Failed.ensures.unchanged (λ told. tt)
    (rw c.in-Err-Failed.field-0-is at c.in-Err-Failed.ensures.fails)

pub returns-clause-put : goal.returns-clause-put
returns-clause-put g c =
    puts_stop _ (system_configuration c.args.system.now) c.args.image.now _ _ _ NoMemory c.in-Err-NoMemory.ensures.unchanged (λ told. tt)
    (rw c.in-Err-NoMemory.field-0-is at c.in-Err-NoMemory.ensures.fails)
