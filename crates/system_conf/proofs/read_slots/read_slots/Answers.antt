use Rattle.std.proofs.Common.{map, take_all, ◌∙◌, ap}
use Rattle.system_conf.specs.Slots.{slot_of}
use Rattle.conf_forms.specs.declared.slot_name.SlotGroup.{SlotGroup}
use Rattle.conf_forms.proofs.SlotNames.{parts_at}
use Rattle.system_conf.proofs.SlotGroups.{slots_read}
use Rattle.system_conf.proofs.read_slots.read_slots.Goals as goal

pub read_slot-requires : goal.read_slot-requires
read_slot-requires c = parts_at c.args.reader.now.file.now c.args.reader.now.slots.now c.args.reader.now.read c.loop-group.group-index _ c.loop-group-test.true

pub returns : goal.returns
returns c =
    c.loop-group.invariant ∙ ap (map (λ (s : SlotGroup). slot_of c.args.reader.now.file.now s.group.now)) (take_all c.loop-group.group-index c.args.reader.now.slots.now c.loop-group-test.false)
    ∙ slots_read c.args.reader.now.file.now c.args.reader.now.slots.now c.args.reader.now.read
