use Rattle.std.proofs.Common.{codes, sym, ◌∙◌, ap, take_all}
use Rattle.std.specs.Prelude.{option_map}
use Rattle.conf_forms.specs.Lists.{first_of}
use Rattle.conf_forms.specs.Walks.{missing_key, place_texts}
use Rattle.conf_forms.specs.declared.slot_name.SlotGroup.{SlotGroup}
use Rattle.conf_forms.proofs.FirstOf.{first_of_hit, first_of_more}
use Rattle.system_conf.proofs.DeviceKeys.{first_of-device_keys}
use Rattle.system_conf.proofs.mandatory.missing_device.Goals as goal

pub returns-in-Some : goal.returns-in-Some
returns-in-Some c =
    let file = c.args.reader.now.file.now in
    let slots = c.args.reader.now.slots.now in
    let f = λ (s : SlotGroup). missing_key file (s.group.now, codes "device") in
    sym (first_of_hit f slots c.loop-slot.slot-index _ (place_texts c.in-Some.place) c.loop-slot.invariant c.loop-slot-test.true (sym c.missing_key.ensures ∙ ap (option_map place_texts) c.in-Some.is))
    ∙ first_of-device_keys file slots c.args.reader.now.read

pub loop-slot-preserved : goal.loop-slot-preserved
loop-slot-preserved c =
    let f = λ (s : SlotGroup). missing_key c.args.reader.now.file.now (s.group.now, codes "device") in
    first_of_more f c.args.reader.now.slots.now c.loop-slot.slot-index _ c.loop-slot.invariant c.loop-slot-test.true (sym c.missing_key.ensures ∙ ap (option_map place_texts) c.in_default.is)

pub returns : goal.returns
returns c =
    let file = c.args.reader.now.file.now in
    let slots = c.args.reader.now.slots.now in
    let f = λ (s : SlotGroup). missing_key file (s.group.now, codes "device") in
    sym (ap (first_of f) (sym (take_all c.loop-slot.slot-index slots c.loop-slot-test.false)) ∙ c.loop-slot.invariant) ∙ first_of-device_keys file slots c.args.reader.now.read
