use Rattle.std.proofs.Common.{◌∙◌, sym, ap, take_all}
use Rattle.conf_forms.specs.Lists.{first_of}
use Rattle.system_conf.specs.Refusals.{no_parent, orphan}
use Rattle.conf_forms.specs.declared.slot_name.SlotGroup.{SlotGroup}
use Rattle.conf_forms.proofs.FirstOf.{first_of_more, first_of_hit}
use Rattle.conf_forms.proofs.SlotNames.{parts_at}
use Rattle.system_conf.proofs.SlotGroups.{first_of-groups}
use Rattle.system_conf.proofs.parents.no_parent.Goals as goal

pub orphan-requires : goal.orphan-requires
orphan-requires c = parts_at c.args.reader.now.file.now c.args.reader.now.slots.now c.args.reader.now.read c.loop-slot.slot-index _ c.loop-slot-test.true

pub returns-in-Some : goal.returns-in-Some
unfolding no_parent
returns-in-Some c =
    let f = λ (s : SlotGroup). orphan c.args.reader.now.file.now s.group.now in
    sym (first_of_hit f c.args.reader.now.slots.now c.loop-slot.slot-index _ c.in-Some.why c.loop-slot.invariant c.loop-slot-test.true (sym c.in_ok-why.ensures ∙ c.in-Some.is))
    ∙ first_of-groups (orphan c.args.reader.now.file.now) c.args.reader.now.file.now c.args.reader.now.slots.now c.args.reader.now.read

pub loop-slot-preserved : goal.loop-slot-preserved
loop-slot-preserved c =
    let f = λ (s : SlotGroup). orphan c.args.reader.now.file.now s.group.now in
    first_of_more f c.args.reader.now.slots.now c.loop-slot.slot-index _ c.loop-slot.invariant c.loop-slot-test.true (sym c.in_ok-why.ensures ∙ c.in_default.is)

pub returns : goal.returns
unfolding no_parent
returns c =
    let f = λ (s : SlotGroup). orphan c.args.reader.now.file.now s.group.now in
    sym (ap (first_of f) (sym (take_all c.loop-slot.slot-index c.args.reader.now.slots.now c.loop-slot-test.false)) ∙ c.loop-slot.invariant) ∙ first_of-groups (orphan c.args.reader.now.file.now) c.args.reader.now.file.now c.args.reader.now.slots.now c.args.reader.now.read
