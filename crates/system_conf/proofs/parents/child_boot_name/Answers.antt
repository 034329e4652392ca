use Rattle.std.proofs.Common.{◌∙◌, sym}
use Rattle.system_conf.specs.Refusals.{bootable_child, child_boot_name}
use Rattle.conf_forms.proofs.FirstOf.{item_of_hit, item_of_more}
use Rattle.system_conf.proofs.parents.child_boot_name.Goals as goal

pub returns-in-Some : goal.returns-in-Some
unfolding child_boot_name
returns-in-Some c = item_of_hit (bootable_child) c.args.slots.now c.loop-slot.slot-index c.slot-item.result c.in-Some.why c.loop-slot.invariant c.loop-slot-test.true c.slot-item.is (sym c.in-Some.is ∙ c.in_ok-why.ensures)

pub loop-slot-preserved : goal.loop-slot-preserved
loop-slot-preserved c = item_of_more (bootable_child) c.args.slots.now c.loop-slot.slot-index c.slot-item.result c.loop-slot.invariant c.loop-slot-test.true c.slot-item.is (sym c.in_default.is ∙ c.in_ok-why.ensures)
