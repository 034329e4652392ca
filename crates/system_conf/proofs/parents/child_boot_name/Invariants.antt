use Rattle.std.proofs.Common.{◌≡◌, take, None}
use Rattle.conf_forms.specs.Lists.{first_of}
use Rattle.system_conf.specs.Refusals.{bootable_child}
use Rattle.system_conf.proofs.parents.child_boot_name.Given as goal

abbrev pub invariant-loop-slot : goal.invariant-loop-slot
invariant-loop-slot l = first_of bootable_child (take l.slot-index l.slots) ≡ None
