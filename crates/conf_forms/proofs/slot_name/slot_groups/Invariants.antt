use Rattle.std.proofs.Common.{◌≡◌, map, take}
use Rattle.conf_forms.specs.SlotNames.{parts, slot_parts}
use Rattle.conf_forms.proofs.slot_name.slot_groups.Given as goal

abbrev pub invariant-loop-at : goal.invariant-loop-at
invariant-loop-at l = map parts l.found.items ≡ slot_parts (take l.at l.file)
