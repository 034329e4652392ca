use Rattle.std.proofs.Common.{◌≡◌, ◌++◌, drop}
use Rattle.std.specs.List.{enumerate_from, flat_map}
use Rattle.system_conf.specs.Reads.{system_configuration}
use Rattle.status_report.specs.Texts.{slot_lines}
use Rattle.status_report.proofs.readable.write_slots.Given as goal

-- what is written and what is left make the whole, and the places count the slots
abbrev pub invariant-loop-slot : goal.invariant-loop-slot
invariant-loop-slot l = record {
  whole : l.out.items ++ flat_map (slot_lines (system_configuration l.system) l.view l.detailed) (enumerate_from l.at (drop l.slot-index l.slots)) ≡ l.initial.out.items ++ flat_map (slot_lines (system_configuration l.system) l.view l.detailed) (enumerate_from 0 l.slots);
  at : l.at ≡ l.slot-index;
}
