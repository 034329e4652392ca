use Rattle.std.proofs.Common.{◌≡◌, filter, map, take}
use Rattle.std.specs.Prelude.{is_none}
use Rattle.keyfile.specs.Reading.{distinct}
use Rattle.slot_graph.proofs.target.root_classes.Given as goal

abbrev pub invariant-loop-slot : goal.invariant-loop-slot
invariant-loop-slot l = map (λ c. c.now) l.classes.items ≡ distinct (map (λ s. s.class) (filter (λ s. is_none s.parent) (take l.slot-index l.slots)))
