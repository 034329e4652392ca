use Rattle.std.proofs.Common.{◌≡◌, map}
use Rattle.std.specs.List.{range_with_len}
use Rattle.slot_graph.specs.Booted.{state_of}
use Rattle.slot_graph.proofs.state.states.Given as goal

abbrev pub invariant-loop-at : goal.invariant-loop-at
invariant-loop-at l = l.states.items ≡ map (state_of l.slots l.booted) (range_with_len 0 l.at)
