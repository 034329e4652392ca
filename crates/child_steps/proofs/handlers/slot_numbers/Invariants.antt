use Rattle.std.proofs.Common.{◌≡◌, ◌+◌, decimal, map}
use Rattle.std.specs.List.{range_with_len}
use Rattle.child_steps.proofs.handlers.slot_numbers.Given as goal

abbrev pub invariant-loop-at : goal.invariant-loop-at
invariant-loop-at l = l.words.items ≡ map (λ at. decimal (at + 1)) (range_with_len 0 l.at)
