use Rattle.std.proofs.Common.{◌≡◌, ◌++◌, drop}
use Rattle.std.specs.List.{enumerate_from, flat_map}
use Rattle.child_steps.specs.Hooks.{numbered_vars}
use Rattle.child_steps.proofs.handlers.push_slots.Given as goal

-- what is put and what is left make the whole
abbrev pub invariant-loop-at : goal.invariant-loop-at
invariant-loop-at l = l.env ++ flat_map (numbered_vars l.slots) (enumerate_from l.at (drop l.at l.slots)) ≡ l.initial.env ++ flat_map (numbered_vars l.slots) (enumerate_from 0 l.slots)
