use Rattle.std.proofs.Common.{◌≡◌, ◌++◌, false, take}
use Rattle.std.specs.FinMap.{keys}
use Rattle.boot_state.specs.Orders.{has_word}
use Rattle.boot_state.proofs.variable.value_of.Given as goal

abbrev pub invariant-loop-at : goal.invariant-loop-at
invariant-loop-at l = has_word (take l.at (keys l.vars)) (l.front ++ (l.name ++ l.back)) ≡ false
