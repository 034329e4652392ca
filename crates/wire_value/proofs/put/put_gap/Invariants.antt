use Rattle.std.proofs.Common.{◌≡◌, ◌++◌}
use Rattle.wire_value.specs.Spelling.{zeros}
use Rattle.wire_value.proofs.put.put_gap.Given as goal

abbrev pub invariant-loop : goal.invariant-loop
invariant-loop l = l.out.items ≡ l.initial.out.items ++ zeros l.counter
