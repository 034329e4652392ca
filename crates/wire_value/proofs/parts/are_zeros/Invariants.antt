use Rattle.std.proofs.Common.{◌≡◌, drop, eqb}
use Rattle.std.specs.List.{list_all}
use Rattle.wire_value.proofs.parts.are_zeros.Given as goal

abbrev pub invariant-loop-b : goal.invariant-loop-b
invariant-loop-b l = list_all (λ b. eqb b 0) (drop l.b-index l.bytes) ≡ list_all (λ b. eqb b 0) l.bytes
