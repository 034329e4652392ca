use Rattle.std.proofs.Common.{◌≡◌, ◌-◌, length}
use Rattle.wire_value.specs.Reading.{are_types}
use Rattle.wire_value.proofs.types.are_types.Given as goal

abbrev pub invariant-loop : goal.invariant-loop
invariant-loop l = are_types (length l.text - l.counter) l.types ≡ are_types (length l.text) l.text
