use Rattle.std.proofs.Common.{◌≡◌, ◌+◌, ◌*◌, ◌-◌}
use Rattle.wire_value.specs.Reading.{type_at, types_until}
use Rattle.wire_value.proofs.types.+rest.Given as goal

abbrev pub decreases-type_rest : goal.decreases-type_rest
decreases-type_rest l = 2 * (l.arrays + l.structs)

abbrev pub decreases-types_rest : goal.decreases-types_rest
decreases-types_rest l = 2 * (l.arrays + l.structs) + 1

abbrev pub invariant-types_rest-loop : goal.invariant-types_rest-loop
invariant-types_rest-loop l = types_until (type_at (l.arrays + l.structs) l.arrays l.structs) (l.most - l.counter) l.types ≡ types_until (type_at (l.arrays + l.structs) l.arrays l.structs) l.most l.fn.types

abbrev pub decreases-item_rest : goal.decreases-item_rest
decreases-item_rest l = 2 * (l.arrays + l.structs) + 1
