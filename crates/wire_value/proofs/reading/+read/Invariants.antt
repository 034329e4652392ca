use Rattle.std.proofs.Common.{◌≡◌, ℕ, ◌+◌, ◌*◌, ◌≤◌, ◌<◌, suc, length}
use Rattle.std.specs.Prelude.{map, option_map}
use Rattle.wire_value.specs.Plain.{Plains}
use Rattle.wire_value.specs.Reading.{At, items_at, fields_at, value_at}
use Rattle.wire_value.specs.Gives.{at}
use Rattle.wire_value.specs.View.{onto, view}
use Rattle.wire_value.proofs.reading.+read.Given as goal

abbrev pub decreases-value_of : goal.decreases-value_of
decreases-value_of l = 3 * l.depth

abbrev pub decreases-array_of : goal.decreases-array_of
decreases-array_of l = 3 * l.depth + 2

abbrev pub decreases-items_of : goal.decreases-items_of
decreases-items_of l = 3 * l.depth + 1

abbrev pub decreases-struct_of : goal.decreases-struct_of
decreases-struct_of l = 3 * l.depth + 2

abbrev pub decreases-fields_of : goal.decreases-fields_of
decreases-fields_of l = 3 * l.depth + 1

abbrev pub decreases-entry_of : goal.decreases-entry_of
decreases-entry_of l = 3 * l.depth + 2

abbrev pub decreases-variant_of : goal.decreases-variant_of
decreases-variant_of l = 3 * l.depth + 2

abbrev pub invariant-items_of-items : goal.invariant-items_of-items
invariant-items_of-items l =
    (g : ℕ) × (length l.rest.bytes.now ≤ g)
    × (option_map (onto (map view l.found.items)) (items_at (value_at l.depth l.little l.item) g (at l.rest)) ≡ items_at (value_at l.depth l.little l.item) (length l.place.bytes.now) (at l.place))

abbrev pub decreases-items_of-items : goal.decreases-items_of-items
decreases-items_of-items l = length l.rest.bytes.now

abbrev pub invariant-fields_of-fields : goal.invariant-fields_of-fields
invariant-fields_of-fields l =
    (g : ℕ) × (length l.types < g)
    × (option_map (λ (x : Plains × At). (onto (map view l.found.items) x.0, x.1)) (fields_at (value_at l.depth l.little) g l.types (at l.rest)) ≡ fields_at (value_at l.depth l.little) (suc (length l.fn.types)) l.fn.types (at l.place))

abbrev pub decreases-fields_of-fields : goal.decreases-fields_of-fields
decreases-fields_of-fields l = length l.types
