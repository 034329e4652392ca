use Rattle.std.proofs.Common.{◌≡◌, ◌+◌, ◌*◌, ◌≤◌, ◌^◌, drop}
use Rattle.wire_value.specs.Checking.{checked_items, checked_fields}
use Rattle.wire_value.specs.View.{views}
use Rattle.wire_value.proofs.checking.+check.Given as goal

abbrev pub invariant-check_items-loop-value : goal.invariant-check_items-loop-value
invariant-check_items-loop-value l =
    (checked_items l.limit l.depth l.item l.offset (views (drop l.value-index l.items)) ≡ checked_items l.limit l.depth l.item l.fn.offset (views l.items)) × (l.offset + 300 * l.depth ≤ 2 ^ 50)

abbrev pub invariant-check_fields-loop-value : goal.invariant-check_fields-loop-value
invariant-check_fields-loop-value l =
    (checked_fields l.limit l.depth l.types l.offset (views (drop l.value-index l.fields)) ≡ checked_fields l.limit l.depth l.fn.types l.fn.offset (views l.fields)) × (l.offset + 300 * l.depth ≤ 2 ^ 50)
