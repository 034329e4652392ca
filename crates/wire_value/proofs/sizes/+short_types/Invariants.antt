use Rattle.std.proofs.Common.{◌≡◌, ◌++◌, drop}
use Rattle.wire_value.specs.Plain.{sigs}
use Rattle.wire_value.specs.View.{views}
use Rattle.wire_value.proofs.sizes.+short_types.Given as goal

abbrev pub invariant-put_types_in-loop-value : goal.invariant-put_types_in-loop-value
invariant-put_types_in-loop-value l = l.out.items ++ sigs (views (drop l.value-index l.values)) ≡ l.initial.out.items ++ sigs (views l.values)
