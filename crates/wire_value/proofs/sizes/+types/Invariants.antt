use Rattle.std.proofs.Common.{◌≡◌, ◌++◌, drop}
use Rattle.wire_value.specs.Plain.{sigs}
use Rattle.wire_value.specs.View.{views}
use Rattle.wire_value.proofs.sizes.+types.Given as goal

abbrev pub invariant-put_types-loop-value : goal.invariant-put_types-loop-value
invariant-put_types-loop-value l = l.out.items ++ sigs (views (drop l.value-index l.values)) ≡ l.initial.out.items ++ sigs (views l.values)
