use Rattle.std.proofs.Common.{◌≡◌, ◌+◌, length, drop}
use Rattle.wire_value.specs.Plain.{sigs}
use Rattle.wire_value.specs.View.{views}
use Rattle.wire_value.proofs.sizes.+lengths.Given as goal

abbrev pub invariant-types_len-loop-value : goal.invariant-types_len-loop-value
invariant-types_len-loop-value l = l.len + length (sigs (views (drop l.value-index l.values))) ≡ length (sigs (views l.values))
