use Rattle.std.proofs.Common.{◌≡◌, drop}
use Rattle.wire_value.specs.Sizes.{end_all}
use Rattle.wire_value.specs.View.{views}
use Rattle.wire_value.proofs.sizes.+ends.Given as goal

abbrev pub invariant-end_of_all-loop-value : goal.invariant-end_of_all-loop-value
invariant-end_of_all-loop-value l = end_all l.offset (views (drop l.value-index l.values)) ≡ end_all l.fn.offset (views l.values)
