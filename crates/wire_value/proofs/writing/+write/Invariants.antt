use Rattle.std.proofs.Common.{◌≡◌, ◌++◌, length, drop}
use Rattle.wire_value.specs.Spelling.{spells}
use Rattle.wire_value.specs.Sizes.{Each}
use Rattle.wire_value.specs.View.{views}
use Rattle.wire_value.proofs.writing.+write.Given as goal

abbrev pub invariant-put_all-loop-value : goal.invariant-put_all-loop-value
invariant-put_all-loop-value l =
    (l.out.items ++ spells l.little (length l.out.items) (views (drop l.value-index l.values)) ≡ l.initial.out.items ++ spells l.little (length l.initial.out.items) (views l.values))
    × Each l.little (length l.out.items) (views (drop l.value-index l.values))
