use Rattle.std.proofs.Common.{ℕ, ◌+◌, ap, sym, ◌∙◌, arith, rules}
use Rattle.wire_value.specs.declared.value.Value.{Value, the_lemmas}
use Rattle.wire_value.specs.Plain.{entry}
use Rattle.wire_value.specs.Sizes.{ends}
use Rattle.wire_value.specs.View.{view}
use Rattle.wire_value.proofs.Views.{next_ends, key_ends, view_pair}
use Rattle.wire_value.proofs.sizes.+ends.Goals as goal

pub end_of_all-end_of-offset-requires : goal.end_of_all-end_of-offset-requires
end_of_all-end_of-offset-requires t c =
    (search (rules, the_lemmas), omega (arith, next_ends c.args.values.now c.loop-value.value-index c.loop-value.offset c.value-item.result c.loop-value-test.true c.value-item.is, c.loop-value.invariant, c.requires))

pub end_of-end_of-requires : goal.end_of-end_of-requires
end_of-end_of-requires t c =
    let whole = ap view c.in-Pair.is ∙ view_pair c.in-Pair.key c.in-Pair.value ∙ ap (λ (x : Value). entry (view x) (view c.in-Pair.value.value)) (sym c.deref-in-Pair-2.ensures) in
    (search (rules, the_lemmas), omega (arith, key_ends c.args.offset (view c.args.value.now) (view c.deref-in-Pair-2.result.now) (view c.in-Pair.value.value) whole, c.requires, ap (λ (g : ℕ). ends (c.args.offset + g) (view c.deref-in-Pair-2.result.now)) c.gap_before-in-Pair.ensures.is))
