use Rattle.std.proofs.Common.{◌≡◌, ◌∙◌, ◌++◌, ◌∷◌, [], ◌+◌, ap, ap₂, arith, codes, decimal, map, sym}
use Rattle.std.proofs.lemmas.List.FromFn.{map-range_with_len_more}
use Rattle.std.specs.List.{join_by, range_with_len}
use Rattle.child_steps.specs.Hooks.{numbers}
use Rattle.child_steps.proofs.Words.{joined_numbers}
use Rattle.child_steps.proofs.handlers.slot_numbers.Goals as goal

pub loop-at-preserved : goal.loop-at-preserved
loop-at-preserved c =
    c.in_ok-push.ensures.items
    ∙ ap₂ (λ words word. words ++ word ∷ []) c.loop-at.invariant c.in_ok-number.ensures
    ∙ sym (map-range_with_len_more (λ at. decimal (at + 1)) 0 c.loop-at.at c.loop-at.at (omega arith))

pub returns : goal.returns
returns c =
    let end : c.loop-at.at ≡ c.args.count = omega (arith, c.loop-at-test.false, c.loop-at.auto.at-end) in
    rw (← end, ← joined_numbers (range_with_len 0 c.loop-at.at), ← c.loop-at.invariant, ← c.as_slice.ensures.value) c.joined.ensures
