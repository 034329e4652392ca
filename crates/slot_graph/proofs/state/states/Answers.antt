use Rattle.std.proofs.Common.{◌≡◌, ◌∙◌, ap, ap₂, arith, length, map, subst, sym, ◌++◌, [], ◌∷◌}
use Rattle.std.specs.List.{range_with_len}
use Rattle.slot_graph.specs.Booted.{AreStates, state_of, states_of}
use Rattle.slot_graph.proofs.StateLemmas.{are_states}
use Rattle.slot_graph.proofs.Ranges.{map_range-next}
use Rattle.slot_graph.proofs.state.states.Goals as goal

pub loop-at-preserved : goal.loop-at-preserved
loop-at-preserved c =
    c.in_ok-push.ensures.items
    ∙ ap₂ (λ states state. states ++ state ∷ []) c.loop-at.invariant c.state_of.ensures
    ∙ sym (map_range-next (state_of c.as_slice-slots.result.now c.args.booted) c.loop-at.at)

pub returns-clause-values : goal.returns-clause-values
returns-clause-values c =
    let end : c.loop-at.at ≡ length c.as_slice-slots.result.now = omega (arith, c.loop-at-test.false, c.loop-at.auto.at-end) in
    c.loop-at.invariant
    ∙ ap (λ n. map (state_of c.as_slice-slots.result.now c.args.booted) (range_with_len 0 n)) end
    ∙ ap (λ slots. states_of slots c.args.booted) c.as_slice-slots.ensures

pub returns-clause-each : goal.returns-clause-each
returns-clause-each c =
    let s = c.args.system.now in
    subst (AreStates s.slots c.args.booted) (sym (returns-clause-values c))
    (are_states s.slots s.sound.slots c.args.booted)
