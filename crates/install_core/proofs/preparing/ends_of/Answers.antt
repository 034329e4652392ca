use Rattle.std.proofs.Common.{◌∷◌, ◌++◌, [], List, arith, sym, ◌∙◌, ap}
use Rattle.std.proofs.lemmas.List.FromFn.{map-range_with_len_more}
use Rattle.install_facts.specs.Facts.{facts_content}
use Rattle.install_steps.specs.declared.running.JobEnd.{JobEnd}
use Rattle.install_core.specs.Preparing.{end_at}
use Rattle.install_core.proofs.preparing.ends_of.Goals as goal

pub loop-at-preserved : goal.loop-at-preserved
loop-at-preserved c =
    let f = facts_content c.args.facts.now in
    c.in_ok-push.ensures.ok
    ∙ ap (λ (e : JobEnd). c.loop-at.ends ++ e ∷ []) c.end_at.ensures
    ∙ ap (λ (es : List JobEnd). es ++ end_at f c.loop-at.at ∷ []) c.loop-at.invariant
    ∙ sym (map-range_with_len_more (end_at f) 0 c.loop-at.at c.loop-at.at (omega arith))
