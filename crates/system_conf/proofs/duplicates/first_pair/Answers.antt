use Rattle.std.proofs.Common.{◌∙◌, sym, ap}
use Rattle.std.specs.Prelude.{option_map}
use Rattle.std.specs.List.{enumerate_from}
use Rattle.conf_forms.specs.Lists.{first_of}
use Rattle.system_conf.specs.Duplicates.{pair_with, test_for}
use Rattle.conf_forms.proofs.FirstOf.{item_hit, item_more}
use Rattle.conf_forms.proofs.Numbered.{numbered_at, numbered_within, numbered_all}
use Rattle.system_conf.proofs.duplicates.first_pair.Goals as goal

pub returns-in-Some : goal.returns-in-Some
returns-in-Some c =
    let f = pair_with (test_for c.args.shared) c.args.slots.now in
    item_hit f (enumerate_from 0 c.args.slots.now) c.loop-at.at _ c.loop-at.invariant
    (ap (option_map (λ p. (p.0.now, p.1.now))) (sym c.in-Some.is) ∙ c.pair_at.ensures ∙ numbered_at f c.args.slots.now c.loop-at.at)

pub loop-at-preserved : goal.loop-at-preserved
loop-at-preserved c =
    let f = pair_with (test_for c.args.shared) c.args.slots.now in
    item_more f (enumerate_from 0 c.args.slots.now) c.loop-at.at c.loop-at.invariant
    (ap (option_map (λ p. (p.0.now, p.1.now))) (sym c.in_default.is) ∙ c.pair_at.ensures ∙ numbered_at f c.args.slots.now c.loop-at.at)
    (numbered_within c.args.slots.now c.loop-at.at c.loop-at-test.true)

pub returns : goal.returns
returns c =
    let f = pair_with (test_for c.args.shared) c.args.slots.now in
    sym (ap (first_of f) (sym (numbered_all c.args.slots.now c.loop-at.at c.loop-at-test.false)) ∙ c.loop-at.invariant)
