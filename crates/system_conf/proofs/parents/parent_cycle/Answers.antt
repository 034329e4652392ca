use Rattle.std.proofs.Common.{◌∙◌, sym, ap}
use Rattle.std.specs.List.{enumerate_from}
use Rattle.conf_forms.specs.Lists.{first_of}
use Rattle.system_conf.specs.Refusals.{endless, parent_cycle}
use Rattle.conf_forms.proofs.FirstOf.{item_hit, item_more}
use Rattle.conf_forms.proofs.Numbered.{numbered_at, numbered_within, numbered_all}
use Rattle.system_conf.proofs.parents.parent_cycle.Goals as goal

pub returns-in-Some : goal.returns-in-Some
unfolding parent_cycle
returns-in-Some c =
    item_hit (endless c.args.slots.now) (enumerate_from 0 c.args.slots.now) c.loop-at.at c.in-Some.why c.loop-at.invariant
    (sym c.in-Some.is ∙ c.in_ok-why.ensures ∙ numbered_at (endless c.args.slots.now) c.args.slots.now c.loop-at.at)

pub loop-at-preserved : goal.loop-at-preserved
loop-at-preserved c =
    item_more (endless c.args.slots.now) (enumerate_from 0 c.args.slots.now) c.loop-at.at c.loop-at.invariant
    (sym c.in_default.is ∙ c.in_ok-why.ensures ∙ numbered_at (endless c.args.slots.now) c.args.slots.now c.loop-at.at)
    (numbered_within c.args.slots.now c.loop-at.at c.loop-at-test.true)

pub returns : goal.returns
unfolding parent_cycle
returns c =
    sym (ap (first_of (endless c.args.slots.now)) (sym (numbered_all c.args.slots.now c.loop-at.at c.loop-at-test.false)) ∙ c.loop-at.invariant)
