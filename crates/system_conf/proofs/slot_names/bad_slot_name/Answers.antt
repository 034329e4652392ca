use Rattle.std.proofs.Common.{ℕ, ◌<◌, ◌∙◌, sym, subst}
use Rattle.system_conf.specs.Refusals.{bad_slot_name, bad_name_of}
use Rattle.conf_forms.proofs.FirstOf.{item_hit, item_more}
use Rattle.system_conf.proofs.slot_names.bad_slot_name.Goals as goal

pub returns-in-Some : goal.returns-in-Some
unfolding bad_slot_name
returns-in-Some c = item_hit bad_name_of c.args.file.now c.loop-at.at c.in-Some.why c.loop-at.invariant (sym c.in-Some.is ∙ c.in_ok-why.ensures)

pub loop-at-preserved : goal.loop-at-preserved
loop-at-preserved c =
    item_more bad_name_of c.args.file.now c.loop-at.at c.loop-at.invariant (sym c.in_default.is ∙ c.in_ok-why.ensures)
    (subst (λ (n : ℕ). c.loop-at.at < n) c.groups-at-end.ensures.count c.loop-at-test.true)
