use Rattle.std.proofs.Common.{ℕ, ◌<◌, ◌∙◌, sym, subst}
use Rattle.manifest.specs.Refusals.{bad_name, misnamed}
use Rattle.conf_forms.proofs.FirstOf.{item_hit, item_more}
use Rattle.manifest.proofs.file_names.bad_name.Goals as goal

pub returns-in-Some : goal.returns-in-Some
unfolding bad_name
returns-in-Some c = item_hit (misnamed c.args.file.now) c.args.file.now c.loop-at.at c.in-Some.why c.loop-at.invariant (sym c.in-Some.is ∙ c.in_ok-why.ensures)

pub loop-at-preserved : goal.loop-at-preserved
loop-at-preserved c =
    item_more (misnamed c.args.file.now) c.args.file.now c.loop-at.at c.loop-at.invariant (sym c.in_default.is ∙ c.in_ok-why.ensures)
    (subst (λ (n : ℕ). c.loop-at.at < n) c.groups-at-end.ensures.count c.loop-at-test.true)
