use Rattle.std.proofs.Common.{◌∙◌, ap, sym, take_all}
use Rattle.conf_forms.specs.Lists.{first_of}
use Rattle.conf_forms.proofs.FirstOf.{item_of_hit, item_of_more}
use Rattle.manifest.specs.Refusals.{bad_digest, undigested}
use Rattle.manifest.proofs.images.bad_digest.Goals as goal

pub returns-in-Some : goal.returns-in-Some
unfolding bad_digest
returns-in-Some c =
    item_of_hit (undigested c.args.file.now) c.args.images.now c.loop-group.group-index c.group-item.result c.in-Some.why c.loop-group.invariant c.loop-group-test.true c.group-item.is (sym c.in-Some.is ∙ c.in_ok-why.ensures)
    ∙ ap (first_of (undigested c.args.file.now)) c.requires

pub loop-group-preserved : goal.loop-group-preserved
loop-group-preserved c = item_of_more (undigested c.args.file.now) c.args.images.now c.loop-group.group-index c.group-item.result c.loop-group.invariant c.loop-group-test.true c.group-item.is (sym c.in_default.is ∙ c.in_ok-why.ensures)

pub returns : goal.returns
unfolding bad_digest
returns c =
    sym (ap (first_of (undigested c.args.file.now)) (sym c.requires ∙ sym (take_all c.loop-group.group-index c.args.images.now c.loop-group-test.false)) ∙ c.loop-group.invariant)
