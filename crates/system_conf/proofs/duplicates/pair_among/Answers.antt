use Rattle.std.proofs.Common.{Bool, cond, Option, Some, None, ◌∙◌, sym, ap}
use Rattle.keyfile.specs.Groups.{Text}
use Rattle.conf_forms.proofs.FirstOf.{item_of_hit, item_of_more}
use Rattle.system_conf.specs.Duplicates.{pair_if, test_for}
use Rattle.system_conf.proofs.duplicates.pair_among.Goals as goal

pub returns-then-is_alike : goal.returns-then-is_alike
returns-then-is_alike c =
    item_of_hit (pair_if (test_for c.args.shared) c.args.later.now) c.args.earlier.now c.loop-slot.slot-index c.slot-item.result (c.slot-item.result.name, c.args.later.now.name) c.loop-slot.invariant c.loop-slot-test.true c.slot-item.is
    (ap (λ (b : Bool). cond {A = Option (Text × Text)} b (Some (c.slot-item.result.name, c.args.later.now.name)) None) (sym c.if-is_alike.true ∙ c.is_alike.ensures))

pub loop-slot-preserved : goal.loop-slot-preserved
loop-slot-preserved c =
    item_of_more (pair_if (test_for c.args.shared) c.args.later.now) c.args.earlier.now c.loop-slot.slot-index c.slot-item.result c.loop-slot.invariant c.loop-slot-test.true c.slot-item.is
    (ap (λ (b : Bool). cond {A = Option (Text × Text)} b (Some (c.slot-item.result.name, c.args.later.now.name)) None) (sym c.if-is_alike.false ∙ c.is_alike.ensures))
