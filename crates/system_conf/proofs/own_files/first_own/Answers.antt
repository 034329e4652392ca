use Rattle.std.proofs.Common.{Bool, cond, Some, None, ◌∙◌, sym, ap}
use Rattle.conf_forms.proofs.FirstOf.{item_of_hit, item_of_more}
use Rattle.system_conf.specs.OwnFiles.{is_own, own_device, own_files_of}
use Rattle.system_conf.proofs.own_files.first_own.Goals as goal

pub returns-then-is_own : goal.returns-then-is_own
returns-then-is_own c =
    let own = own_files_of c.args.file.now in
    item_of_hit (own_device own) c.args.slots.now c.loop-slot.slot-index c.slot-item.result c.slot-item.result.name c.loop-slot.invariant c.loop-slot-test.true c.slot-item.is
    (ap (λ (b : Bool). cond b (Some c.slot-item.result.name) None) (sym c.if-is_own.true ∙ c.is_own.ensures ∙ ap (is_own own) c.as_str.ensures))

pub loop-slot-preserved : goal.loop-slot-preserved
loop-slot-preserved c =
    let own = own_files_of c.args.file.now in
    item_of_more (own_device own) c.args.slots.now c.loop-slot.slot-index c.slot-item.result c.loop-slot.invariant c.loop-slot-test.true c.slot-item.is
    (ap (λ (b : Bool). cond b (Some c.slot-item.result.name) None) (sym c.if-is_own.false ∙ c.is_own.ensures ∙ ap (is_own own) c.as_str.ensures))
