use Rattle.std.proofs.Common.{List, [], ◌++◌, ◌∙◌, ap, sym}
use Rattle.std.specs.List.{cons_option}
use Rattle.keyfile.specs.Groups.{Text}
use Rattle.system_conf.proofs.Names.{names_more}
use Rattle.system_conf.proofs.system.System.boot_names.Goals as goal

pub loop-slot-preserved : goal.loop-slot-preserved
loop-slot-preserved c =
    c.in_ok-push_name.ensures ∙ ap (λ (names : List Text). names ++ cons_option c.slot-item.result.bootname []) c.loop-slot.invariant
    ∙ sym (names_more c.as_slice-slot-items.result.now c.loop-slot.slot-index c.slot-item.result c.loop-slot-test.true c.slot-item.is)
