use Rattle.std.proofs.Common.{◌∙◌, ap, subst, sym}
use Rattle.system_conf.specs.Parents.{IsRootOf}
use Rattle.system_conf.specs.Slots.{root_over}
use Rattle.system_conf.proofs.Rootless.{root_over_root}
use Rattle.slot_graph.proofs.roots.root_of.Goals as goal

pub returns-clause-root : goal.returns-clause-root
returns-clause-root c =
    let s = c.args.system.now in
    subst (IsRootOf s.slots c.args.slot) (sym (c.root_of.ensures.over ∙ ap (λ slots. root_over slots c.args.slot) c.as_slice.ensures))
    (root_over_root s.slots c.args.slot s.sound.slots c.requires)
