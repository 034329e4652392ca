use Rattle.std.proofs.Common.{◌++◌, ◌∙◌, List, ap}
use Rattle.keyfile.specs.Groups.{Text}
use Rattle.system_conf.specs.Reads.{system_configuration}
use Rattle.install_facts.specs.Facts.{facts_content}
use Rattle.install_plan.specs.Acts.{alone_device}
use Rattle.install_plan.proofs.Shape.{places_more}
use Rattle.install_plan.proofs.children.push_put.Goals as goal

pub loop-at-preserved : goal.loop-at-preserved
loop-at-preserved c =
    let device = alone_device (system_configuration c.args.system.now) (facts_content c.args.facts.now) in
    c.in_ok-push_if_alone.ensures
    ∙ ap (λ (devices : List Text). devices ++ device c.loop-at.at) c.loop-at.invariant
    ∙ places_more device c.args.devices.now c.loop-at.at
