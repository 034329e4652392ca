use Rattle.std.proofs.Common.{◌≡◌, ◌++◌, ◌∙◌, List, ap, subst}
use Rattle.std.specs.Prelude.{IfOk}
use Rattle.keyfile.specs.Groups.{Text}
use Rattle.child_steps.specs.Hooks.{install_spares}
use Rattle.system_conf.specs.Reads.{system_configuration}
use Rattle.install_facts.specs.Facts.{facts_content}
use Rattle.install_plan.specs.Acts.{put_devices, skipped_devices}
use Rattle.install_plan.proofs.Shape.{onto}
use Rattle.install_plan.proofs.children.spares_at.Goals as goal

pub returns : goal.returns
returns c =
    let conf = system_configuration c.args.system.now in
    let facts = facts_content c.args.facts.now in
    let put = put_devices conf facts c.args.before in
    let skipped = skipped_devices conf facts in
    subst (λ (devices : List Text). IfOk c.install_spares.result (λ spares. spares ≡ install_spares conf devices))
    (onto c.in_ok-devices.devices put skipped c.in_ok-push_put.ensures c.in_ok-push_skipped.ensures
    ∙ ap (λ (devices : List Text). devices ++ (put ++ skipped)) c.in_ok-devices.ensures)
    c.install_spares.ensures
