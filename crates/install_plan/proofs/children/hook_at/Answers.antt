use Rattle.install_plan.proofs.children.hook_at.Goals as goal

pub returns : goal.returns
returns c =
    rw (c.in_ok-context.ensures.manifest, c.in_ok-context.ensures.job, c.in_ok-context.ensures.spares) at c.slot_hook.ensures
