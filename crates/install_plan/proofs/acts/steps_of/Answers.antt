use Rattle.std.proofs.Common.{◌++◌, ◌∙◌, [], ◌∷◌, List, ap, sym}
use Rattle.install_plan.specs.Acts.{steps_in}
use Rattle.install_plan.specs.declared.step.Step.{Step}
use Rattle.install_plan.proofs.Shape.{steps_more}
use Rattle.install_plan.proofs.acts.steps_of.Goals as goal

pub loop-act-preserved : goal.loop-act-preserved
loop-act-preserved c =
    let next = c.in-Some.act ∷ [] in
    c.in_ok-push_if_step.ensures
    ∙ ap (λ (steps : List Step). steps ++ steps_in next) c.loop-act.invariant
    ∙ sym (steps_more c.loop-act.yielded next)
