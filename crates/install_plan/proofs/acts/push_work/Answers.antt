use Rattle.std.proofs.Common.{◌≡◌, ◌++◌, [], ◌∷◌, List, refl, subst}
use Rattle.std.specs.Prelude.{OnOk}
use Rattle.child_steps.specs.declared.hooks.HookKind.TheVariants as hook
use Rattle.system_conf.specs.Reads.{system_configuration}
use Rattle.install_facts.specs.Facts.{facts_content}
use Rattle.install_plan.specs.Acts.{hook_acts, index_acts, put_acts, settle_acts}
use Rattle.install_plan.specs.Works.{work_content}
use Rattle.install_plan.specs.declared.step.Act.{Act}
use Rattle.install_plan.specs.declared.step.Act.TheVariants.{Do}
use Rattle.install_plan.specs.declared.step.Step.TheVariants as step
use Rattle.install_plan.proofs.Shape.{onto, seven}
use Rattle.install_plan.proofs.acts.push_work.Goals as goal

pub returns : goal.returns
returns c =
    let conf = system_configuration c.args.system.now in
    let facts = facts_content c.args.facts.now in
    let work = work_content c.args.work.now in
    let begin : List Act = Do (step.Begin work.job.slot) ∷ [] in
    let pre = hook_acts conf facts work hook.Pre work.image.pre in
    let install = hook_acts conf facts work hook.Install work.image.install in
    let put = put_acts conf work in
    let post = hook_acts conf facts work hook.Post work.image.post in
    let settle = settle_acts work in
    let index = index_acts conf work in
    let done : List Act = Do (step.Done work.at) ∷ [] in
    subst (λ (xs : List Act). OnOk c.push_step-2.result (c.push_step-2.new.acts ≡ xs))
    (onto c.args.acts.now begin (pre ++ (install ++ (put ++ (post ++ (settle ++ (index ++ done)))))) c.in_ok-push_step.ensures
    (seven c.push_step.new.acts pre install put post settle index done
    c.in_ok-push_hook.ensures c.in_ok-push_hook-2.ensures c.in_ok-push_put.ensures c.in_ok-push_hook-3.ensures
    c.in_ok-push_settle.ensures c.in_ok-push_index.ensures refl))
    c.push_step-2.ensures
