use Rattle.std.proofs.Common.{◌≡◌, ◌++◌, ◌∙◌, List, ap, arith, length}
use Rattle.system_conf.specs.Reads.{system_configuration}
use Rattle.install_facts.specs.Facts.{facts_content}
use Rattle.install_plan.specs.Acts.{job_acts}
use Rattle.install_plan.specs.declared.step.Act.{Act}
use Rattle.install_plan.proofs.Shape.{places_more}
use Rattle.install_plan.proofs.acts.push_jobs.Goals as goal

pub loop-at-preserved : goal.loop-at-preserved
loop-at-preserved c =
    let job = job_acts (system_configuration c.args.system.now) (facts_content c.args.facts.now) in
    c.in_ok-push_job.ensures
    ∙ ap (λ (acts : List Act). acts ++ job c.loop-at.at) c.loop-at.invariant
    ∙ places_more job c.args.acts.now c.loop-at.at

pub returns : goal.returns
returns c =
    let end : c.loop-at.at ≡ length c.as_slice-at-end.result.now = omega (arith, c.loop-at-test.false, c.loop-at.auto.at-end) in
    rw (end, c.as_slice-at-end.ensures) at c.loop-at.invariant
