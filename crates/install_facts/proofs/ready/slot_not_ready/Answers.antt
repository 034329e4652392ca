use Rattle.std.proofs.Common.{◌≡◌, ℤ, Some, sym, subst, to_z, of_z, w64}
use Rattle.std.proofs.lemmas.Int.{to_z-of_z}
use Rattle.conf_forms.specs.Lists.{first_of}
use Rattle.conf_forms.proofs.FirstOf.{first_of_hit, first_of_more}
use Rattle.slot_graph.specs.declared.job.Job.{Job}
use Rattle.slot_status.specs.Refusals.{ready_refusal}
use Rattle.install_facts.proofs.ready.slot_not_ready.Goals as goal

pub returns-in-Some : goal.returns-in-Some
returns-in-Some c =
    let seconds = to_z w64 (of_z w64 c.args.now) in
    subst (λ (n : ℤ). Some c.in-Some.why ≡ first_of (λ job. ready_refusal c.args.book.now job.slot n) c.args.jobs.now) (to_z-of_z w64 c.args.now c.ranges.now)
    (sym (first_of_hit (λ (job : Job). ready_refusal c.args.book.now job.slot seconds) c.args.jobs.now c.loop-job.job-index _ c.in-Some.why c.loop-job.invariant c.loop-job-test.true (sym c.in-Some.ensures)))

pub loop-job-preserved : goal.loop-job-preserved
loop-job-preserved c =
    let seconds = to_z w64 (of_z w64 c.args.now) in
    first_of_more (λ (job : Job). ready_refusal c.args.book.now job.slot seconds) c.args.jobs.now c.loop-job.job-index _ c.loop-job.invariant c.loop-job-test.true (sym c.in_default.ensures)
