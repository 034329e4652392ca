use Rattle.std.proofs.Common.{◌≡◌, ap, arith, map, take}
use Rattle.std.proofs.lemmas.List.{take_all}
use Rattle.slot_graph.specs.declared.job.Job.{Job}
use Rattle.child_steps.proofs.Words.{joined_numbers}
use Rattle.child_steps.proofs.handlers.target_numbers.Goals as goal

pub returns : goal.returns
returns c =
    let all : take c.loop-job.job-index c.args.jobs.now ≡ c.args.jobs.now = take_all c.loop-job.job-index c.args.jobs.now (omega (arith, c.loop-job-test.false)) in
    rw (← ap (map (λ (j : Job). j.slot)) all, ← joined_numbers (map (λ (j : Job). j.slot) (take c.loop-job.job-index c.args.jobs.now)), ← c.loop-job.invariant, ← c.as_slice.ensures.value) c.joined.ensures
