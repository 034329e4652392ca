use Rattle.std.proofs.Common.{◌≡◌, None, take}
use Rattle.conf_forms.specs.Lists.{first_of}
use Rattle.slot_status.specs.Refusals.{ready_refusal}
use Rattle.install_facts.proofs.ready.slot_not_ready.Given as goal

abbrev pub invariant-loop-job : goal.invariant-loop-job
invariant-loop-job l = first_of (λ job. ready_refusal l.book job.slot l.now) (take l.job-index l.jobs) ≡ None
