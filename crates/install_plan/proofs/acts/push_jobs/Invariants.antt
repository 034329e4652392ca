use Rattle.std.proofs.Common.{◌≡◌, ◌++◌}
use Rattle.std.specs.List.{flat_map, range_with_len}
use Rattle.system_conf.specs.Reads.{system_configuration}
use Rattle.install_facts.specs.Facts.{facts_content}
use Rattle.install_plan.specs.Acts.{job_acts}
use Rattle.install_plan.proofs.acts.push_jobs.Given as goal

abbrev pub invariant-loop-at : goal.invariant-loop-at
invariant-loop-at l = l.acts ≡ l.initial.acts ++ flat_map (job_acts (system_configuration l.system) (facts_content l.facts)) (range_with_len 0 l.at)
