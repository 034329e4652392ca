use Rattle.std.proofs.Common.{◌≡◌, filter, map, take}
use Rattle.system_conf.specs.Reads.{system_configuration}
use Rattle.install_plan.specs.Acts.{each_once, has_bootname}
use Rattle.install_plan.proofs.roots.target_roots.Given as goal

abbrev pub invariant-loop-job : goal.invariant-loop-job
invariant-loop-job l = l.roots ≡ each_once (filter (has_bootname (system_configuration l.system)) (map (λ job. job.root) (take l.job-index l.facts.jobs)))
