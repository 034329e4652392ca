use Rattle.std.proofs.Common.{◌≡◌, map, take}
use Rattle.manifest.specs.Reads.{manifest_content}
use Rattle.system_conf.specs.Reads.{system_configuration}
use Rattle.install_facts.specs.Facts.{is_skipped}
use Rattle.install_facts.proofs.choose.skipped_of.Given as goal

abbrev pub invariant-loop-job : goal.invariant-loop-job
invariant-loop-job l = l.skipped ≡ map (is_skipped (system_configuration l.system) (manifest_content l.manifest) l.book) (take l.job-index l.jobs)
