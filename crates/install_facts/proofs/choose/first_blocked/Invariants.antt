use Rattle.std.proofs.Common.{◌≡◌, None, take}
use Rattle.conf_forms.specs.Lists.{first_of}
use Rattle.manifest.specs.Reads.{manifest_content}
use Rattle.system_conf.specs.Reads.{system_configuration}
use Rattle.install_facts.specs.Facts.{blocked}
use Rattle.install_facts.proofs.choose.first_blocked.Given as goal

abbrev pub invariant-loop-job : goal.invariant-loop-job
invariant-loop-job l = first_of (blocked (system_configuration l.system) (manifest_content l.manifest) l.mounts) (take l.job-index l.jobs) ≡ None
