use Rattle.std.proofs.Common.{sym}
use Rattle.conf_forms.proofs.FirstOf.{first_of_hit, first_of_more}
use Rattle.manifest.specs.Reads.{manifest_content}
use Rattle.system_conf.specs.Reads.{system_configuration}
use Rattle.install_facts.specs.Facts.{blocked}
use Rattle.install_facts.proofs.choose.first_blocked.Goals as goal

pub returns-in-Some : goal.returns-in-Some
returns-in-Some c =
    sym (first_of_hit (blocked (system_configuration c.args.system.now) (manifest_content c.args.manifest.now) c.args.mounts.now) c.args.jobs.now c.loop-job.job-index _ c.in-Some.slot c.loop-job.invariant c.loop-job-test.true (sym c.in-Some.ensures))

pub loop-job-preserved : goal.loop-job-preserved
loop-job-preserved c =
    first_of_more (blocked (system_configuration c.args.system.now) (manifest_content c.args.manifest.now) c.args.mounts.now) c.args.jobs.now c.loop-job.job-index _ c.loop-job.invariant c.loop-job-test.true (sym c.in_default.ensures)
