use Rattle.std.proofs.Common.{arith}
use Rattle.machine.proofs.Failing.{fails_join}
use Rattle.machine.proofs.Joins.{unchanged_join}
use Rattle.raw_writer.proofs.Asking.{asks_join}
use Rattle.system_conf.specs.Reads.{system_configuration}
use Rattle.manifest.specs.Reads.{manifest_content}
use Rattle.install_facts.proofs.Fitting.{one_fits, one_refused}
use Rattle.install_facts.proofs.images.check_images.Goals as goal

pub returns-in-Err-clause-looks : goal.returns-in-Err-clause-looks
returns-in-Err-clause-looks g c =
    let inv = c.loop-job.invariant in
    one_refused _ (system_configuration c.args.system.now) (manifest_content c.args.manifest.now) c.args.jobs.now c.loop-job.job-index _ _ _ _ c.in-Err.stop inv.unchanged inv.fails inv.told c.loop-job-test.true c.in-Err.ensures.looks

pub loop-job-preserved : goal.loop-job-preserved
loop-job-preserved g c =
    let inv = c.loop-job.invariant in record {
      faults = omega (arith, inv.faults, c.in-Ok.ensures.counts);
      wants = omega (arith, inv.wants, c.in-Ok.ensures.counts);
      unchanged = unchanged_join _ _ _ _ inv.unchanged c.in-Ok.ensures.looks.unchanged;
      fails = fails_join _ _ _ _ _ inv.fails c.in-Ok.ensures.looks.fails;
      asks = asks_join _ _ _ _ inv.asks c.in-Ok.ensures.asks;
      told = λ told. one_fits _ (system_configuration c.args.system.now) (manifest_content c.args.manifest.now) c.args.jobs.now c.loop-job.job-index _ _ _ _ _ inv.unchanged inv.told c.loop-job-test.true c.in-Ok.ensures.looks told;
    }
