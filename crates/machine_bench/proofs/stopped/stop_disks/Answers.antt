use Rattle.std.proofs.Common.{◌<◌, length, arith}
use Rattle.machine_bench.specs.Stopped.{DiskAfterStop}
use Rattle.machine_bench.proofs.Stopping.{disks_done, disks_rest}
use Rattle.machine_bench.proofs.stopped.stop_disks.Goals as goal

pub loop-at-preserved : goal.loop-at-preserved
loop-at-preserved c =
    let within : c.loop-at.at < length c.loop-at.disks = omega arith in
    record {
      done = disks_done (DiskAfterStop c.args.pick c.args.spans.now) c.args.disks.now c.loop-at.disks c.loop-at.at c.stop_disk.new.disk c.index-disks-at.result within c.loop-at.auto.disks c.loop-at.invariant.rest c.loop-at.invariant.done c.stop_disk.ensures;
      rest = disks_rest (DiskAfterStop c.args.pick c.args.spans.now) c.args.disks.now c.loop-at.disks c.loop-at.at c.stop_disk.new.disk c.index-disks-at.result within c.loop-at.auto.disks c.loop-at.invariant.rest;
    }
