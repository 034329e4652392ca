use Rattle.std.proofs.Common.{◌≡◌, take, drop}
use Rattle.std.specs.List.{AllZip}
use Rattle.machine_bench.specs.Stopped.{DiskAfterStop}
use Rattle.machine_bench.proofs.stopped.stop_disks.Given as goal

abbrev pub invariant-loop-at : goal.invariant-loop-at
invariant-loop-at l = record {
  done : AllZip (DiskAfterStop l.pick l.spans) (take l.at l.initial.disks) (take l.at l.disks);
  rest : drop l.at l.disks ≡ drop l.at l.initial.disks;
}
