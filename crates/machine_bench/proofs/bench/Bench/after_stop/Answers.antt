use Rattle.std.proofs.Common.{refl, rules}
use Rattle.updater_text.specs.Lent.{with_front}
use Rattle.machine_bench.proofs.Stopping.{held_after, picked_disks}
use Rattle.machine_bench.proofs.bench.Bench.after_stop.Goals as goal

pub returns-clause-after : goal.returns-clause-after
returns-clause-after c = record {
  image = picked_disks c.args.pick c.args.self.log.world c.as_mut_slice.result.now c.stop_disks.new.disks c.as_slice.result.now c.new.result c.as_mut_slice.ensures.value c.as_slice.ensures c.stop_disks.ensures c.stop_disks.auto.disks c.new.ensures;
  notes = c.new-2.ensures.items;
  boot = refl;
  scripts = refl;
  clock = search rules;
  fails = c.new-3.ensures;
  stop = refl;
  faults = refl;
  wants = refl;
}

pub returns-clause-held : goal.returns-clause-held
returns-clause-held c =
    let picked = picked_disks c.args.pick c.args.self.log.world c.as_mut_slice.result.now c.stop_disks.new.disks c.as_slice.result.now c.new.result c.as_mut_slice.ensures.value c.as_slice.ensures c.stop_disks.ensures c.stop_disks.auto.disks c.new.ensures in
    held_after c.args.self.log (record { world = record (c.args.self.log.world) { disks = with_front c.args.self.log.world.disks c.stop_disks.new.disks; pending = c.new.result }; notes = c.new-2.result; boot = c.args.self.log.boot }) picked.crash
