use Rattle.std.proofs.Common.{◌≡◌, take, map}
use Rattle.system_conf.specs.Slots.{slot_of}
use Rattle.system_conf.proofs.read_slots.read_slots.Given as goal

abbrev pub invariant-loop-group : goal.invariant-loop-group
invariant-loop-group l = l.slots ≡ map (λ s. slot_of l.reader.file.now s.group.now) (take l.group-index l.reader.slots.now)
