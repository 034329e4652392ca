use Rattle.std.proofs.Common.{◌≡◌, take, false}
use Rattle.std.specs.List.{list_any}
use Rattle.std.specs.Str.{bytes_eq}
use Rattle.system_conf.specs.Conflicts.{index_file}
use Rattle.system_conf.proofs.conflicts.is_index_in.Given as goal

abbrev pub invariant-loop-slot : goal.invariant-loop-slot
invariant-loop-slot l = list_any (λ s. bytes_eq l.path (index_file l.directory s.name.now)) (take l.slot-index l.slots) ≡ false
