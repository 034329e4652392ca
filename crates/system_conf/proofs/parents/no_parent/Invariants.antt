use Rattle.std.proofs.Common.{◌≡◌, take, None}
use Rattle.conf_forms.specs.Lists.{first_of}
use Rattle.system_conf.specs.Refusals.{orphan}
use Rattle.system_conf.proofs.parents.no_parent.Given as goal

abbrev pub invariant-loop-slot : goal.invariant-loop-slot
invariant-loop-slot l = first_of (λ s. orphan l.reader.file.now s.group.now) (take l.slot-index l.reader.slots.now) ≡ None
