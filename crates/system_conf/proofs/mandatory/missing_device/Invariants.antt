use Rattle.std.proofs.Common.{◌≡◌, take, codes, None}
use Rattle.conf_forms.specs.Lists.{first_of}
use Rattle.conf_forms.specs.Walks.{missing_key}
use Rattle.system_conf.proofs.mandatory.missing_device.Given as goal

abbrev pub invariant-loop-slot : goal.invariant-loop-slot
invariant-loop-slot l = first_of (λ s. missing_key l.reader.file.now (s.group.now, codes "device")) (take l.slot-index l.reader.slots.now) ≡ None
