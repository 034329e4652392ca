use Rattle.std.proofs.Common.{◌≡◌, take, None}
use Rattle.conf_forms.specs.Lists.{first_of}
use Rattle.system_conf.specs.OwnFiles.{own_device, own_files_of}
use Rattle.system_conf.proofs.own_files.first_own.Given as goal

abbrev pub invariant-loop-slot : goal.invariant-loop-slot
invariant-loop-slot l = first_of (own_device (own_files_of l.file)) (take l.slot-index l.slots) ≡ None
