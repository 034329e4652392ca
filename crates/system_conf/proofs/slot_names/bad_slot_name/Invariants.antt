use Rattle.std.proofs.Common.{◌≡◌, take, None}
use Rattle.conf_forms.specs.Lists.{first_of}
use Rattle.system_conf.specs.Refusals.{bad_name_of}
use Rattle.system_conf.proofs.slot_names.bad_slot_name.Given as goal

abbrev pub invariant-loop-at : goal.invariant-loop-at
invariant-loop-at l = first_of bad_name_of (take l.at l.file) ≡ None
