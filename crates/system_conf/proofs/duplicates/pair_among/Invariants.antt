use Rattle.std.proofs.Common.{◌≡◌, take, None}
use Rattle.conf_forms.specs.Lists.{first_of}
use Rattle.system_conf.specs.Duplicates.{pair_if, test_for}
use Rattle.system_conf.proofs.duplicates.pair_among.Given as goal

abbrev pub invariant-loop-slot : goal.invariant-loop-slot
invariant-loop-slot l = first_of (pair_if (test_for l.shared) l.later) (take l.slot-index l.earlier) ≡ None
