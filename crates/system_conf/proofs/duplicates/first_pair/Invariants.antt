use Rattle.std.proofs.Common.{◌≡◌, take, None}
use Rattle.std.specs.List.{enumerate_from}
use Rattle.conf_forms.specs.Lists.{first_of}
use Rattle.system_conf.specs.Duplicates.{pair_with, test_for}
use Rattle.system_conf.proofs.duplicates.first_pair.Given as goal

abbrev pub invariant-loop-at : goal.invariant-loop-at
invariant-loop-at l = first_of (pair_with (test_for l.shared) l.slots) (take l.at (enumerate_from 0 l.slots)) ≡ None
