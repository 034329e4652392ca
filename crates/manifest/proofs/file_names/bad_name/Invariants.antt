use Rattle.std.proofs.Common.{◌≡◌, take, None}
use Rattle.conf_forms.specs.Lists.{first_of}
use Rattle.manifest.specs.Refusals.{misnamed}
use Rattle.manifest.proofs.file_names.bad_name.Given as goal

abbrev pub invariant-loop-at : goal.invariant-loop-at
invariant-loop-at l = first_of (misnamed l.file) (take l.at l.file) ≡ None
