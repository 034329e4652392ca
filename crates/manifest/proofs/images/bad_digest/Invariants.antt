use Rattle.std.proofs.Common.{◌≡◌, take, None}
use Rattle.conf_forms.specs.Lists.{first_of}
use Rattle.manifest.specs.Refusals.{undigested}
use Rattle.manifest.proofs.images.bad_digest.Given as goal

abbrev pub invariant-loop-group : goal.invariant-loop-group
invariant-loop-group l = first_of (undigested l.file) (take l.group-index l.images) ≡ None
