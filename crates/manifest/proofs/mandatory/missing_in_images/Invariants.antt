use Rattle.std.proofs.Common.{◌≡◌, take, None}
use Rattle.conf_forms.specs.Lists.{first_of}
use Rattle.conf_forms.specs.Walks.{missing_key}
use Rattle.manifest.specs.Mandatory.{image_keys}
use Rattle.manifest.proofs.mandatory.missing_in_images.Given as goal

abbrev pub invariant-loop-group : goal.invariant-loop-group
invariant-loop-group l = first_of (λ group. first_of (missing_key l.file) (image_keys l.file group)) (take l.group-index l.images) ≡ None
