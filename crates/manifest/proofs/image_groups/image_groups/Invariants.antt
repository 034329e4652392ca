use Rattle.std.proofs.Common.{◌≡◌, take}
use Rattle.manifest.specs.Images.{image_groups}
use Rattle.manifest.proofs.image_groups.image_groups.Given as goal

abbrev pub invariant-loop-at : goal.invariant-loop-at
invariant-loop-at l = l.found.items ≡ image_groups (take l.at l.file)
