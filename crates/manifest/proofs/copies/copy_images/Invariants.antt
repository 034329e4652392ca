use Rattle.std.proofs.Common.{◌≡◌, take}
use Rattle.manifest.proofs.copies.copy_images.Given as goal

abbrev pub invariant-loop-image : goal.invariant-loop-image
invariant-loop-image l = l.copy ≡ take l.image-index l.images
