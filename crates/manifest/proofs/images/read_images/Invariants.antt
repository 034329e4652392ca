use Rattle.std.proofs.Common.{◌≡◌, map, take}
use Rattle.manifest.specs.Contents.{image_of}
use Rattle.manifest.specs.Reads.{image_contents}
use Rattle.manifest.proofs.images.read_images.Given as goal

abbrev pub invariant-loop-group : goal.invariant-loop-group
invariant-loop-group l = image_contents l.read ≡ map (image_of l.file) (take l.group-index l.images)
