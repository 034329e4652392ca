use Rattle.std.proofs.Common.{◌≡◌, ◌++◌, drop}
use Rattle.std.specs.List.{flat_map}
use Rattle.manifest.specs.Reads.{image_contents}
use Rattle.mark_report.specs.Info.{image_lines}
use Rattle.mark_report.proofs.readable.write_images.Given as goal

-- what is written and what is left make the whole
abbrev pub invariant-loop-image : goal.invariant-loop-image
invariant-loop-image l = l.out.items ++ flat_map image_lines (image_contents (drop l.image-index l.images)) ≡ l.initial.out.items ++ flat_map image_lines (image_contents l.images)
