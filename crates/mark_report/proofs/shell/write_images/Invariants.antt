use Rattle.std.proofs.Common.{◌≡◌, ◌++◌, ◌+◌, drop}
use Rattle.std.specs.List.{enumerate_from, flat_map}
use Rattle.manifest.specs.Reads.{image_contents}
use Rattle.mark_report.specs.Info.{image_settings}
use Rattle.mark_report.proofs.shell.write_images.Given as goal

-- what is written and what is left make the whole, and the numbers count the images
abbrev pub invariant-loop-image : goal.invariant-loop-image
invariant-loop-image l = record {
  whole : l.out.items ++ flat_map image_settings (enumerate_from l.number (image_contents (drop l.image-index l.images))) ≡ l.initial.out.items ++ flat_map image_settings (enumerate_from 1 (image_contents l.images));
  number : l.number ≡ l.image-index + 1;
}
