use Rattle.std.proofs.Common.{◌≡◌, Ok, take}
use Rattle.manifest.specs.Reads.{image_contents}
use Rattle.slot_graph.specs.Jobs.{all_or_first}
use Rattle.slot_graph.proofs.Placing.{answers}
use Rattle.slot_graph.proofs.assigning.jobs_of.Given as goal

abbrev pub invariant-loop-at : goal.invariant-loop-at
invariant-loop-at l = all_or_first (take l.at (answers l.slots l.targets (image_contents l.images))) ≡ Ok l.jobs
