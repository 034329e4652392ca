use Rattle.std.proofs.Common.{◌≡◌, map}
use Rattle.std.specs.List.{range_with_len}
use Rattle.install_facts.specs.Facts.{facts_content}
use Rattle.install_core.specs.Preparing.{end_at}
use Rattle.install_core.proofs.preparing.ends_of.Given as goal

abbrev pub invariant-loop-at : goal.invariant-loop-at
invariant-loop-at l = l.ends ≡ map (end_at (facts_content l.facts)) (range_with_len 0 l.at)
