use Rattle.std.proofs.Common.{◌≡◌, ◌++◌, length}
use Rattle.slot_graph.specs.Mounts.{word_text}
use Rattle.slot_graph.proofs.mounted.read_word.Given as goal

abbrev pub invariant-loop-byte : goal.invariant-loop-byte
invariant-loop-byte l = l.text ++ word_text l.left ≡ word_text l.word

abbrev pub decreases-loop-byte : goal.decreases-loop-byte
decreases-loop-byte l = length l.left
