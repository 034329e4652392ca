use Rattle.std.proofs.Common.{◌≡◌, ◌++◌, drop}
use Rattle.boot_commands.specs.NewWords.{new_words}
use Rattle.boot_commands.proofs.order.push_new.Given as goal

-- what is there and what is left make the whole
abbrev pub invariant-loop-word : goal.invariant-loop-word
invariant-loop-word l = l.order ++ new_words l.order (drop l.word-index l.words) ≡ l.initial.order ++ new_words l.initial.order l.words
