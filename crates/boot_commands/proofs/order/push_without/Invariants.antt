use Rattle.std.proofs.Common.{◌≡◌, ◌++◌, drop}
use Rattle.boot_state.specs.Orders.{without_word}
use Rattle.boot_commands.proofs.order.push_without.Given as goal

-- what is there and what is left make the whole
abbrev pub invariant-loop-other : goal.invariant-loop-other
invariant-loop-other l = l.rest ++ without_word (drop l.other-index l.words) l.word ≡ l.initial.rest ++ without_word l.words l.word
