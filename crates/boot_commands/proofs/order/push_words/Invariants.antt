use Rattle.std.proofs.Common.{◌≡◌, ◌++◌, eqb, length, map, not}
use Rattle.std.specs.Prelude.{filter}
use Rattle.boot_commands.proofs.order.push_words.Given as goal

abbrev pub invariant-loop-part : goal.invariant-loop-part
invariant-loop-part l = l.words ≡ l.initial.words ++ filter (λ w. not (eqb (length w) 0)) (map (λ x. x.now) l.yielded)
