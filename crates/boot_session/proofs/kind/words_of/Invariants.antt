use Rattle.std.proofs.Common.{◌≡◌, map}
use Rattle.boot_session.proofs.kind.words_of.Given as goal

-- the words so far
abbrev pub invariant-loop-word : goal.invariant-loop-word
invariant-loop-word l = l.words.items ≡ map (λ x. x.now) l.yielded
