use Rattle.std.proofs.Common.{◌≡◌, map}
use Rattle.keyfile.proofs.list.pieces.Given as goal

abbrev pub invariant-loop-piece : goal.invariant-loop-piece
invariant-loop-piece l = l.pieces.items ≡ map (λ x. x.now) l.yielded
