use Rattle.std.proofs.Common.{◌≡◌, length}
use Rattle.std.specs.Str.{IsUtf8}
use Rattle.keyfile.specs.Lines.{before_blanks}
use Rattle.keyfile.proofs.line.before_blanks.Given as goal

abbrev pub invariant-loop-front : goal.invariant-loop-front
invariant-loop-front l = record {
  text : IsUtf8 l.left;
  same : before_blanks l.left ≡ before_blanks l.text;
}

abbrev pub decreases-loop-front : goal.decreases-loop-front
decreases-loop-front l = length l.left
