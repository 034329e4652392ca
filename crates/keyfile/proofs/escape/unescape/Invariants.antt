use Rattle.std.proofs.Common.{◌≡◌, length, string_bytes}
use Rattle.std.specs.Str.{IsUtf8}
use Rattle.keyfile.specs.Escapes.{unescape}
use Rattle.keyfile.proofs.Escaping.{read_on}
use Rattle.keyfile.proofs.escape.unescape.Given as goal

-- what is read and what is left make the whole
abbrev pub invariant-loop-plain : goal.invariant-loop-plain
invariant-loop-plain l = record {
  text : IsUtf8 l.left;
  whole : read_on (string_bytes l.value) l.left ≡ unescape l.written;
}

abbrev pub decreases-loop-plain : goal.decreases-loop-plain
decreases-loop-plain l = length l.left
