use Rattle.std.proofs.Common.{◌≡◌, ◌++◌, drop}
use Rattle.keyfile.specs.Escapes.{value_text}
use Rattle.keyfile.proofs.Remaining.{left_of_value}
use Rattle.keyfile.proofs.writing.write_value.Given as goal

-- what is written and what is left make the whole
abbrev pub invariant-loop-byte : goal.invariant-loop-byte
invariant-loop-byte l = l.out.items ++ left_of_value l.leading (drop l.byte-index l.value) ≡ l.initial.out.items ++ value_text l.value
