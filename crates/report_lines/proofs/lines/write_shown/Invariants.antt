use Rattle.std.proofs.Common.{◌≡◌, ◌++◌, drop, map}
use Rattle.report_lines.specs.Lines.{shown_byte}
use Rattle.report_lines.proofs.lines.write_shown.Given as goal

-- what is written and what is left make the whole
abbrev pub invariant-loop-byte : goal.invariant-loop-byte
invariant-loop-byte l = l.out.items ++ map shown_byte (drop l.byte-index l.value) ≡ l.initial.out.items ++ map shown_byte l.value
