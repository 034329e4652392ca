use Rattle.std.proofs.Common.{◌≡◌, length, drop, map}
use Rattle.std.specs.Str.Lines.{lines}
use Rattle.keyfile.specs.Lines.{line_of}
use Rattle.keyfile.proofs.Orders.{after}
use Rattle.keyfile.proofs.reading.read_lines.Given as goal

-- what is left to read makes of the groups so far what the whole makes
abbrev pub invariant-loop-line : goal.invariant-loop-line
invariant-loop-line l = record {
  counted : l.number ≡ length l.yielded;
  left : after l.file l.group l.number (drop l.number (map line_of (lines l.text))) ≡ after l.initial.file l.initial.group 0 (map line_of (lines l.text));
}
