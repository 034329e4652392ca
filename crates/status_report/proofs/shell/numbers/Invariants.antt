use Rattle.std.proofs.Common.{◌≡◌, ◌+◌, string_bytes}
use Rattle.status_report.specs.Words.{numbers}
use Rattle.status_report.proofs.shell.numbers.Given as goal

-- the numbers so far are written
abbrev pub invariant-loop-slot : goal.invariant-loop-slot
invariant-loop-slot l = record {
  written : string_bytes l.text ≡ numbers l._slot-index;
  number : l.number ≡ l._slot-index + 1;
}
