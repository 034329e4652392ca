use Rattle.std.proofs.Common.{◌≡◌, ◌++◌, drop}
use Rattle.std.specs.FinMap.{entries}
use Rattle.boot_programs.specs.Efi.{entry_lines}
use Rattle.boot_programs.proofs.efi.write_entries.Given as goal

-- what is written and what is left make the whole
abbrev pub invariant-loop-at : goal.invariant-loop-at
invariant-loop-at l = l.out.items ++ entry_lines (drop l.at (entries l.vars)) ≡ l.initial.out.items ++ entry_lines (entries l.vars)
