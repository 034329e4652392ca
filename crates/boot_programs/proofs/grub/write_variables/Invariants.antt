use Rattle.std.proofs.Common.{◌≡◌, ◌++◌, drop}
use Rattle.std.specs.FinMap.{entries}
use Rattle.boot_programs.specs.Grub.{listing}
use Rattle.boot_programs.proofs.grub.write_variables.Given as goal

-- what is written and what is left make the whole
abbrev pub invariant-loop-at : goal.invariant-loop-at
invariant-loop-at l = l.out.items ++ listing (drop l.at (entries l.vars)) ≡ l.initial.out.items ++ listing (entries l.vars)
