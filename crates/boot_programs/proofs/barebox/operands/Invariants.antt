use Rattle.std.proofs.Common.{◌≡◌, ◌++◌, length}
use Rattle.std.specs.Option.{option_map}
use Rattle.boot_programs.specs.Barebox.{operands}
use Rattle.boot_programs.proofs.barebox.operands.Given as goal

-- what is found and what is left make the whole
abbrev pub invariant-loop-left : goal.invariant-loop-left
invariant-loop-left l = option_map (λ rest. l.found ++ rest) (operands l.option l.left) ≡ operands l.option l.words

abbrev pub decreases-loop-left : goal.decreases-loop-left
decreases-loop-left l = length l.left
