use Rattle.std.proofs.Common.{◌≡◌, ◌++◌, drop}
use Rattle.boot_commands.specs.Barebox.{variables_of}
use Rattle.boot_commands.proofs.barebox.variables_of.Given as goal

-- what is there and what is left make the whole
abbrev pub invariant-loop-name : goal.invariant-loop-name
invariant-loop-name l = l.variables ++ variables_of (drop l.name-index l.names) ≡ variables_of l.names
