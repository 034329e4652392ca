use Rattle.std.proofs.Common.{◌≡◌, ◌++◌, drop}
use Rattle.boot_commands.specs.Efi.{others_in}
use Rattle.boot_commands.proofs.efi.push_rest.Given as goal

-- what is there and what is left make the whole
abbrev pub invariant-loop-number : goal.invariant-loop-number
invariant-loop-number l = l.numbers ++ others_in l.read l.name (drop l.number-index l.order) ≡ l.initial.numbers ++ others_in l.read l.name l.order
