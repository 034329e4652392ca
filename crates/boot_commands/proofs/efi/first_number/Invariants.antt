use Rattle.std.proofs.Common.{◌≡◌}
use Rattle.std.specs.FinMap.{keys}
use Rattle.boot_state.specs.Efi.{is_number_of, number_in}
use Rattle.boot_commands.specs.Efi.{first_number}
use Rattle.boot_commands.proofs.Numbers.{first_from}
use Rattle.boot_commands.proofs.efi.first_number.Given as goal

-- it is the first of those that are left
abbrev pub invariant-loop-at : goal.invariant-loop-at
invariant-loop-at l = first_number l.read l.name ≡ first_from (is_number_of l.read l.name) number_in (keys l.read) l.at
