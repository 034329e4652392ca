use Rattle.std.proofs.Common.{◌≡◌, take}
use Rattle.boot_commands.specs.Custom.{readings}
use Rattle.boot_commands.proofs.custom.readings.Given as goal

abbrev pub invariant-loop-name : goal.invariant-loop-name
invariant-loop-name l = l.commands ≡ readings l.program (take l.name-index l.names)
