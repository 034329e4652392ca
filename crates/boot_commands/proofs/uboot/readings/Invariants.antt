use Rattle.std.proofs.Common.{◌≡◌, take}
use Rattle.boot_commands.specs.Uboot.{readings}
use Rattle.boot_commands.proofs.uboot.readings.Given as goal

abbrev pub invariant-loop-name : goal.invariant-loop-name
invariant-loop-name l = l.commands ≡ readings (take l.name-index l.names)
