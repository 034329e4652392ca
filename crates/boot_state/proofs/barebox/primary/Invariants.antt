use Rattle.std.proofs.Common.{◌≡◌, take}
use Rattle.std.specs.Option.{option_copied}
use Rattle.boot_state.specs.Barebox.{primary}
use Rattle.boot_state.proofs.barebox.primary.Given as goal

abbrev pub invariant-loop-name : goal.invariant-loop-name
invariant-loop-name l = option_copied l.best ≡ primary l.vars (take l.name-index l.names)
