use Rattle.std.proofs.Common.{◌≡◌, ◌++◌, drop}
use Rattle.boot_commands.specs.Barebox.{ranks}
use Rattle.boot_commands.proofs.barebox.ranks.Given as goal

-- what is there and what is left make the whole
abbrev pub invariant-loop-other : goal.invariant-loop-other
invariant-loop-other l = l.settings ++ ranks l.fn.attempts (drop l.other-index l.names) l.name l.read ≡ ranks l.fn.attempts l.names l.name l.read
