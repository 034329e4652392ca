use Rattle.std.proofs.Common.{◌≡◌, ◌++◌, codes, drop}
use Rattle.boot_commands.specs.Commands.{behind_each, state_words}
use Rattle.boot_commands.proofs.words.print_words.Given as goal

-- the words so far and those of the names that are left make the whole
abbrev pub invariant-loop-name : goal.invariant-loop-name
invariant-loop-name l =
    l.words ++ behind_each (codes "-g") (drop l.name-index l.names) ≡ state_words l.fn.state ++ behind_each (codes "-g") l.names
