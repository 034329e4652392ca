use Rattle.std.proofs.Common.{◌≡◌, ◌++◌, codes, drop}
use Rattle.boot_commands.specs.Commands.{behind_each, spellings, state_words}
use Rattle.boot_commands.proofs.words.store_words.Given as goal

-- the words so far and those of the settings that are left make the whole
abbrev pub invariant-loop-setting : goal.invariant-loop-setting
invariant-loop-setting l =
    l.words ++ behind_each (codes "-s") (spellings (drop l.setting-index l.settings)) ≡ state_words l.fn.state ++ behind_each (codes "-s") (spellings l.settings)
