use Rattle.std.proofs.Common.{◌≡◌, ◌∷◌, codes, take}
use Rattle.boot_commands.specs.Commands.{spellings}
use Rattle.boot_commands.proofs.words.set_words.Given as goal

abbrev pub invariant-loop-setting : goal.invariant-loop-setting
invariant-loop-setting l = l.words ≡ l.fn.file ∷ codes "set" ∷ spellings (take l.setting-index l.settings)
