use Rattle.std.proofs.Common.{◌≡◌, drop}
use Rattle.boot_programs.specs.Settings.{with_settings}
use Rattle.boot_programs.proofs.settings.with_settings.Given as goal

-- what is left leads to the same end
abbrev pub invariant-loop-word : goal.invariant-loop-word
invariant-loop-word l = with_settings l.after (drop l.word-index l.words) ≡ with_settings l.fn.vars l.words
