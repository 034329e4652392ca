-- How a program ends: its exit code, what it printed, and the variables after it.
use Rattle.std.specs.Prelude.{ℕ, List, [], Option}
use Rattle.std.specs.Option.{option_map_or}
use Rattle.boot_model.specs.Vars.{Variables}
use Rattle.boot_programs.specs.declared.program_end.ProgramEnd.{ProgramEnd}

-- it failed and did nothing
abbrev pub refused : Variables → ProgramEnd
refused vars = record { code = 1; out = []; vars = vars }

-- it printed this
abbrev pub printed : Variables → List ℕ → ProgramEnd
printed vars out = record { code = 0; out = out; vars = vars }

-- it left these variables
abbrev pub changed : Variables → ProgramEnd
changed vars = record { code = 0; out = []; vars = vars }

-- it printed this, where its words have a meaning
abbrev pub printed_if : Variables → Option (List ℕ) → ProgramEnd
printed_if vars out = option_map_or (λ text. printed vars text) out (refused vars)

-- it left these variables, where its words have a meaning
abbrev pub changed_if : Variables → Option Variables → ProgramEnd
changed_if vars after = option_map_or (λ left. changed left) after (refused vars)
