-- U-Boot: `fw_printenv` and `fw_setenv`, by the words after their names.
use Rattle.std.specs.Prelude.{ℕ, List, [], ◌∷◌}
use Rattle.std.specs.Option.{option_map}
use Rattle.std.specs.FinMap.{get}
use Rattle.boot_model.specs.Vars.{Variables}
use Rattle.boot_state.specs.Orders.{put}
use Rattle.boot_programs.specs.declared.program_end.ProgramEnd.{ProgramEnd}
use Rattle.boot_programs.specs.Ends.{refused, printed_if, changed}
use Rattle.boot_programs.specs.Settings.{setting_line}

-- the line of a variable that is set
abbrev pub variable_end : List ℕ → Variables → ProgramEnd
variable_end name vars = printed_if vars (option_map (λ text. setting_line name text) (get vars name))

-- `fw_printenv NAME` prints a variable that is set
abbrev pub fw_printenv : List (List ℕ) → Variables → ProgramEnd
fw_printenv (name ∷ []) vars = variable_end name vars
fw_printenv _ vars = refused vars

-- `fw_setenv NAME VALUE` sets a variable; an empty value takes it away
abbrev pub fw_setenv : List (List ℕ) → Variables → ProgramEnd
fw_setenv (name ∷ text ∷ []) vars = changed (put vars name text)
fw_setenv _ vars = refused vars
