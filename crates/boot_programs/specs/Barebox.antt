-- barebox: `barebox-state`, by the words after its name.
use Rattle.std.specs.Prelude.{ℕ, List, [], ◌∷◌, ◌++◌, Option, Some, None, codes, bytes_eq, unwrap_or, if◌then◌else◌}
use Rattle.std.specs.Option.{option_map, option_and_then}
use Rattle.std.specs.List.{flat_map}
use Rattle.std.specs.FinMap.{get}
use Rattle.boot_model.specs.Vars.{Variables}
use Rattle.boot_programs.specs.declared.program_end.ProgramEnd.{ProgramEnd}
use Rattle.boot_programs.specs.Ends.{refused, printed_if, changed_if}
use Rattle.boot_programs.specs.Settings.{with_settings}

-- the words that each follow this option; none where another word stands in its place
abbrev pub operands : List ℕ → List (List ℕ) → Option (List (List ℕ))
operands option [] = Some []
operands option (word ∷ []) = None
operands option (word ∷ operand ∷ words) =
    if bytes_eq word option then option_map (λ rest. operand ∷ rest) (operands option words) else None

-- the value of a variable, or `0`, on a line of its own
abbrev pub value_line : Variables → List ℕ → List ℕ
value_line vars name = unwrap_or (get vars name) (codes "0") ++ 10 ∷ []

-- `-g` before each name prints the variables
abbrev pub got : List (List ℕ) → Variables → ProgramEnd
got words vars = printed_if vars (option_map (λ names. flat_map (value_line vars) names) (operands (codes "-g") words))

-- `-s` before each setting sets the variables
abbrev pub stored : List (List ℕ) → Variables → ProgramEnd
stored words vars = changed_if vars (option_and_then (λ settings. with_settings vars settings) (operands (codes "-s") words))

-- by the first option
abbrev pub on_state : List (List ℕ) → Variables → ProgramEnd
on_state [] vars = refused vars
on_state (option ∷ words) vars =
    if bytes_eq option (codes "-g") then got (option ∷ words) vars
    else (if bytes_eq option (codes "-s") then stored (option ∷ words) vars else refused vars)

-- the same behind `-n` and the name of a state, whatever that is
abbrev pub barebox_state : List (List ℕ) → Variables → ProgramEnd
barebox_state (option ∷ name ∷ words) vars = if bytes_eq option (codes "-n") then on_state words vars else on_state (option ∷ name ∷ words) vars
barebox_state words vars = on_state words vars
