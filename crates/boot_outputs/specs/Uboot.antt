-- U-Boot: the variable that `fw_printenv` prints.
use Rattle.std.specs.Prelude.{ℕ, List, ◌++◌, codes, Option}
use Rattle.std.specs.Option.{option_map}
use Rattle.std.specs.FinMap as fin
use Rattle.boot_model.specs.Vars.{Variables}
use Rattle.boot_outputs.specs.Texts.{behind, first_line}

-- the rest of a first line that begins with the name and `=` is the value
abbrev pub printed : List ℕ → List ℕ → Variables → Option Variables
printed name out read = option_map (λ text. fin.insert read name text) (behind (name ++ codes "=") (first_line out))
