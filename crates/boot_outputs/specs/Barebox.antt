-- barebox: the values that `barebox-state` prints.
use Rattle.std.specs.Prelude.{ℕ, ◌==◌, List, length, Option, Some, None, if◌then◌else◌}
use Rattle.std.specs.List.{zip}
use Rattle.boot_model.specs.Vars.{Variables}
use Rattle.boot_outputs.specs.Texts.{lines_of, with_all}

-- with a line for each name
abbrev pub with_values : List (List ℕ) → List ℕ → Variables → Variables
with_values names out read = with_all read (zip names (lines_of out))

-- where there is one for each, and no other
abbrev pub gotten : List (List ℕ) → List ℕ → Variables → Option Variables
gotten names out read = if length (lines_of out) == length names then Some (with_values names out read) else None
