-- A backend of the system's own: what `get-primary` and `get-state` print.
use Rattle.std.specs.Prelude.{ℕ, ◌||◌, List, codes, Option, Some, None, if◌then◌else◌}
use Rattle.std.specs.FinMap as fin
use Rattle.std.specs.Str.{bytes_eq}
use Rattle.boot_model.specs.Vars.{Variables}
use Rattle.boot_state.specs.Custom.{primary_name, with_state}
use Rattle.boot_outputs.specs.Texts.{first_line}

-- the first line is the primary name
abbrev pub primary_told : List ℕ → Variables → Option Variables
primary_told out read = Some (fin.insert read primary_name (first_line out))

-- the first line is the state of a name: it is `good` or `bad`
abbrev pub state_told : List ℕ → List ℕ → Variables → Option Variables
state_told name out read =
    if bytes_eq (first_line out) (codes "good") || bytes_eq (first_line out) (codes "bad")
    then Some (with_state (first_line out) name read) else None
