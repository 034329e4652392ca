-- What the variables of a program of the system's own mean: for each name a state, and the primary name.
use Rattle.std.specs.Prelude.{ℕ, Bool, false, ◌&&◌, not, List, ◌++◌, codes, Option, Some, None, option_and_then, if◌then◌else◌}
use Rattle.std.specs.FinMap as fin
use Rattle.std.specs.Option.{option_map_or}
use Rattle.std.specs.Str.{bytes_eq}
use Rattle.boot_model.specs.Vars.{Variables}
use Rattle.boot_state.specs.Orders.{has_word, value}

-- the state of a name
abbrev pub state_name : List ℕ → List ℕ
state_name name = codes "state." ++ name

-- the primary name
abbrev pub primary_name : List ℕ
primary_name = codes "primary"

-- a name whose state is bad stays out, whatever is done to the others
abbrev pub is_down : Variables → List ℕ → Bool
is_down vars name = option_map_or (λ state. bytes_eq state (codes "bad")) (value vars (state_name name)) false

-- a name is good where its state is not bad
abbrev pub is_good : Variables → List ℕ → Bool
is_good vars name = not (is_down vars name)

-- the primary name, where it is one of the names, and good
abbrev pub primary : Variables → List (List ℕ) → Option (List ℕ)
primary vars names = option_and_then (λ name. if has_word names name && is_good vars name then Some name else None) (value vars primary_name)

-- the name has this state
abbrev pub with_state : List ℕ → List ℕ → Variables → Variables
with_state state name vars = fin.insert vars (state_name name) state

-- the state of the name is bad
abbrev pub marked_bad : List ℕ → Variables → Variables
marked_bad name vars = with_state (codes "bad") name vars

-- the state of the name is good
abbrev pub marked_good : List ℕ → Variables → Variables
marked_good name vars = with_state (codes "good") name vars

-- the name is primary, and good
abbrev pub made_primary : List ℕ → Variables → Variables
made_primary name vars = with_state (codes "good") name (fin.insert vars primary_name name)
