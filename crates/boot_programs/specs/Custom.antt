-- A backend of the system's own, by the words after its path.
use Rattle.std.specs.Prelude.{ℕ, List, [], ◌∷◌, ◌++◌, Bool, codes, bytes_eq, unwrap_or, if◌then◌else◌}
use Rattle.std.specs.Option.{option_map_or}
use Rattle.std.specs.FinMap.{get}
use Rattle.boot_model.specs.Vars.{Variables}
use Rattle.boot_state.specs.Custom.{is_down, made_primary, primary_name, state_name, with_state}
use Rattle.boot_programs.specs.declared.program_end.ProgramEnd.{ProgramEnd}
use Rattle.boot_programs.specs.Ends.{refused, printed, changed}

-- the primary name, where it is set and not bad
abbrev pub primary_text : Variables → List ℕ
primary_text vars = option_map_or (λ name. if is_down vars name then [] else name) (get vars primary_name) []

-- the state of a name, which is good where none is set
abbrev pub state_text : Variables → List ℕ → List ℕ
state_text vars name = unwrap_or (get vars (state_name name)) (codes "good")

-- `get-primary`
abbrev pub on_primary : List ℕ → Variables → ProgramEnd
on_primary verb vars = if bytes_eq verb (codes "get-primary") then printed vars (primary_text vars ++ 10 ∷ []) else refused vars

-- `get-state NAME`, `set-primary NAME`
abbrev pub on_name : List ℕ → List ℕ → Variables → ProgramEnd
on_name verb name vars =
    if bytes_eq verb (codes "get-state") then printed vars (state_text vars name ++ 10 ∷ [])
    else (if bytes_eq verb (codes "set-primary") then changed (made_primary name vars) else refused vars)

-- `set-state NAME STATE`
abbrev pub on_state : List ℕ → List ℕ → List ℕ → Variables → ProgramEnd
on_state verb name state vars = if bytes_eq verb (codes "set-state") then changed (with_state state name vars) else refused vars

-- by how many words there are
abbrev pub custom_backend : List (List ℕ) → Variables → ProgramEnd
custom_backend (verb ∷ []) vars = on_primary verb vars
custom_backend (verb ∷ name ∷ []) vars = on_name verb name vars
custom_backend (verb ∷ name ∷ state ∷ []) vars = on_state verb name state vars
custom_backend _ vars = refused vars
