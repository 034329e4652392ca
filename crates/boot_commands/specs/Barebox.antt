-- barebox: which commands a mark takes.
use Rattle.std.specs.Prelude.{ℕ, ◌==◌, List, [], ◌∷◌, codes, nat_lt, Option, if◌then◌else◌}
use Rattle.std.specs.List.{flat_map}
use Rattle.std.specs.Str.{bytes_eq}
use Rattle.boot_model.specs.Vars.{Variables}
use Rattle.boot_state.specs.Barebox.{attempts_name, priority_name, priority_of}
use Rattle.boot_state.specs.Orders.{digit_of}
use Rattle.boot_commands.specs.declared.command.Command.{Command}
use Rattle.boot_commands.specs.declared.command.Command.TheVariants.{PrintState, StoreState}
use Rattle.boot_commands.specs.declared.command.Mark.{Mark}
use Rattle.boot_commands.specs.declared.command.Mark.TheVariants.{Bad, Good, Primary}
use Rattle.boot_commands.specs.declared.command.Setting.{Setting}

-- both variables of a name
abbrev pub both_names : List ℕ → List (List ℕ)
both_names name = priority_name name ∷ attempts_name name ∷ []

-- those of each name
abbrev pub variables_of : List (List ℕ) → List (List ℕ)
variables_of names = flat_map both_names names

-- they are read by one command, and by none where there is no name
abbrev pub readings : Option (List ℕ) → List (List ℕ) → List Command
readings state [] = []
readings state (name ∷ names) = PrintState state (variables_of (name ∷ names)) ∷ []

-- the priorities are read, where they matter
abbrev pub looks : Option (List ℕ) → List (List ℕ) → Mark → List Command
looks state names Bad = []
looks state names Good = readings state names
looks state names Primary = readings state names

abbrev pub priority_setting : List ℕ → List ℕ → Setting
priority_setting priority name = record { name = priority_name name; value = priority }

abbrev pub attempts_setting : List ℕ → List ℕ → Setting
attempts_setting attempts name = record { name = attempts_name name; value = attempts }

-- the name is not to be booted
abbrev pub bad_settings : List ℕ → List Setting
bad_settings name = priority_setting (codes "0") name ∷ attempts_setting (codes "0") name ∷ []

-- the name has its attempts, and a priority where it had none
abbrev pub good_settings : ℕ → List ℕ → Variables → List Setting
good_settings attempts name vars =
    attempts_setting (digit_of attempts) name ∷ (if priority_of vars name == 0 then priority_setting (codes "10") name ∷ [] else [])

-- of one of the names: the one that is made primary is high, and another that has a priority is low
abbrev pub rank : List ℕ → List ℕ → Variables → List ℕ → List Setting
rank attempts name vars other =
    if bytes_eq other name then priority_setting (codes "20") name ∷ attempts_setting attempts name ∷ []
    else if nat_lt 0 (priority_of vars other) then priority_setting (codes "10") other ∷ []
    else []

-- the same of all names
abbrev pub ranks : ℕ → List (List ℕ) → List ℕ → Variables → List Setting
ranks attempts names name vars = flat_map (rank (digit_of attempts) name vars) names

-- what a mark sets
abbrev pub settings_of : ℕ → ℕ → List (List ℕ) → Mark → List ℕ → Variables → List Setting
settings_of attempts primary_attempts names Bad name vars = bad_settings name
settings_of attempts primary_attempts names Good name vars = good_settings attempts name vars
settings_of attempts primary_attempts names Primary name vars = ranks primary_attempts names name vars

-- all by one command
abbrev pub plan : Option (List ℕ) → ℕ → ℕ → List (List ℕ) → Mark → List ℕ → Variables → List Command
plan state attempts primary_attempts names mark name vars = StoreState state (settings_of attempts primary_attempts names mark name vars) ∷ []
