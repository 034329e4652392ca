-- GRUB: which commands a mark takes.
use Rattle.std.specs.Prelude.{ℕ, List, [], ◌∷◌, ◌++◌, codes}
use Rattle.boot_model.specs.Vars.{Variables}
use Rattle.boot_state.specs.Grub.{ok_name, order_name, try_name}
use Rattle.boot_state.specs.Orders.{joined, others, words_at}
use Rattle.boot_commands.specs.declared.command.Command.{Command}
use Rattle.boot_commands.specs.declared.command.Command.TheVariants.{ListVariables, SetVariables}
use Rattle.boot_commands.specs.declared.command.Mark.{Mark}
use Rattle.boot_commands.specs.declared.command.Mark.TheVariants.{Bad, Good, Primary}
use Rattle.boot_commands.specs.declared.command.Setting.{Setting}

-- everything is read by one command
abbrev pub readings : List ℕ → List Command
readings file = ListVariables file ∷ []

-- the order is read, where it is written
abbrev pub looks : List ℕ → Mark → List Command
looks file Bad = []
looks file Good = []
looks file Primary = readings file

-- whether the name works, and that it is not being tried
abbrev pub marks : List ℕ → List ℕ → List Setting
marks works name = record { name = ok_name name; value = works } ∷ record { name = try_name name; value = codes "0" } ∷ []

-- the order with the name first
abbrev pub order_setting : List (List ℕ) → List ℕ → Variables → Setting
order_setting names name vars = record { name = order_name; value = joined 32 (name ∷ others names name (words_at vars order_name)) }

-- what a mark sets
abbrev pub settings_of : List (List ℕ) → Mark → List ℕ → Variables → List Setting
settings_of names Bad name vars = marks (codes "0") name
settings_of names Good name vars = marks (codes "1") name
settings_of names Primary name vars = marks (codes "1") name ++ order_setting names name vars ∷ []

-- all by one command
abbrev pub plan : List ℕ → List (List ℕ) → Mark → List ℕ → Variables → List Command
plan file names mark name vars = SetVariables file (settings_of names mark name vars) ∷ []
