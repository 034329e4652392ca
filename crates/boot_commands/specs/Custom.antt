-- A program of the system's own: which commands a mark takes.
use Rattle.std.specs.Prelude.{ℕ, List, [], ◌∷◌, codes, map}
use Rattle.boot_commands.specs.declared.command.Command.{Command}
use Rattle.boot_commands.specs.declared.command.Command.TheVariants.{GetPrimary, GetState, SetPrimary, SetState}
use Rattle.boot_commands.specs.declared.command.Mark.{Mark}
use Rattle.boot_commands.specs.declared.command.Mark.TheVariants.{Bad, Good, Primary}

-- the primary name is read, and the state of each name
abbrev pub readings : List ℕ → List (List ℕ) → List Command
readings program names = GetPrimary program ∷ map (λ name. GetState program name) names

-- one command for each mark
abbrev pub command_for : List ℕ → Mark → List ℕ → Command
command_for program Bad name = SetState program name (codes "bad")
command_for program Good name = SetState program name (codes "good")
command_for program Primary name = SetPrimary program name

abbrev pub plan : List ℕ → Mark → List ℕ → List Command
plan program mark name = command_for program mark name ∷ []
