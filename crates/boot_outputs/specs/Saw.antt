-- What honest programs show of the variables.
use Rattle.std.specs.Prelude.{◌≡◌, ◌⊎◌, ℕ, true, List, [], ◌∷◌, Some, None}
use Rattle.boot_model.specs.Vars.{Variables}
use Rattle.boot_model.specs.declared.boot_kind.BootKind.{BootKind}
use Rattle.boot_state.specs.Orders.{has_word, value}
use Rattle.boot_state.specs.States as states
use Rattle.boot_programs.specs.Programs.{program}
use Rattle.boot_commands.specs.Commands.{argv}
use Rattle.boot_commands.specs.declared.command.Command.{Command}
use Rattle.boot_commands.specs.declared.command.Command.TheVariants as command
use Rattle.boot_outputs.specs.Outputs.{spelled}
use Rattle.boot_outputs.specs.Plain.{IsPlain}

-- the command asks U-Boot for a variable that is not set
abbrev pub IsUnset : Command → Variables → Type 0
IsUnset (command.PrintVariable name) vars = value vars name ≡ None
IsUnset _ vars = ⊥

-- what one command makes of what was read: its program prints what it is to, or nothing of a variable that is not set
abbrev pub Shows : BootKind → Command → Variables → Variables → Variables → Type 0
Shows kind c vars read more = (spelled c (program kind (argv c) vars).out read ≡ Some more) ⊎ (IsUnset c vars × (more ≡ read))

-- what commands make of it one after another, over variables that are plain each time
abbrev pub Saw : BootKind → List Command → Variables → Variables → Variables → Type 0
Saw kind [] vars read last = last ≡ read
Saw kind (c ∷ cs) vars read last =
    (more : Variables) × (IsPlain kind vars × Shows kind c vars read more × Saw kind cs (program kind (argv c) vars).vars more last)

-- by what was read, the same ones of the names are good, and the same one is primary
pub record TellsStates (kind : BootKind) (names : List (List ℕ)) (vars last : Variables) : Type 0 where
  pub good : (name : List ℕ) → has_word names name ≡ true → states.good kind last names name ≡ states.good kind vars names name
  pub primary : states.primary kind last names ≡ states.primary kind vars names
