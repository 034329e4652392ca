-- What commands leave of the variables, and what those of a mark are to leave.
use Rattle.std.specs.Prelude.{ℕ, ◌==◌, Bool, ◌&&◌, not, List, [], ◌∷◌, ◌++◌, Option, unwrap_or}
use Rattle.std.specs.List.{list_any}
use Rattle.boot_model.specs.Vars.{Variables}
use Rattle.boot_model.specs.declared.boot_kind.BootKind.{BootKind}
use Rattle.boot_state.specs.Orders.{is_word}
use Rattle.boot_state.specs.States.{made_primary, marked_bad, marked_good}
use Rattle.boot_programs.specs.Programs.{program}
use Rattle.boot_commands.specs.Commands.{argv}
use Rattle.boot_commands.specs.Plans.{looks, plan}
use Rattle.boot_commands.specs.declared.command.Command.{Command}
use Rattle.boot_commands.specs.declared.command.Mark.{Mark}
use Rattle.boot_commands.specs.declared.command.Mark.TheVariants.{Bad, Good, Primary}

-- the variables after these commands, one after another
abbrev pub vars_after : BootKind → List Command → Variables → Variables
vars_after kind [] vars = vars
vars_after kind (command ∷ commands) vars = vars_after kind commands (program kind (argv command) vars).vars

-- the commands of a mark, by the variables that were read
abbrev pub commands_of : BootKind → List (List ℕ) → Mark → List ℕ → Variables → List Command
commands_of kind names mark name read = looks kind names mark ++ unwrap_or (plan kind names mark name read) []

-- the variables that a mark is to leave; none where there is no such name to the boot loader
abbrev pub left_by : BootKind → List (List ℕ) → Mark → List ℕ → Variables → Option Variables
left_by kind names Bad name vars = marked_bad kind names name vars
left_by kind names Good name vars = marked_good kind names name vars
left_by kind names Primary name vars = made_primary kind names name vars

-- a bootname: it can stand in each order, and has no `=`
abbrev pub is_name : List ℕ → Bool
is_name name = is_word name && not (list_any (λ byte. byte == 61) name)
