-- The child that runs a command, how it may end, and what is taken of what it printed.
use Rattle.std.specs.Prelude.{ℕ, ◌==◌, Bool, true, false, not, ◌&&◌, ◌||◌, [], Option, Some, None, bytes_eq, if◌then◌else◌}
use Rattle.std.specs.Str.{is_utf8}
use Rattle.boot_model.specs.Vars.{Variables}
use Rattle.boot_commands.specs.declared.command.Command.{Command}
use Rattle.boot_commands.specs.declared.command.Command.TheVariants as command
use Rattle.boot_commands.specs.Commands.{arguments_of, program_of}
use Rattle.boot_outputs.specs.Outputs.{spelled}
use Rattle.machine.specs.declared.world.Child.{Child}
use Rattle.machine.specs.declared.world.ChildClass.TheVariants.{Boot}
use Rattle.machine.specs.declared.world.Ended.{Ended}
use Rattle.machine.specs.declared.world.Ended.TheVariants.{Code, Signal}
use Rattle.machine.specs.declared.world.Exit.{Exit}

-- the child that runs a command: it adds nothing to the environment, and has no list of what it must leave alone
abbrev pub boot_child : Command → Child
boot_child c = record {
  class = Boot;
  program = program_of c;
  args = arguments_of c;
  env = [];
  spares = record { disks = []; files = []; boot = false };
}

-- it ended with this status
abbrev pub is_code : ℕ → Ended → Bool
is_code status (Code code) = code == status
is_code status Signal = false

-- the command asks for one variable, which may not be set
abbrev pub asks_one : Command → Bool
asks_one (command.PrintVariable name) = true
asks_one _ = false

-- the command may end so: with 0, or where it asked for one variable and printed nothing, with 1
abbrev pub is_stated : Command → Exit → Bool
is_stated c exit = is_code 0 exit.ended || (asks_one c && (is_code 1 exit.ended && bytes_eq exit.out []))

-- the command prints variables
abbrev pub is_reading : Command → Bool
is_reading (command.ListVariables file) = true
is_reading (command.PrintVariable name) = true
is_reading (command.PrintState state names) = true
is_reading command.ListEntries = true
is_reading (command.GetPrimary program) = true
is_reading (command.GetState program name) = true
is_reading _ = false

-- what a whole text adds to the variables read so far, where the program ended with 0
abbrev pub told_by : Command → Exit → Variables → Option Variables
told_by c exit read = if is_code 0 exit.ended then spelled c exit.out read else Some read

-- the variables read so far with those that the command printed; none where its text is cut, no UTF-8 or not in its form
abbrev pub taken : Command → Exit → Variables → Option Variables
taken c exit read = if is_reading c then (if exit.cut || not (is_utf8 exit.out) then None else told_by c exit read) else Some read
