-- How commands that are run one after another end, by the pasts in between.
use Rattle.std.specs.Prelude.{◌≡◌, ◌⊎◌, ℕ, true, false, List, [], ◌∷◌, Option, Some, None, Result, Ok, Err, ⊤}
use Rattle.std.specs.FinMap as fin
use Rattle.boot_model.specs.Vars.{Variables}
use Rattle.boot_model.specs.declared.boot_kind.BootKind.{BootKind}
use Rattle.boot_commands.specs.declared.command.Command.{Command}
use Rattle.boot_commands.specs.declared.command.Mark.{Mark}
use Rattle.boot_commands.specs.Commands.{argv}
use Rattle.boot_commands.specs.Plans.{looks, plan}
use Rattle.machine.specs.declared.stops.Fault.TheVariants as fault
use Rattle.machine.specs.declared.stops.Stop.{Stop}
use Rattle.machine.specs.declared.stops.Stop.TheVariants.{Refused, Outside, NoMemory}
use Rattle.machine.specs.declared.calls.RunStop.{RunStop}
use Rattle.machine.specs.declared.calls.RunStop.TheVariants as run
use Rattle.machine.specs.declared.world.Exit.{Exit}
use Rattle.machine.specs.Calls.{RunEnds}
use Rattle.machine.specs.Past.{Past}
use Rattle.boot_backends.specs.declared.refusal.BootRefusal.{BootRefusal}
use Rattle.boot_backends.specs.declared.refusal.BootRefusal.TheVariants.{Program, Output, Unlisted}
use Rattle.boot_backends.specs.Runs.{boot_child, is_stated, taken}

-- a stop of a child that gave no end
abbrev pub run_stop : RunStop → Stop BootRefusal
run_stop run.Failed = Outside fault.Run
run_stop run.NoMemory = NoMemory

-- the command was run by one call, and ended so
abbrev pub Ran : Command → Exit → Past → Past → Type 0
Ran c exit a z = RunEnds a z (boot_child c) (Ok exit)

-- what is made of the end of a command
abbrev pub Judged : Command → Exit → Variables → Variables → Result ⊤ (Stop BootRefusal) → Type 0
Judged c exit read more (Ok x) = (is_stated c exit ≡ true) × (taken c exit read ≡ Some more)
Judged c exit read more (Err (Refused (Program words ended))) = (is_stated c exit ≡ false) × (words ≡ argv c) × (ended ≡ exit.ended)
Judged c exit read more (Err (Refused (Output words))) = (is_stated c exit ≡ true) × (taken c exit read ≡ None) × (words ≡ argv c)
Judged c exit read more (Err (Refused (Unlisted name))) = ⊥
Judged c exit read more (Err (Outside kind)) = ⊥
Judged c exit read more (Err NoMemory) = Unit {0}

-- how one command ends
abbrev pub OneEnds : Command → Variables → Variables → Past → Past → Result ⊤ (Stop BootRefusal) → Type 0
OneEnds c read more a z (Ok x) = (exit : Exit) × Ran c exit a z × Judged c exit read more (Ok x)
OneEnds c read more a z (Err (Refused why)) = (exit : Exit) × Ran c exit a z × Judged c exit read more (Err (Refused why))
OneEnds c read more a z (Err (Outside kind)) = (kind ≡ fault.Run) × RunEnds a z (boot_child c) (Err run.Failed)
OneEnds c read more a z (Err NoMemory) = (z ≡ a) ⊎ ((exit : Exit) × Ran c exit a z)

-- the commands were run in order, up to the first that did not end as it must
abbrev pub Finishes : List Command → Variables → Past → Past → Result Variables (Stop BootRefusal) → Type 0
Finishes [] read a z result = (z ≡ a) × ((result ≡ Ok read) ⊎ (result ≡ Err NoMemory))
Finishes (c ∷ cs) read a z result =
    ((stop : Stop BootRefusal) × (more : Variables) × (result ≡ Err stop) × OneEnds c read more a z (Err stop))
    ⊎ ((more : Variables) × ((b : Past) × OneEnds c read more a b (Ok tt) × Finishes cs more b z result))

-- what is planned was written, or there is no such name to the boot loader
abbrev pub Writes : Option (List Command) → List ℕ → Past → Past → Result ⊤ (Stop BootRefusal) → Type 0
Writes None name a z result = (z ≡ a) × ((result ≡ Err (Refused (Unlisted name))) ⊎ (result ≡ Err NoMemory))
Writes (Some cs) name a z (Ok x) = (last : Variables) × Finishes cs fin.empty a z (Ok last)
Writes (Some cs) name a z (Err stop) = Finishes cs fin.empty a z (Err stop)

-- a mark looks, and then writes what is planned by what it saw
abbrev pub Marks : BootKind → List (List ℕ) → Mark → List ℕ → Past → Past → Result ⊤ (Stop BootRefusal) → Type 0
Marks kind names mark name a z result =
    ((stop : Stop BootRefusal) × (result ≡ Err stop) × Finishes (looks kind names mark) fin.empty a z (Err stop))
    ⊎ ((read : Variables) × ((b : Past) × Finishes (looks kind names mark) fin.empty a b (Ok read) × Writes (plan kind names mark name read) name b z result))
