-- Why commands that were run end so, by their runs.
use Rattle.std.specs.Prelude.{◌≡◌, ◌⊎◌, ℕ, true, false, List, [], ◌∷◌, ◌++◌, Option, Some, None, Result, Ok, Err, ⊤}
use Rattle.std.specs.FinMap as fin
use Rattle.boot_model.specs.Vars.{Variables}
use Rattle.boot_model.specs.declared.boot_kind.BootKind.{BootKind}
use Rattle.boot_commands.specs.declared.command.Command.{Command}
use Rattle.boot_commands.specs.declared.command.Mark.{Mark}
use Rattle.boot_commands.specs.Commands.{argv}
use Rattle.boot_commands.specs.Plans.{looks, plan}
use Rattle.machine.specs.declared.stops.Fault.TheVariants as fault
use Rattle.machine.specs.declared.stops.Stop.{Stop}
use Rattle.machine.specs.declared.stops.Stop.TheVariants.{Refused, Outside, NoMemory}
use Rattle.machine.specs.declared.world.Exit.{Exit}
use Rattle.machine.specs.declared.world.RunNote.{RunNote}
use Rattle.boot_backends.specs.declared.refusal.BootRefusal.{BootRefusal}
use Rattle.boot_backends.specs.declared.refusal.BootRefusal.TheVariants.{Program, Output, Unlisted}
use Rattle.boot_backends.specs.Runs.{boot_child, is_stated, taken}

-- these runs are of these commands, all of them in order; each ended as it may, and what they printed makes `last` of `read`
abbrev pub AreServed : List Command → List RunNote → Variables → Variables → Type 0
AreServed [] [] read last = last ≡ read
AreServed (c ∷ cs) [] read last = ⊥
AreServed [] (n ∷ ns) read last = ⊥
AreServed (c ∷ cs) (n ∷ ns) read last =
    (more : Variables) × ((n.child ≡ boot_child c) × (is_stated c n.exit ≡ true) × (taken c n.exit read ≡ Some more) × AreServed cs ns more last)

-- these runs are of the first of these commands, and served
pub record FirstServed (cs : List Command) (read : Variables) (notes : List RunNote) (last : Variables) : Type 0 where
  pub before : List Command
  pub after : List Command
  pub order : cs ≡ before ++ after
  pub served : AreServed before notes read last

-- the last of these runs is of this command and ended so, and those before are of the commands before it, and served
pub record LastRun (cs : List Command) (read : Variables) (notes : List RunNote) (c : Command) (exit : Exit) (last : Variables) : Type 0 where
  pub before : List Command
  pub after : List Command
  pub earlier : List RunNote
  pub order : cs ≡ before ++ c ∷ after
  pub served : AreServed before earlier read last
  pub runs : notes ≡ earlier ++ record { child = boot_child c; exit = exit } ∷ []

-- a command that ended so is refused by its end
pub record BadEnd (c : Command) (exit : Exit) (why : BootRefusal) : Type 0 where
  pub end : is_stated c exit ≡ false
  pub is : why ≡ Program (argv c) exit.ended

-- or by what it printed
pub record BadOutput (c : Command) (exit : Exit) (read : Variables) (why : BootRefusal) : Type 0 where
  pub end : is_stated c exit ≡ true
  pub none : taken c exit read ≡ None
  pub is : why ≡ Output (argv c)

abbrev pub IsRefused : Command → Exit → Variables → BootRefusal → Type 0
IsRefused c exit read why = BadEnd c exit why ⊎ BadOutput c exit read why

-- the answer of commands that were to be run one after another, by their runs
abbrev pub CommandsCause : List Command → Variables → List RunNote → Result Variables (Stop BootRefusal) → Type 0
CommandsCause cs read notes (Ok last) = AreServed cs notes read last
CommandsCause cs read notes (Err (Refused why)) = (c : Command) × (exit : Exit) × (last : Variables) × LastRun cs read notes c exit last × IsRefused c exit last why
CommandsCause cs read notes (Err (Outside kind)) = (last : Variables) × FirstServed cs read notes last × (kind ≡ fault.Run)
CommandsCause cs read notes (Err NoMemory) = Unit {0}

-- these runs are of all that reads before a mark, and served; then come the others
pub record Looked (kind : BootKind) (names : List (List ℕ)) (mark : Mark) (notes later : List RunNote) (read : Variables) : Type 0 where
  pub looked : List RunNote
  pub runs : notes ≡ looked ++ later
  pub served : AreServed (looks kind names mark) looked fin.empty read

-- the answer of what a mark plans by what it read
abbrev pub PlanCause : Option (List Command) → List ℕ → List RunNote → Result ⊤ (Stop BootRefusal) → Type 0
PlanCause None name notes (Ok x) = ⊥
PlanCause None name notes (Err (Refused why)) = (notes ≡ []) × (why ≡ Unlisted name)
PlanCause None name notes (Err (Outside kind)) = ⊥
PlanCause None name notes (Err NoMemory) = Unit {0}
PlanCause (Some cs) name notes (Ok x) = (last : Variables) × AreServed cs notes fin.empty last
PlanCause (Some cs) name notes (Err stop) = CommandsCause cs fin.empty notes (Err stop)

-- the answer of a mark, by its runs: it stopped at what reads, or all of that served and it ended by its plan
abbrev pub MarkCause : BootKind → List (List ℕ) → Mark → List ℕ → List RunNote → Result ⊤ (Stop BootRefusal) → Type 0
MarkCause kind names mark name notes result =
    ((stop : Stop BootRefusal) × (result ≡ Err stop) × CommandsCause (looks kind names mark) fin.empty notes (Err stop))
    ⊎ ((later : List RunNote) × (read : Variables) × Looked kind names mark notes later read × PlanCause (plan kind names mark name read) name later result)
