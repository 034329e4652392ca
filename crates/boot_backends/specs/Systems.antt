-- The same for the boot loader and the bootnames of a system, as the contracts cite it.
use Rattle.std.specs.Prelude.{ℕ, List, Option, Result, ⊤}
use Rattle.std.specs.FinMap as fin
use Rattle.boot_model.specs.Vars.{Variables}
use Rattle.boot_commands.specs.declared.command.Mark.{Mark}
use Rattle.boot_commands.specs.Plans.{readings}
use Rattle.machine.specs.declared.stops.Stop.{Stop}
use Rattle.machine.specs.Past.{Always, Past, world_now}
use Rattle.machine.specs.Runs.{runs_since}
use Rattle.system_conf.specs.Configuration.{Configuration}
use Rattle.boot_backends.specs.declared.refusal.BootRefusal.{BootRefusal}
use Rattle.boot_backends.specs.Causes.{CommandsCause, MarkCause}
use Rattle.boot_backends.specs.Marked.{Downs, KeepsOthers, Led, Left, OnlyReadVars, PrimaryCause, PrimaryTold, Told, names_of}

-- honest programs left what the mark is to leave
abbrev pub Leaves : Configuration → Mark → List ℕ → Past → Past → Type 0
Leaves s mark name old new = Left s.boot (names_of s.slots) mark name old new

-- honest programs left the name down
abbrev pub LeavesDown : Configuration → List ℕ → Past → Past → Type 0
LeavesDown s name old new = Downs s.boot name old new

-- with honest programs, other names keep what they are wherever the power stops
abbrev pub Keeps : Configuration → List ℕ → Past → Past → Type 0
Keeps s name old new = KeepsOthers s.boot (names_of s.slots) name old new

-- at each moment since, and wherever the power stops, the first of the mark's commands were run
abbrev pub Leads : Configuration → Mark → List ℕ → Past → Past → Type 0
Leads s mark name old new = Led s.boot (names_of s.slots) mark name old new

-- the answer of the mark follows from its runs
abbrev pub MarkEnds : Configuration → Mark → List ℕ → Past → Past → Result ⊤ (Stop BootRefusal) → Type 0
MarkEnds s mark name old new result = MarkCause s.boot (names_of s.slots) mark name (runs_since (world_now old) (world_now new)) result

-- by what honest programs printed, the same names are good and the same one is primary
abbrev pub Tells : Configuration → Past → Past → Variables → Type 0
Tells s old new read = Told s.boot (names_of s.slots) old new read

-- at each moment since, nothing was done but that the first of the commands that read were run
abbrev pub ReadsOnly : Configuration → Past → Past → Type 0
ReadsOnly s old new = Always old new (OnlyReadVars s.boot (names_of s.slots) (world_now old))

-- the answer of the reading follows from its runs
abbrev pub ReadEnds : Configuration → Past → Past → Result Variables (Stop BootRefusal) → Type 0
ReadEnds s old new result = CommandsCause (readings s.boot (names_of s.slots)) fin.empty (runs_since (world_now old) (world_now new)) result

-- the slot is the primary one of the variables before
abbrev pub TellsPrimary : Configuration → Past → Past → Option ℕ → Type 0
TellsPrimary s old new at = PrimaryTold s.boot s.slots old new at

-- the answer follows from the runs
abbrev pub PrimaryEnds : Configuration → Past → Past → Result (Option ℕ) (Stop BootRefusal) → Type 0
PrimaryEnds s old new result = PrimaryCause s.boot s.slots (runs_since (world_now old) (world_now new)) result
