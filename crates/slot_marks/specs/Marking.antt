-- The slot that is to be marked, and the mark of its bootname.
use Rattle.std.specs.Prelude.{◌≡◌, ℕ, Bool, ◌||◌, IsTrue, List, [], ◌++◌, codes, Option, None, unwrap_or, Result, Ok, Err, OnOk, ⊤, if◌then◌else◌}
use Rattle.machine.specs.declared.stops.Stop.{Stop}
use Rattle.machine.specs.declared.stops.Stop.TheVariants.{Refused, Outside, NoMemory}
use Rattle.machine.specs.declared.world.World.{World}
use Rattle.machine.specs.Frames.{Unchanged}
use Rattle.machine.specs.Past.{Fails, Past}
use Rattle.machine.specs.Stops.{Settles, stop_fault}
use Rattle.boot_commands.specs.declared.command.Mark.{Mark}
use Rattle.boot_commands.specs.declared.command.Mark.TheVariants as boot
use Rattle.boot_backends.specs.declared.refusal.BootRefusal.{BootRefusal}
use Rattle.boot_backends.specs.Systems.{Keeps, Leads, Leaves, MarkEnds}
use Rattle.system_conf.specs.declared.slot.Slot.{Slot}
use Rattle.system_conf.specs.Configuration.{Configuration}
use Rattle.slot_graph.specs.declared.state.Booted.{Booted}
use Rattle.slot_graph.specs.declared.state.Booted.TheVariants as booted
use Rattle.running_system.specs.Running.{what_runs}
use Rattle.status_file.specs.Clock.{clock_since}
use Rattle.slot_marks.specs.declared.naming.Action.{Action}
use Rattle.slot_marks.specs.declared.naming.Action.TheVariants as action
use Rattle.slot_marks.specs.declared.naming.Marked.{Marked}
use Rattle.slot_marks.specs.declared.refusal.MarkRefusal.{MarkRefusal}
use Rattle.slot_marks.specs.declared.refusal.MarkRefusal.TheVariants as mark
use Rattle.system_conf.specs.Slots.{name_at}
use Rattle.slot_marks.specs.Choice.{asks_booted, asks_other, bootname_at, chosen}

-- ---- the slot

-- the slot to be marked in a world, with the name that counts as booted where one is given
abbrev pub choice : List Slot → Option (List ℕ) → List ℕ → World → Result ℕ MarkRefusal
choice slots given who w = chosen slots (what_runs slots given w) who

-- what is booted, where the word asks for it
abbrev pub booted_for : List Slot → Option (List ℕ) → List ℕ → World → Booted
booted_for slots given who w = if asks_booted who || asks_other who then what_runs slots given w else booted.Unknown

-- the bootname of the slot at a place, as text
abbrev pub bootname_text : List Slot → ℕ → List ℕ
bootname_text slots at = unwrap_or (bootname_at slots at) []

-- where told: nothing was changed and the clock not asked, and the slot is this one, or this refusal is answered, unless a call failed
pub record Chooses (tells : Bool) (choice : Result ℕ MarkRefusal) (old new : Past) (result : Result ℕ (Stop MarkRefusal)) : Type 0 where
  pub unchanged : Unchanged tells old new
  pub silent : IsTrue tells → clock_since old new ≡ None
  pub answers : IsTrue tells → Settles result choice
  pub fails : Fails tells old new (stop_fault result)

-- told or not: the slot, or the refusal, is the one that follows from the word by what may be booted
abbrev pub ChosenFor : List Slot → List ℕ → Result ℕ (Stop MarkRefusal) → Type 0
ChosenFor slots who (Ok at) = (b : Booted) × (chosen slots b who ≡ Ok at)
ChosenFor slots who (Err (Refused why)) = (b : Booted) × (chosen slots b who ≡ Err why)
ChosenFor slots who (Err (Outside kind)) = Unit {0}
ChosenFor slots who (Err NoMemory) = Unit {0}

-- ---- the mark of its bootname

abbrev pub mark_of : Action → Mark
mark_of action.Good = boot.Good
mark_of action.Bad = boot.Bad
mark_of action.Active = boot.Primary

-- what was done to the slot of this name
abbrev pub line_of : Action → List ℕ → List ℕ
line_of action.Good name = codes "marked slot " ++ (name ++ codes " as good")
line_of action.Bad name = codes "marked slot " ++ (name ++ codes " as bad")
line_of action.Active name = codes "activated slot " ++ name

-- the slot at a place, marked
abbrev pub marked_at : List Slot → Action → ℕ → Bool → Marked
marked_at slots action at unread = record { slot = at; line = line_of action (name_at slots at); book_unread = unread }

-- a stop of the boot loader's programs
abbrev pub boot_stop : Stop BootRefusal → Stop MarkRefusal
boot_stop (Refused why) = Refused (mark.Boot why)
boot_stop (Outside kind) = Outside kind
boot_stop NoMemory = NoMemory

-- where told, a mark of a bootname: with honest programs it leaves what it is to leave, and other names keep what they are; the first of its commands were run at each moment and wherever the power stops; its answer follows from the runs
pub record MarksName (tells : Bool) (s : Configuration) (mark : Mark) (name : List ℕ) (old new : Past) (result : Result ⊤ (Stop BootRefusal)) : Type 0 where
  pub leaves : IsTrue tells → OnOk result (Leaves s mark name old new)
  pub others : IsTrue tells → Keeps s name old new
  pub leads : IsTrue tells → Leads s mark name old new
  pub causes : IsTrue tells → MarkEnds s mark name old new result
  pub fails : Fails tells old new (stop_fault result)
