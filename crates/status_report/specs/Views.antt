-- What is told of the slots, by the world and by what the boot loader's programs print.
use Rattle.std.specs.Prelude.{◌≡◌, ℕ, Bool, List, map, Option, Result, Ok, Err, option_map}
use Rattle.std.specs.FinMap as fin
use Rattle.boot_model.specs.Vars.{Variables}
use Rattle.boot_model.specs.declared.boot_kind.BootKind.{BootKind}
use Rattle.boot_state.specs.States.{good}
use Rattle.boot_commands.specs.Plans.{readings}
use Rattle.boot_backends.specs.declared.refusal.BootRefusal.{BootRefusal}
use Rattle.boot_backends.specs.Causes.{AreServed, CommandsCause}
use Rattle.boot_backends.specs.Honest.{Honest}
use Rattle.boot_backends.specs.Marked.{names_of, primary_slot}
use Rattle.machine.specs.declared.calls.CallStop.{CallStop}
use Rattle.machine.specs.declared.calls.CallStop.TheVariants as call
use Rattle.machine.specs.declared.stops.Fault.TheVariants as fault
use Rattle.machine.specs.declared.stops.Stop.{Stop}
use Rattle.machine.specs.declared.stops.Stop.TheVariants.{Refused, Outside, NoMemory}
use Rattle.machine.specs.declared.world.RunNote.{RunNote}
use Rattle.machine.specs.declared.world.World.{World}
use Rattle.machine.specs.Past.{Past, world_now}
use Rattle.machine.specs.Runs.{runs_since}
use Rattle.running_system.specs.Running.{what_runs}
use Rattle.slot_graph.specs.Booted.{states_of}
use Rattle.status_file.specs.Status.{book_in, is_unread, status_bytes}
use Rattle.system_conf.specs.declared.slot.Slot.{Slot}
use Rattle.system_conf.specs.Configuration.{Configuration}
use Rattle.status_report.specs.declared.view.StatusView.{StatusView}

-- whether the boot loader may boot the slot, where it has a bootname
abbrev pub is_good : BootKind → Variables → List Slot → Slot → Option Bool
is_good boot vars slots s = option_map (λ name. good boot vars (names_of slots) name) s.bootname

-- the same of each slot
abbrev pub are_good : BootKind → Variables → List Slot → List (Option Bool)
are_good boot vars slots = map (is_good boot vars slots) slots

-- what is booted, the states of the slots and the stored book are those of the world
pub record TellsWorld (s : Configuration) (given : Option (List ℕ)) (w : World) (view : StatusView) : Type 0 where
  pub booted : view.booted ≡ what_runs s.slots given w
  pub states : view.states ≡ states_of s.slots (what_runs s.slots given w)
  pub book : view.book ≡ book_in s.slots (status_bytes s w)
  pub book_unread : view.book_unread ≡ is_unread s.slots (status_bytes s w)

-- which slot is primary and which are good is told by these variables
pub record TellsVars (s : Configuration) (vars : Variables) (view : StatusView) : Type 0 where
  pub primary : view.primary ≡ primary_slot s.boot vars s.slots
  pub good : view.good ≡ are_good s.boot vars s.slots

-- with honest programs, by the variables before
abbrev pub TellsBoot : Configuration → Past → Past → StatusView → Type 0
TellsBoot s old new view = Honest s.boot old new → TellsVars s (world_now old).vars view

-- the answer by the runs: all that read served, and the view tells what was read; or why one of them did not
abbrev pub ViewCause : Configuration → List RunNote → Result StatusView (Stop BootRefusal) → Type 0
ViewCause s notes (Ok view) = (read : Variables) × AreServed (readings s.boot (names_of s.slots)) notes fin.empty read × TellsVars s read view
ViewCause s notes (Err (Refused why)) = CommandsCause (readings s.boot (names_of s.slots)) fin.empty notes (Err (Refused why))
ViewCause s notes (Err (Outside kind)) = Unit {0}
ViewCause s notes (Err NoMemory) = Unit {0}

abbrev pub ViewEnds : Configuration → Past → Past → Result StatusView (Stop BootRefusal) → Type 0
ViewEnds s old new result = ViewCause s (runs_since (world_now old) (world_now new)) result

-- a stop of a read
abbrev pub read_stop : CallStop → Stop BootRefusal
read_stop call.Failed = Outside fault.Read
read_stop call.NoMemory = NoMemory
