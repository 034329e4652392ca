-- What the status file notes of a slot that is activated.
use Rattle.std.specs.Prelude.{◌≡◌, ◌⊎◌, ℕ, ℤ, Bool, IsTrue, List, Option, Some, None, option_and_then, Result, Ok, Err, OnOk, ⊤}
use Rattle.boot_model.specs.Vars.{Variables}
use Rattle.boot_commands.specs.Effects.{commands_of}
use Rattle.boot_commands.specs.declared.command.Mark.TheVariants as boot
use Rattle.machine.specs.declared.stops.Stop.{Stop}
use Rattle.machine.specs.declared.stops.Stop.TheVariants.{Refused, Outside, NoMemory}
use Rattle.machine.specs.declared.world.World.{World}
use Rattle.machine.specs.Frames.{Unchanged}
use Rattle.machine.specs.Past.{Always, Fails, Held, Past, world_now}
use Rattle.machine.specs.Stops.{stop_fault}
use Rattle.machine.specs.World.{file, put_under, with_file}
use Rattle.system_conf.specs.declared.slot.Slot.{Slot}
use Rattle.system_conf.specs.Configuration.{Configuration}
use Rattle.slot_status.specs.Changes.{activated}
use Rattle.slot_status.specs.Records.{RecordContent}
use Rattle.slot_status.specs.Refusals.{ready_refusal}
use Rattle.slot_status.specs.Texts.{book_text}
use Rattle.slot_status.specs.declared.refusal.StatusRefusal.{StatusRefusal}
use Rattle.status_file.specs.Clock.{clock_since}
use Rattle.status_file.specs.Status.{book_in, is_unread, names_in}
use Rattle.boot_backends.specs.Marked.{names_of}
use Rattle.boot_backends.specs.Systems.{Keeps, Leaves, MarkEnds}
use Rattle.boot_backends.specs.Through.{StoppedThrough, Through}
use Rattle.slot_marks.specs.declared.naming.Action.{Action}
use Rattle.slot_marks.specs.declared.naming.Action.TheVariants as action
use Rattle.slot_marks.specs.declared.noting.Noted.{Noted}
use Rattle.slot_marks.specs.declared.refusal.MarkRefusal.{MarkRefusal}
use Rattle.slot_marks.specs.declared.refusal.MarkRefusal.TheVariants as mark

-- ---- the text

-- the status file that an action writes, where there is one
abbrev pub noted_by : Configuration → Action → Option (List ℕ)
noted_by s action.Good = None
noted_by s action.Bad = None
noted_by s action.Active = s.status_file

-- a text, unless there is a refusal
abbrev pub if_ready : Option StatusRefusal → List ℕ → Option (List ℕ)
if_ready None text = Some text
if_ready (Some why) text = None

-- the text that notes by a book that the slot at a place was activated
abbrev pub activated_text : List Slot → List RecordContent → ℕ → ℤ → List ℕ
activated_text slots book at seconds = book_text (names_in slots) (activated at seconds book)

-- the new text, by what the file says and what the clock said: none where that said nothing, or the record may not change
abbrev pub new_text : List Slot → Option (List ℕ) → ℕ → Option ℤ → Option (List ℕ)
new_text slots there at clock =
    option_and_then (λ seconds. if_ready (ready_refusal (book_in slots there) at seconds) (activated_text slots (book_in slots there) at seconds)) clock

-- ---- before the mark

-- what is to be noted by a book, or why its record may not change
abbrev pub NotedBy : List Slot → List RecordContent → Bool → ℕ → ℤ → Result Noted (Stop MarkRefusal) → Type 0
NotedBy slots book unread at seconds (Ok noted) =
    (ready_refusal book at seconds ≡ None) × (noted.text ≡ activated_text slots book at seconds) × (noted.unread ≡ unread)
NotedBy slots book unread at seconds (Err (Refused (mark.Status why))) = ready_refusal book at seconds ≡ Some why
NotedBy slots book unread at seconds (Err (Refused why)) = ⊥
NotedBy slots book unread at seconds (Err (Outside kind)) = Unit {0}
NotedBy slots book unread at seconds (Err NoMemory) = Unit {0}

-- the same by the status file and by the clock
abbrev pub PreparedBy : List Slot → Option (List ℕ) → ℕ → Option ℤ → Result Noted (Stop MarkRefusal) → Type 0
PreparedBy slots there at clock (Ok noted) =
    (seconds : ℤ) × (clock ≡ Some seconds) × NotedBy slots (book_in slots there) (is_unread slots there) at seconds (Ok noted)
PreparedBy slots there at clock (Err (Refused why)) =
    (seconds : ℤ) × (clock ≡ Some seconds) × NotedBy slots (book_in slots there) (is_unread slots there) at seconds (Err (Refused why))
PreparedBy slots there at clock (Err (Outside kind)) = Unit {0}
PreparedBy slots there at clock (Err NoMemory) = Unit {0}

-- where told: nothing was changed, and this is what is to be noted, or why not, unless a call failed
pub record Prepares (tells : Bool) (slots : List Slot) (path : List ℕ) (at : ℕ) (old new : Past) (result : Result Noted (Stop MarkRefusal)) : Type 0 where
  pub unchanged : Unchanged tells old new
  pub answers : IsTrue tells → PreparedBy slots (file (world_now old) path) at (clock_since old new) result
  pub fails : Fails tells old new (stop_fault result)

-- told or not: only the record of the slot may be refused
abbrev pub OnlyStatus : Result Noted (Stop MarkRefusal) → Type 0
OnlyStatus (Ok noted) = Unit {0}
OnlyStatus (Err (Refused (mark.Status why))) = Unit {0}
OnlyStatus (Err (Refused why)) = ⊥
OnlyStatus (Err (Outside kind)) = Unit {0}
OnlyStatus (Err NoMemory) = Unit {0}

-- ---- the mark, and then the new file

-- the first of the mark's commands were run, in w or in w with this file
abbrev pub ThroughWith : Configuration → List ℕ → List ℕ → List ℕ → Variables → Past → World → Type 0
ThroughWith s name path text read old u =
    Through old.boot (commands_of s.boot (names_of s.slots) boot.Primary name read) (world_now old) u
    ⊎ Through old.boot (commands_of s.boot (names_of s.slots) boot.Primary name read) (with_file (world_now old) path text) u

-- what a stop left of such a world
abbrev pub StoppedWith : Configuration → List ℕ → List ℕ → List ℕ → Variables → Past → World → Type 0
StoppedWith s name path text read old v =
    StoppedThrough old.boot (commands_of s.boot (names_of s.slots) boot.Primary name read) (world_now old) v
    ⊎ StoppedThrough old.boot (commands_of s.boot (names_of s.slots) boot.Primary name read) (with_file (world_now old) path text) v

-- at each moment since, the first of the commands were run that make the name primary, by what was read, and the file is the one before or the new one; and so it is wherever the power stops
pub record LeadsWith (s : Configuration) (name path text : List ℕ) (old new : Past) : Type 0 where
  pub read : Variables
  pub moments : Always old new (ThroughWith s name path text read old)
  pub stops : (v : World) → Held old new v → StoppedWith s name path text read old v

-- the new file stands there, and all other files are as before
abbrev pub HasPut : List ℕ → List ℕ → World → World → Type 0
HasPut path text w v = v.files ≡ put_under w.files path text

-- the answer follows from the runs; on Ok the new file stands there
abbrev pub PutEnds : Configuration → List ℕ → List ℕ → List ℕ → Past → Past → Result ⊤ (Stop MarkRefusal) → Type 0
PutEnds s name path text old new (Ok x) = MarkEnds s boot.Primary name old new (Ok tt) × HasPut path text (world_now old) (world_now new)
PutEnds s name path text old new (Err (Refused (mark.Boot why))) = MarkEnds s boot.Primary name old new (Err (Refused why))
PutEnds s name path text old new (Err (Refused why)) = ⊥
PutEnds s name path text old new (Err (Outside kind)) = Unit {0}
PutEnds s name path text old new (Err NoMemory) = Unit {0}

-- where told, a name is made primary, and then the file is put
pub record MarksAndPuts (tells : Bool) (s : Configuration) (name path text : List ℕ) (old new : Past) (result : Result ⊤ (Stop MarkRefusal)) : Type 0 where
  pub leaves : IsTrue tells → OnOk result (Leaves s boot.Primary name old new)
  pub others : IsTrue tells → Keeps s name old new
  pub leads : IsTrue tells → LeadsWith s name path text old new
  pub causes : IsTrue tells → PutEnds s name path text old new result
  pub fails : Fails tells old new (stop_fault result)

-- told or not: only the boot loader's programs may refuse
abbrev pub OnlyBoot : Result ⊤ (Stop MarkRefusal) → Type 0
OnlyBoot (Ok x) = Unit {0}
OnlyBoot (Err (Refused (mark.Boot why))) = Unit {0}
OnlyBoot (Err (Refused why)) = ⊥
OnlyBoot (Err (Outside kind)) = Unit {0}
OnlyBoot (Err NoMemory) = Unit {0}

-- told or not: nothing is refused
abbrev pub NothingRefused : Result ⊤ (Stop MarkRefusal) → Type 0
NothingRefused (Err (Refused why)) = ⊥
NothingRefused result = Unit {0}
