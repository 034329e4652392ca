-- What the mark of a slot answers, and what it leaves.
use Rattle.std.specs.Prelude.{◌≡◌, ℕ, ℤ, Bool, false, IsTrue, List, Option, Some, None, Result, Ok, Err, OnOk, ⊤}
use Rattle.machine.specs.declared.stops.Stop.{Stop}
use Rattle.machine.specs.declared.stops.Stop.TheVariants.{Refused, Outside, NoMemory}
use Rattle.machine.specs.declared.world.World.{World}
use Rattle.machine.specs.Past.{Always, Fails, Past, world_now}
use Rattle.machine.specs.Runs.{runs_since}
use Rattle.machine.specs.Stops.{Settles, stop_fault}
use Rattle.machine.specs.World.{file}
use Rattle.boot_commands.specs.declared.command.Mark.{Mark}
use Rattle.boot_commands.specs.declared.command.Mark.TheVariants as boot
use Rattle.boot_backends.specs.declared.refusal.BootRefusal.{BootRefusal}
use Rattle.boot_backends.specs.Causes.{MarkCause}
use Rattle.boot_backends.specs.Marked.{names_of}
use Rattle.boot_backends.specs.Systems.{Keeps, Leads, Leaves}
use Rattle.system_conf.specs.declared.slot.Slot.{Slot}
use Rattle.system_conf.specs.Configuration.{Configuration}
use Rattle.slot_status.specs.Refusals.{ready_refusal}
use Rattle.status_file.specs.Clock.{clock_since}
use Rattle.status_file.specs.Status.{book_in, is_unread}
use Rattle.slot_marks.specs.declared.naming.Action.{Action}
use Rattle.slot_marks.specs.declared.naming.Action.TheVariants as action
use Rattle.slot_marks.specs.declared.naming.Marked.{Marked}
use Rattle.slot_marks.specs.declared.refusal.MarkRefusal.{MarkRefusal}
use Rattle.slot_marks.specs.declared.refusal.MarkRefusal.TheVariants as mark
use Rattle.slot_marks.specs.Marking.{ChosenFor, bootname_text, mark_of, marked_at}
use Rattle.slot_marks.specs.Noting.{HasPut, LeadsWith, activated_text, new_text}

-- ---- the answer

-- the commands of a mark of the slot at a place ended so, by the runs from w to v
abbrev pub MarkRan : Configuration → Mark → ℕ → World → World → Result ⊤ (Stop BootRefusal) → Type 0
MarkRan s mark at w v result = MarkCause s.boot (names_of s.slots) mark (bootname_text s.slots at) (runs_since w v) result

-- the slot at a place is marked, where the commands ended so; or why the programs did not do it
abbrev pub PlainAnswers : Configuration → Action → ℕ → World → World → Result Marked (Stop MarkRefusal) → Type 0
PlainAnswers s act at w v (Ok marked) = (marked ≡ marked_at s.slots act at false) × MarkRan s (mark_of act) at w v (Ok tt)
PlainAnswers s act at w v (Err (Refused (mark.Boot why))) = MarkRan s (mark_of act) at w v (Err (Refused why))
PlainAnswers s act at w v (Err (Refused why)) = ⊥
PlainAnswers s act at w v (Err (Outside kind)) = Unit {0}
PlainAnswers s act at w v (Err NoMemory) = Unit {0}

-- the clock said so, and the record may change then
pub record IsReady (slots : List Slot) (there : Option (List ℕ)) (at : ℕ) (clock : Option ℤ) (seconds : ℤ) : Type 0 where
  pub said : clock ≡ Some seconds
  pub ready : ready_refusal (book_in slots there) at seconds ≡ None

-- with a status file: the slot is activated, where the commands ended so and the new file stands there; or why its record may not change, or why the programs did not do it
abbrev pub NotedAnswers : Configuration → List ℕ → ℕ → Option ℤ → World → World → Result Marked (Stop MarkRefusal) → Type 0
NotedAnswers s path at clock w v (Ok marked) =
    (seconds : ℤ) × IsReady s.slots (file w path) at clock seconds
    × (marked ≡ marked_at s.slots action.Active at (is_unread s.slots (file w path)))
    × MarkRan s boot.Primary at w v (Ok tt)
    × HasPut path (activated_text s.slots (book_in s.slots (file w path)) at seconds) w v
NotedAnswers s path at clock w v (Err (Refused (mark.Status why))) =
    (seconds : ℤ) × (clock ≡ Some seconds) × (ready_refusal (book_in s.slots (file w path)) at seconds ≡ Some why)
NotedAnswers s path at clock w v (Err (Refused (mark.Boot why))) =
    (seconds : ℤ) × IsReady s.slots (file w path) at clock seconds × MarkRan s boot.Primary at w v (Err (Refused why))
NotedAnswers s path at clock w v (Err (Refused why)) = ⊥
NotedAnswers s path at clock w v (Err (Outside kind)) = Unit {0}
NotedAnswers s path at clock w v (Err NoMemory) = Unit {0}

-- the refusal of the choice; or else the answer for the slot that was chosen, with the status file that is written or without one
abbrev pub MarkAnswers : Configuration → Action → Option (List ℕ) → Result ℕ MarkRefusal → Option ℤ → World → World → Result Marked (Stop MarkRefusal) → Type 0
MarkAnswers s act noted (Err why) clock w v result = Settles result (Err why)
MarkAnswers s act None (Ok at) clock w v result = PlainAnswers s act at w v result
MarkAnswers s act (Some path) (Ok at) clock w v result = NotedAnswers s path at clock w v result

-- ---- what was done

-- this holds of the slot that was chosen; or none was, and nothing was changed at any moment since
abbrev pub OfChosen : Result ℕ MarkRefusal → Past → Past → (ℕ → Type 0) → Type 0
OfChosen (Ok at) old new P = P at
OfChosen (Err why) old new P = Always old new (λ u. u ≡ world_now old)

-- the name was made primary with this new text of the status file; without one, nothing was changed
abbrev pub LeadsTo : Configuration → List ℕ → ℕ → Past → Past → Option (List ℕ) → Type 0
LeadsTo s path at old new (Some text) = LeadsWith s (bootname_text s.slots at) path text old new
LeadsTo s path at old new None = Always old new (λ u. u ≡ world_now old)

-- at each moment since, and wherever the power stops: the first of the mark's commands were run, and the status file is the one before or the new one, where one is written
abbrev pub LeadsAt : Configuration → Action → Option (List ℕ) → Past → Past → ℕ → Type 0
LeadsAt s act None old new at = Leads s (mark_of act) (bootname_text s.slots at) old new
LeadsAt s act (Some path) old new at =
    LeadsTo s path at old new (new_text s.slots (file (world_now old) path) at (clock_since old new))

-- where told, a mark of the slot that this choice gives, with the status file that is written, if any: what it answers; what honest programs left, and what others keep; which commands were run at each moment, and wherever the power stops; and which call failed
pub record Marks (tells : Bool) (s : Configuration) (act : Action) (noted : Option (List ℕ)) (choice : Result ℕ MarkRefusal) (old new : Past) (result : Result Marked (Stop MarkRefusal)) : Type 0 where
  pub answers : IsTrue tells → MarkAnswers s act noted choice (clock_since old new) (world_now old) (world_now new) result
  pub leaves : IsTrue tells → OnOk result (OfChosen choice old new (λ at. Leaves s (mark_of act) (bootname_text s.slots at) old new))
  pub others : IsTrue tells → OfChosen choice old new (λ at. Keeps s (bootname_text s.slots at) old new)
  pub leads : IsTrue tells → OfChosen choice old new (LeadsAt s act noted old new)
  pub fails : Fails tells old new (stop_fault result)

-- ---- told or not

-- the slot at this place is marked, with its line; no refusal of the choice comes
abbrev pub MarkedThere : List Slot → Action → ℕ → Result Marked (Stop MarkRefusal) → Type 0
MarkedThere slots act at (Ok marked) = marked ≡ marked_at slots act at marked.book_unread
MarkedThere slots act at (Err (Refused (mark.Status why))) = Unit {0}
MarkedThere slots act at (Err (Refused (mark.Boot why))) = Unit {0}
MarkedThere slots act at (Err (Refused why)) = ⊥
MarkedThere slots act at (Err (Outside kind)) = Unit {0}
MarkedThere slots act at (Err NoMemory) = Unit {0}

-- what is marked is such a slot as the word may name, with its line, and a refusal of the choice is such a one
abbrev pub MarkedFor : List Slot → Action → List ℕ → Result Marked (Stop MarkRefusal) → Type 0
MarkedFor slots act who (Ok marked) =
    ChosenFor slots who (Ok marked.slot) × (marked ≡ marked_at slots act marked.slot marked.book_unread)
MarkedFor slots act who (Err (Refused (mark.Status why))) = Unit {0}
MarkedFor slots act who (Err (Refused (mark.Boot why))) = Unit {0}
MarkedFor slots act who (Err (Refused why)) = ChosenFor slots who (Err (Refused why))
MarkedFor slots act who (Err (Outside kind)) = Unit {0}
MarkedFor slots act who (Err NoMemory) = Unit {0}
