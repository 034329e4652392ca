-- What the status file and the clock say, before a slot is activated.
use Rattle.std.proofs.Common.{◌≡◌, ℕ, ℤ, Bool, List, Option, Some, None, Result, Ok, Err, IsTrue, sym, ◌∙◌, subst}
use Rattle.machine.specs.declared.stops.Fault.{Fault}
use Rattle.machine.specs.declared.stops.Stop.{Stop}
use Rattle.machine.specs.declared.stops.Stop.TheVariants.{Refused, Outside, NoMemory}
use Rattle.machine.specs.declared.calls.CallStop.{CallStop}
use Rattle.machine.specs.Frames.{Unchanged}
use Rattle.machine.specs.Past.{Clock, Done, Fails, IsCall, Past, world_now}
use Rattle.machine.specs.Runs.{ReadsOnce}
use Rattle.machine.specs.Stops.{stop_fault}
use Rattle.machine.specs.World.{file}
use Rattle.machine.proofs.Failing.{fails_call, fails_join}
use Rattle.machine.proofs.Joins.{unchanged_clock, unchanged_join}
use Rattle.system_conf.specs.declared.slot.Slot.{Slot}
use Rattle.slot_status.specs.Records.{RecordContent}
use Rattle.status_file.specs.declared.reading.StatusRead.{StatusRead}
use Rattle.status_file.specs.Clock.{clock_since}
use Rattle.status_file.specs.Status.{IsReadOf, book_in, is_unread}
use Rattle.status_file.proofs.Clocks.{clock_after, clock_call, clock_once}
use Rattle.slot_marks.specs.declared.noting.Noted.{Noted}
use Rattle.slot_marks.specs.declared.refusal.MarkRefusal.{MarkRefusal}
use Rattle.slot_marks.specs.Noting.{NotedBy, PreparedBy, Prepares}

-- what was read is that of the file
noted_of : (slots : List Slot) (there : Option (List ℕ)) (at : ℕ) (seconds : ℤ) (read : StatusRead) (result : Result Noted (Stop MarkRefusal)) → IsReadOf slots there read → NotedBy slots read.book read.unread at seconds result → NotedBy slots (book_in slots there) (is_unread slots there) at seconds result
noted_of slots there at seconds read result is h =
    subst (λ (unread : Bool). NotedBy slots (book_in slots there) unread at seconds result) is.unread
    (subst (λ (book : List RecordContent). NotedBy slots book read.unread at seconds result) is.book h)

-- and the seconds are those of the clock
prepared_by : (slots : List Slot) (there : Option (List ℕ)) (at : ℕ) (clock : Option ℤ) (seconds : ℤ) (result : Result Noted (Stop MarkRefusal)) → clock ≡ Some seconds → NotedBy slots (book_in slots there) (is_unread slots there) at seconds result → PreparedBy slots there at clock result
prepared_by slots there at clock seconds (Ok noted) said h = (seconds, said, h)
prepared_by slots there at clock seconds (Err (Refused why)) said h = (seconds, said, h)
prepared_by slots there at clock seconds (Err (Outside kind)) said h = tt
prepared_by slots there at clock seconds (Err NoMemory) said h = tt

-- the status file was read, and then the clock
pub prepares : (t : Bool) (slots : List Slot) (path : List ℕ) (at : ℕ) (a b z : Past) (seconds : ℤ) (read : StatusRead) (result : Result Noted (Stop MarkRefusal))
    → Unchanged t a b → (IsTrue t → ReadsOnce path a b) → Fails t a b None → (IsTrue t → IsReadOf slots (file (world_now a) path) read)
    → (IsTrue t → IsCall b z (Clock seconds) Done) → NotedBy slots read.book read.unread at seconds result → stop_fault result ≡ None → Prepares t slots path at a z result
prepares t slots path at a b z seconds read result unchanged once fine is called noted none = record {
  unchanged = unchanged_join t a b z unchanged (unchanged_clock t b z seconds given called);
  answers = λ told.
      let said = clock_after a b z (clock_once path a b (once told)) (fine.grows told) (asked.grows told) ∙ clock_call b z (Clock seconds) Done (called told) in
      prepared_by slots (file (world_now a) path) at (clock_since a z) seconds result said (noted_of slots (file (world_now a) path) at seconds read result (is told) noted);
  fails = subst (λ (k : Option Fault). Fails t a z k) (sym none) (fails_join t a b z None fine asked);
}
  where
    given : Result ℤ CallStop
    given = Ok seconds

    asked : Fails t b z None
    asked = fails_call t b z (Clock seconds) given called
