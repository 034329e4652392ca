-- A world with its undo log, before and after a call.
use Rattle.std.specs.Prelude.{◌≡◌, ℕ, Bool, true, false, List, [], ◌∷◌, ◌++◌, length}
use Rattle.machine.specs.World.{with_write}
use Rattle.machine.specs.Past.{Call, Write, End, Done, Broken, After, Past}
use Rattle.undo_log.specs.declared.notes.NotedEnd.{NotedEnd}
use Rattle.undo_log.specs.declared.notes.Note.{Note}
use Rattle.undo_log.specs.declared.log.UndoLog.{UndoLog}
use Rattle.undo_log.specs.Undo.{past_call, past_end, past_of, world_before_all}

-- its past
abbrev pub past_of_log : UndoLog → Past
past_of_log log = past_of log.boot log.world log.notes.items

-- how a call ends that is to fail, or not
abbrev pub end_if : Bool → End
end_if true = Broken
end_if false = Done

-- new is old and this call, noted with what takes it back
pub record NotesCall (old new : UndoLog) (call : Call) (end : End) : Type 0 where
  pub note : Note
  pub grows : new.notes.items ≡ old.notes.items ++ note ∷ []
  pub boot : new.boot ≡ old.boot
  pub call_is : past_call note.call ≡ call
  pub end_is : past_end note.end ≡ end
  pub back : world_before_all note.changes new.world ≡ old.world
  pub after : After old.boot call end old.world new.world

-- new is old and a write of these bytes, noted with this end
pub record NotesWrite (old new : UndoLog) (path : List ℕ) (at : ℕ) (bytes : List ℕ) (end : NotedEnd) : Type 0 where
  pub note : Note
  pub grows : new.notes.items ≡ old.notes.items ++ note ∷ []
  pub boot : new.boot ≡ old.boot
  pub call_is : past_call note.call ≡ Write path at (length bytes)
  pub end_is : note.end ≡ end
  pub back : world_before_all note.changes new.world ≡ old.world
  pub left : new.world ≡ with_write old.world path at bytes

-- nothing was noted, and the world is as it was
pub record SameLog (old new : UndoLog) : Type 0 where
  pub world : new.world ≡ old.world
  pub notes : new.notes.items ≡ old.notes.items
  pub boot : new.boot ≡ old.boot
