-- What the status file says while a slot is written.
use Rattle.std.specs.Prelude.{◌≡◌, ◌⊎◌, ℕ, Bool, IsTrue, List, length, Option, Some, None, Result, Ok, Err, OnOk, nat_lt, if◌then◌else◌}
use Rattle.keyfile.specs.Groups.{Text}
use Rattle.machine.specs.declared.stops.Stop.{Stop}
use Rattle.machine.specs.declared.stops.Stop.TheVariants as stop
use Rattle.machine.specs.declared.world.World.{World}
use Rattle.machine.specs.Past.{Always, Fails, Past, world_now}
use Rattle.machine.specs.Stops.{Settles, stop_fault}
use Rattle.machine.specs.World.{readable, with_file}
use Rattle.raw_writer.specs.declared.check.PutRefusal.TheVariants.{ImageSize}
use Rattle.slot_status.specs.Changes.{begun}
use Rattle.slot_status.specs.Records.{RecordContent, book_of, is_known, record_at}
use Rattle.slot_status.specs.Texts.{book_text}
use Rattle.status_file.specs.Status.{names_in}
use Rattle.status_file.specs.Truth.{stored_book}
use Rattle.system_conf.specs.Configuration.{Configuration}
use Rattle.system_conf.specs.declared.slot.Slot.{Slot}
use Rattle.slot_writer.specs.Checks.{pass_unless}
use Rattle.slot_writer.specs.declared.noting.Note.{Note}
use Rattle.slot_writer.specs.declared.refusal.SlotRefusal.{SlotRefusal}
use Rattle.slot_writer.specs.declared.refusal.SlotRefusal.TheVariants.{Image}

-- ---- the text

-- a book in which an update of the slot at a place has begun, where anything is known of that slot
abbrev pub begun_book : ℕ → List RecordContent → List RecordContent
begun_book at book = if is_known (record_at book at) then begun at book else book

-- the text of that book; none where nothing is known of the slot
abbrev pub begun_text : List Slot → List RecordContent → ℕ → Option Text
begun_text slots book at = if is_known (record_at book at) then Some (book_text (names_in slots) (begun at book)) else None

-- this is to be noted, by the book and by whether the status file could not be read; a text is read again as that book
pub record IsNote (slots : List Slot) (book : List RecordContent) (unread : Bool) (at : ℕ) (note : Note) : Type 0 where
  pub text : note.text ≡ begun_text slots book at
  pub reads : (text : Text) → note.text ≡ Some text → book_of (names_in slots) text ≡ Ok (begun at book)
  pub book_unread : note.book_unread ≡ unread

-- ---- the world in which the slot is written

-- a world with a text in the place of the status file, where there are both
abbrev pub with_text : Option Text → Option Text → World → World
with_text (Some path) (Some text) w = with_file w path text
with_text status text w = w

-- the world in which the slot at a place is written: the status file says that an update has begun, where anything is known of the slot
abbrev pub begun_world : Configuration → ℕ → World → World
begun_world system at w = with_text system.status_file (begun_text system.slots (stored_book system w) at) w

-- read there, the status file is the book in which the update has begun
pub record IsBegun (system : Configuration) (at : ℕ) (w : World) : Type 0 where
  pub book : stored_book system (begun_world system at w) ≡ begun_book at (stored_book system w)

-- ---- the replacement

-- an image of this length ends early where less is found of it
abbrev pub cut_refusal : ℕ → ℕ → Option SlotRefusal
cut_refusal size found = if nat_lt found size then Some (Image (ImageSize size found)) else None

-- so does an image that is the status file, where the new text is shorter
abbrev pub image_refusal : List ℕ → ℕ → World → Option SlotRefusal
image_refusal image size begun = cut_refusal size (length (readable begun image))

-- each world on the way: as before or as it is to be, and as before where that is refused
abbrev pub StepKept : Option SlotRefusal → World → World → World → Type 0
StepKept None next w u = (u ≡ w) ⊎ (u ≡ next)
StepKept (Some refusal) next w u = u ≡ w

-- where told, unless this refusal holds: the world becomes this one, by one replacement of a file at most
pub record Steps (tells : Bool) (refusal : Option SlotRefusal) (next : World) (old new : Past) (result : Result (Unit {0}) (Stop SlotRefusal)) : Type 0 where
  pub kept : IsTrue tells → Always old new (StepKept refusal next (world_now old))
  pub answers : IsTrue tells → Settles result (pass_unless refusal)
  pub left : IsTrue tells → OnOk result (world_now new ≡ next)
  pub fails : Fails tells old new (stop_fault result)

-- told or not: nothing is refused
abbrev pub NoneRefused : Result (Unit {0}) (Stop SlotRefusal) → Type 0
NoneRefused (Err (stop.Refused why)) = ⊥
NoneRefused result = Unit {0}
