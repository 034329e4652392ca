-- What the status file of a system says of its slots.
use Rattle.std.specs.Prelude.{◌≡◌, Bool, List, length, map, replicate, Option, Some, None, Result, Ok, option_and_then}
use Rattle.std.specs.Result.{is_err, result_unwrap_or}
use Rattle.keyfile.specs.Groups.{Text}
use Rattle.keyfile.specs.declared.fault.KeyFault.{KeyFault}
use Rattle.machine.specs.Past.{Past}
use Rattle.machine.specs.Runs.{ReadsOnce}
use Rattle.machine.specs.World.{file}
use Rattle.machine.specs.declared.world.World.{World}
use Rattle.slot_status.specs.Records.{RecordContent, book_of, no_record}
use Rattle.system_conf.specs.declared.slot.Slot.{Slot}
use Rattle.system_conf.specs.Configuration.{Configuration}
use Rattle.status_file.specs.declared.reading.StatusRead.{StatusRead}

abbrev pub names_in : List Slot → List Text
names_in slots = map (λ s. s.name) slots

-- the book of slots of which nothing is known
abbrev pub blank_book : List Slot → List RecordContent
blank_book slots = replicate (length slots) no_record

-- the book that a file holds, where there is one; or why it cannot be read
abbrev pub book_told : List Slot → Option Text → Result (List RecordContent) KeyFault
book_told slots None = Ok (blank_book slots)
book_told slots (Some bytes) = book_of (names_in slots) bytes

-- the book that counts: a blank one where the file is not there, or cannot be read
abbrev pub book_in : List Slot → Option Text → List RecordContent
book_in slots there = result_unwrap_or (book_told slots there) (blank_book slots)

-- the file is there and cannot be read: it has more than 1,048,576 bytes, or is no key file
abbrev pub is_unread : List Slot → Option Text → Bool
is_unread slots there = is_err (book_told slots there)

-- this was read of a file
pub record IsReadOf (slots : List Slot) (there : Option Text) (read : StatusRead) : Type 0 where
  pub book : read.book ≡ book_in slots there
  pub unread : read.unread ≡ is_unread slots there

-- nothing was read
pub record IsBlank (slots : List Slot) (failed : Bool) (read : StatusRead) : Type 0 where
  pub book : read.book ≡ blank_book slots
  pub unread : read.unread ≡ failed

-- the bytes of a status file, where there is a path for it and it is there
abbrev pub bytes_at : Option Text → World → Option Text
bytes_at status w = option_and_then (λ path. file w path) status

-- the bytes of the status file of a system, where it has one and that is there
abbrev pub status_bytes : Configuration → World → Option Text
status_bytes s w = bytes_at s.status_file w

-- at most one call was made: the status file was read; none, where there is none
abbrev pub ReadsAt : Option Text → Past → Past → Type 0
ReadsAt (Some path) old new = ReadsOnce path old new
ReadsAt None old new = new ≡ old

abbrev pub ReadsStatus : Configuration → Past → Past → Type 0
ReadsStatus s old new = ReadsAt s.status_file old new

-- this is what it says in a world
abbrev pub IsStored : Configuration → World → StatusRead → Type 0
IsStored s w read = IsReadOf s.slots (status_bytes s w) read
