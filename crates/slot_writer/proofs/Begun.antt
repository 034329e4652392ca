-- The world in which a slot is written.
use Rattle.std.proofs.Common.{◌≡◌, ℕ, zero, suc, Bool, true, false, cond, List, length, replicate, Option, Some, None, Result, Ok, refl, sym, ◌∙◌, ap}
use Rattle.std.specs.Result.{result_unwrap_or}
use Rattle.keyfile.specs.Groups.{Text}
use Rattle.keyfile.specs.declared.fault.KeyFault.{KeyFault}
use Rattle.machine.specs.declared.world.World.{World}
use Rattle.machine.specs.World.{with_file}
use Rattle.machine.proofs.Sparing.{file-replaced}
use Rattle.slot_status.specs.Changes.{begun}
use Rattle.slot_status.specs.Records.{RecordContent, book_of, is_known, no_record, record_at}
use Rattle.slot_status.specs.Texts.{book_text}
use Rattle.status_file.specs.Status.{blank_book, book_in, bytes_at, names_in}
use Rattle.status_file.specs.Truth.{stored_book}
use Rattle.system_conf.specs.Configuration.{Configuration}
use Rattle.system_conf.specs.declared.slot.Slot.{Slot}
use Rattle.slot_writer.specs.declared.noting.Note.{Note}
use Rattle.slot_writer.specs.Noting.{IsBegun, IsNote, begun_book, begun_text, with_text}

-- ---- its disks are those of before

pub text_disks : (status text : Option Text) (w : World) → (with_text status text w).disks ≡ w.disks
unfolding with_file
text_disks None text w = refl
text_disks (Some path) None w = refl
text_disks (Some path) (Some text) w = refl

pub text_pending : (status text : Option Text) (w : World) → (with_text status text w).pending ≡ w.pending
unfolding with_file
text_pending None text w = refl
text_pending (Some path) None w = refl
text_pending (Some path) (Some text) w = refl

-- ---- its status file is the new book

blank_at : (n at : ℕ) → record_at (replicate n no_record) at ≡ no_record
blank_at zero at = refl
blank_at (suc n) zero = refl
blank_at (suc n) (suc at) = blank_at n at

known_of : (known : Bool) (new : Text) → None ≡ cond known (Some new) None → known ≡ false
known_of true new e = absurd (cc)
known_of false new e = refl

known_by : (known : Bool) (new text : Text) → Some text ≡ cond known (Some new) None → known ≡ true
known_by true new text e = refl
known_by false new text e = absurd (cc)

module _ (slots : List Slot) (at : ℕ) (w : World) where
  abbrev book : Option Text → List RecordContent
  book status = book_in slots (bytes_at status w)

  abbrev new_book : Option Text → Text
  new_book status = book_text (names_in slots) (begun at (book status))

  begun_as : (status : Option Text) (known : Bool) → is_known (record_at (book status) at) ≡ known → cond known (begun at (book status)) (book status) ≡ begun_book at (book status)
  begun_as status known is = ap (λ (b : Bool). cond b (begun at (book status)) (book status)) (sym is)

  read_begun : (status text : Option Text) → text ≡ begun_text slots (book status) at → ((new : Text) → text ≡ Some new → book_of (names_in slots) new ≡ Ok (begun at (book status)))
      → book_in slots (bytes_at status (with_text status text w)) ≡ begun_book at (book status)
  read_begun None text is reads =
      ap (λ (r : RecordContent). cond (is_known r) (begun at (blank_book slots)) (blank_book slots)) (sym (blank_at (length slots) at))
  read_begun (Some path) None is reads = begun_as (Some path) false (known_of _ (new_book (Some path)) is)
  read_begun (Some path) (Some new) is reads =
      ap (λ (there : Option Text). book_in slots there) (file-replaced w path new)
      ∙ ap (λ (r : Result (List RecordContent) KeyFault). result_unwrap_or r (blank_book slots)) (reads new refl)
      ∙ begun_as (Some path) true (known_by _ (new_book (Some path)) new is)

-- what was noted is the text of that world
pub noted_world : (system : Configuration) (at : ℕ) (w : World) (unread : Bool) (note : Note) → IsNote system.slots (stored_book system w) unread at note
    → with_text system.status_file note.text w ≡ with_text system.status_file (begun_text system.slots (stored_book system w) at) w
noted_world system at w unread note is = ap (λ (text : Option Text). with_text system.status_file text w) is.text

pub is_begun : (system : Configuration) (at : ℕ) (w : World) (unread : Bool) (note : Note) → IsNote system.slots (stored_book system w) unread at note → IsBegun system at w
is_begun system at w unread note is = record {
  book =
      ap (λ (v : World). stored_book system v) (sym (noted_world system at w unread note is))
      ∙ read_begun system.slots at w system.status_file note.text is.text is.reads;
}
