use Rattle.std.proofs.Common.{◌≡◌, take}
use Rattle.slot_status.specs.Books.{record_contents}
use Rattle.slot_status.specs.Texts.{book_groups}
use Rattle.slot_status.proofs.book.StatusBook.text.Given as goal

abbrev pub invariant-loop-slot : goal.invariant-loop-slot
invariant-loop-slot l = l.file ≡ book_groups (take l.slot l.names) (record_contents (take l.slot l.self-inside.records.items))
