use Rattle.std.proofs.Common.{◌≡◌}
use Rattle.std.specs.Prelude.{replicate}
use Rattle.slot_status.specs.Books.{record_contents}
use Rattle.slot_status.specs.Records.{no_record}
use Rattle.slot_status.proofs.book.StatusBook.empty.Given as goal

abbrev pub invariant-loop : goal.invariant-loop
invariant-loop l = record_contents l.records.items ≡ replicate l.counter no_record
