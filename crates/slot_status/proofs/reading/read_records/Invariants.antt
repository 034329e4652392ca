use Rattle.std.proofs.Common.{◌≡◌, map, take}
use Rattle.slot_status.specs.Books.{record_contents}
use Rattle.slot_status.specs.Records.{record_of}
use Rattle.slot_status.proofs.reading.read_records.Given as goal

abbrev pub invariant-loop-name : goal.invariant-loop-name
invariant-loop-name l = record_contents l.records.items ≡ map (record_of l.file) (take l.name-index l.names)
