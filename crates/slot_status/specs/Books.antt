-- What the code's values hold.
use Rattle.std.specs.Prelude.{List, map, option_map}
use Rattle.manifest.specs.Reads.{bundle_content}
use Rattle.slot_status.specs.Records.{RecordContent}
use Rattle.slot_status.specs.declared.slot_record.SlotRecord.{SlotRecord}

-- what the record of a slot holds, without the facts about it
abbrev pub record_content : SlotRecord → RecordContent
record_content r = record {
  bundle = option_map bundle_content r.bundle;
  status = r.status;
  digest = r.digest;
  size = r.size;
  installed_time = r.installed_time;
  installed_count = r.installed_count;
  activated_time = r.activated_time;
  activated_count = r.activated_count;
}

abbrev pub record_contents : List SlotRecord → List RecordContent
record_contents = map record_content
