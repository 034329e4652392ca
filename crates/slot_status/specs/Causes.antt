-- Why a record is not changed, in words.
use Rattle.std.specs.Prelude.{List, [], ◌++◌, codes, slice_get, unwrap_or}
use Rattle.std.specs.Fmt.{signed_decimal}
use Rattle.keyfile.specs.Groups.{Text}
use Rattle.slot_status.specs.declared.refusal.StatusRefusal.{StatusRefusal}
use Rattle.slot_status.specs.declared.refusal.StatusRefusal.TheVariants as refusal

-- the refusal; a slot is named by its place among these names
abbrev pub status_cause : List Text → StatusRefusal → Text
status_cause names (refusal.ClockRange seconds) = codes "clock out of range: " ++ signed_decimal seconds
status_cause names (refusal.CountEnd slot) = codes "count of " ++ (unwrap_or (slice_get names slot) [] ++ codes " is at its end")
