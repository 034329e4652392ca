-- Why a slot is not marked, in words.
use Rattle.std.specs.Prelude.{ℕ, List, ◌++◌, codes, decimal}
use Rattle.boot_backends.specs.Words.{boot_cause}
use Rattle.system_conf.specs.Slots.{name_at}
use Rattle.system_conf.specs.declared.slot.Slot.{Slot}
use Rattle.slot_status.specs.Causes.{status_cause}
use Rattle.status_file.specs.Status.{names_in}
use Rattle.slot_marks.specs.declared.refusal.MarkRefusal.{MarkRefusal}
use Rattle.slot_marks.specs.declared.refusal.MarkRefusal.TheVariants as mark

-- why a slot is not marked, which is named by its place in the configuration
abbrev pub mark_cause : List Slot → MarkRefusal → List ℕ
mark_cause slots (mark.NoSuchSlot text) = codes "no such slot: " ++ text
mark_cause slots mark.NoOther = codes "no other slot"
mark_cause slots (mark.ManyOther count) = decimal count ++ codes " other slots"
mark_cause slots (mark.NoBootName at) = codes "slot " ++ (name_at slots at ++ codes " has no bootname")
mark_cause slots (mark.Status why) = status_cause (names_in slots) why
mark_cause slots (mark.Boot why) = boot_cause why
