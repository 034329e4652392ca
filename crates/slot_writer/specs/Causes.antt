-- Why a slot is not written, in words.
use Rattle.std.specs.Prelude.{ℕ, List, ◌++◌, codes}
use Rattle.raw_writer.specs.Checking.{put_cause}
use Rattle.system_conf.specs.Slots.{name_at}
use Rattle.system_conf.specs.declared.slot.Slot.{Slot}
use Rattle.slot_writer.specs.declared.refusal.SlotRefusal.{SlotRefusal}
use Rattle.slot_writer.specs.declared.refusal.SlotRefusal.TheVariants as slot

-- why an image is not written to a slot, which is named by its place in the configuration
abbrev pub slot_cause : List Slot → List ℕ → SlotRefusal → List ℕ
slot_cause slots image (slot.NoSuchSlot text) = codes "no such slot: " ++ text
slot_cause slots image slot.BootedUnknown = codes "booted slot is not known"
slot_cause slots image (slot.Busy at) = codes "slot " ++ (name_at slots at ++ codes " is in use")
slot_cause slots image (slot.ReadOnly at) = codes "slot " ++ (name_at slots at ++ codes " is readonly")
slot_cause slots image (slot.ArchiveImage path) = codes "image " ++ (path ++ codes " is an archive")
slot_cause slots image (slot.WrongType at) = codes "slot " ++ (name_at slots at ++ codes " cannot be written")
slot_cause slots image slot.MountsUnread = codes "mounts unreadable"
slot_cause slots image (slot.Mounted at) = codes "slot " ++ (name_at slots at ++ codes " is mounted")
slot_cause slots image (slot.Image refusal) = put_cause image refusal
