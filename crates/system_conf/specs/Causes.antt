-- What is wrong with what a configuration says, in words.
use Rattle.std.specs.Prelude.{◌++◌, codes, decimal}
use Rattle.keyfile.specs.Groups.{Text}
use Rattle.conf_forms.specs.Causes.{place_cause}
use Rattle.system_conf.specs.declared.conf_refusal.ConfRefusal.{ConfRefusal}
use Rattle.system_conf.specs.declared.conf_refusal.ConfRefusal.TheVariants as refusal

-- two slots, and what is the matter with them
abbrev pub pair_cause : Text → Text → Text → Text
pair_cause first second matter = first ++ (codes " and " ++ (second ++ matter))

-- the refusal, without the name of the file
abbrev pub conf_cause : ConfRefusal → Text
conf_cause (refusal.Missing group key) = place_cause group key (codes "missing")
conf_cause (refusal.UnknownKey group key) = place_cause group key (codes "unknown")
conf_cause (refusal.LeftOut group key) = place_cause group key (codes "left out")
conf_cause (refusal.BadValue group key) = place_cause group key (codes "bad value")
conf_cause (refusal.BadSlotName group) = codes "bad slot name [" ++ (group ++ codes "]")
conf_cause (refusal.TooMany slots) = codes "too many slots: " ++ decimal slots
conf_cause (refusal.SameDevice first second) = pair_cause first second (codes " share a device")
conf_cause (refusal.SameBootName first second) = pair_cause first second (codes " share a bootname")
conf_cause (refusal.NoParent slot) = slot ++ codes " has no such parent"
conf_cause (refusal.ParentCycle slot) = codes "parents of " ++ (slot ++ codes " do not end")
conf_cause (refusal.ChildBootName slot) = slot ++ codes " has parent and bootname"
conf_cause (refusal.DeviceIsFile slot) = codes "device of " ++ (slot ++ codes " is in use by rauc")
