-- Why an image goes to no slot, in words.
use Rattle.std.specs.Prelude.{List, ◌++◌, codes}
use Rattle.keyfile.specs.Groups.{Text}
use Rattle.system_conf.specs.Slots.{name_at}
use Rattle.system_conf.specs.declared.slot.Slot.{Slot}
use Rattle.slot_graph.specs.declared.assigning.AssignRefusal.{AssignRefusal}
use Rattle.slot_graph.specs.declared.assigning.AssignRefusal.TheVariants as refusal

-- a slot is named by its place, and an image by its file
abbrev pub assign_cause : List Slot → AssignRefusal → Text
assign_cause slots (refusal.NoTarget class) = codes "no target for class " ++ class
assign_cause slots (refusal.ManyTargets class) = codes "many targets for class " ++ class
assign_cause slots (refusal.ReadOnly slot) = codes "slot " ++ (name_at slots slot ++ codes " is readonly")
assign_cause slots (refusal.ArchiveImage image name) = codes "image " ++ (name ++ codes " is an archive")
assign_cause slots (refusal.WrongType slot image) = codes "slot " ++ (name_at slots slot ++ codes " cannot be written")
