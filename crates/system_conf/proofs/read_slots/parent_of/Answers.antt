use Rattle.std.proofs.Common.{Option, ◌∙◌, ap}
use Rattle.std.specs.Prelude.{option_and_then}
use Rattle.std.specs.Str.{bytes_eq}
use Rattle.keyfile.specs.Groups.{Text}
use Rattle.system_conf.specs.Slots.{slot_called}
use Rattle.conf_forms.proofs.SlotNames.{position-names}
use Rattle.system_conf.proofs.read_slots.parent_of.Goals as goal

pub returns-in-Some : goal.returns-in-Some
returns-in-Some c =
    c.slot_called.ensures ∙ position-names (λ (n : Text). bytes_eq n c.in-Some.name.now) c.args.reader.now.file.now c.args.reader.now.slots.now c.args.reader.now.read
    ∙ ap (λ (o : Option Text). option_and_then (slot_called c.args.reader.now.file.now) o) c.in-Some.ensures
