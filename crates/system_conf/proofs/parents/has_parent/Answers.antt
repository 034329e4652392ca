use Rattle.std.proofs.Common.{Option, true, ◌∙◌, ap}
use Rattle.std.specs.Prelude.{is_some}
use Rattle.std.specs.Option.{option_map_or}
use Rattle.std.specs.Str.{bytes_eq}
use Rattle.keyfile.specs.Groups.{Text}
use Rattle.system_conf.specs.Slots.{slot_called}
use Rattle.conf_forms.proofs.SlotNames.{position-names}
use Rattle.system_conf.proofs.parents.has_parent.Goals as goal

pub returns-in-Some : goal.returns-in-Some
returns-in-Some c =
    c.is_some.ensures ∙ ap is_some (c.slot_called.ensures ∙ position-names (λ (n : Text). bytes_eq n c.in-Some.name.now) c.args.reader.now.file.now c.args.reader.now.slots.now c.args.reader.now.read)
    ∙ ap (λ (o : Option Text). option_map_or (λ name. is_some (slot_called c.args.reader.now.file.now name)) o true) c.in-Some.ensures
