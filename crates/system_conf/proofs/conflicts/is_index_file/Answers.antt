use Rattle.std.proofs.Common.{Option, false, ◌∙◌, ap}
use Rattle.std.specs.Option.{option_map_or}
use Rattle.std.specs.Str.{bytes_eq}
use Rattle.keyfile.specs.Groups.{Text}
use Rattle.system_conf.specs.Conflicts.{index_file, has_index}
use Rattle.conf_forms.specs.SlotNames.{slot_names}
use Rattle.conf_forms.proofs.SlotNames.{list_any-names}
use Rattle.conf_forms.proofs.FirstOf.{is_along}
use Rattle.system_conf.proofs.conflicts.is_index_file.Goals as goal

pub returns-in-Some : goal.returns-in-Some
returns-in-Some c =
    is_along c.is_index_in.result _ _
    (list_any-names (λ (n : Text). bytes_eq c.args.path.now (index_file c.in-Some.directory.now n)) c.args.reader.now.file.now c.args.reader.now.slots.now c.args.reader.now.read
    ∙ ap (λ (o : Option Text). option_map_or (λ directory. has_index directory c.args.path.now (slot_names c.args.reader.now.file.now)) o false) c.in-Some.ensures)
    c.is_index_in.ensures
