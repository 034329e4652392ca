use Rattle.std.proofs.Common.{codes, sym, ◌∙◌, ap}
use Rattle.std.specs.Prelude.{option_map}
use Rattle.conf_forms.specs.Walks.{missing_key, place_texts}
use Rattle.conf_forms.proofs.FirstOf.{after_two, first_of-first, first_of-second}
use Rattle.system_conf.specs.Mandatory.{custom_keys, device_keys}
use Rattle.system_conf.proofs.mandatory.first_missing.Goals as goal

pub returns-in-Some-missing_device : goal.returns-in-Some-missing_device
returns-in-Some-missing_device c =
    let file = c.args.reader.now.file.now in
    first_of-first (missing_key file) (device_keys file) (custom_keys file) (place_texts c.in-Some-missing_device.place)
    (ap (option_map place_texts) (sym c.in-Some-missing_device.is) ∙ c.missing_device.ensures)
    ∙ after_two (missing_key file) (codes "system", codes "compatible") (codes "system", codes "bootloader") _
    (ap (option_map place_texts) (sym c.in_default.is) ∙ c.missing_key.ensures) (ap (option_map place_texts) (sym c.in_default-missing_key.is) ∙ c.missing_key-2.ensures)

pub returns : goal.returns
returns c =
    let file = c.args.reader.now.file.now in
    c.missing_program.ensures
    ∙ first_of-second (missing_key file) (device_keys file) (custom_keys file) (ap (option_map place_texts) (sym c.in_default-missing_device.is) ∙ c.missing_device.ensures)
    ∙ after_two (missing_key file) (codes "system", codes "compatible") (codes "system", codes "bootloader") _
    (ap (option_map place_texts) (sym c.in_default.is) ∙ c.missing_key.ensures) (ap (option_map place_texts) (sym c.in_default-missing_key.is) ∙ c.missing_key-2.ensures)
