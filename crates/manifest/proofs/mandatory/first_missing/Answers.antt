use Rattle.std.proofs.Common.{◌∙◌, ap, sym}
use Rattle.std.specs.Prelude.{option_map}
use Rattle.conf_forms.specs.Walks.{place_texts}
use Rattle.manifest.proofs.Lacking.{lacks_hooks, lacks_in_image}
use Rattle.manifest.proofs.mandatory.first_missing.Goals as goal

pub returns-in-Some-missing_in_images : goal.returns-in-Some-missing_in_images
returns-in-Some-missing_in_images c =
    lacks_in_image c.args.file.now c.args.images.now (place_texts c.in-Some-missing_in_images.place) c.requires
    (ap (option_map place_texts) (sym c.in_default.is) ∙ c.missing_key.ensures)
    (ap (option_map place_texts) (sym c.in-Some-missing_in_images.is) ∙ c.missing_in_images.ensures)

pub returns : goal.returns
returns c =
    lacks_hooks c.args.file.now c.args.images.now _ c.requires
    (ap (option_map place_texts) (sym c.in_default.is) ∙ c.missing_key.ensures)
    (ap (option_map place_texts) (sym c.in_default-missing_in_images.is) ∙ c.missing_in_images.ensures)
    c.missing_hook_file.ensures
