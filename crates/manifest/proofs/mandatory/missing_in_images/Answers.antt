use Rattle.std.proofs.Common.{◌∙◌, ap, sym}
use Rattle.std.specs.Prelude.{option_map}
use Rattle.keyfile.specs.Groups.{Text}
use Rattle.conf_forms.specs.Lists.{first_of}
use Rattle.conf_forms.specs.Walks.{missing_key, place_texts}
use Rattle.conf_forms.proofs.FirstOf.{item_of_hit, item_of_more}
use Rattle.manifest.specs.Mandatory.{image_keys}
use Rattle.manifest.proofs.mandatory.missing_in_images.Goals as goal

pub returns-in-Some : goal.returns-in-Some
returns-in-Some c =
    let f = λ (group : Text). first_of (missing_key c.args.file.now) (image_keys c.args.file.now group) in
    item_of_hit f c.args.images.now c.loop-group.group-index c.group-item.result (place_texts c.in-Some.place) c.loop-group.invariant c.loop-group-test.true c.group-item.is
    (ap (option_map place_texts) (sym c.in-Some.is) ∙ c.missing_in_image.ensures ∙ ap f c.as_str.ensures)

pub loop-group-preserved : goal.loop-group-preserved
loop-group-preserved c =
    let f = λ (group : Text). first_of (missing_key c.args.file.now) (image_keys c.args.file.now group) in
    item_of_more f c.args.images.now c.loop-group.group-index c.group-item.result c.loop-group.invariant c.loop-group-test.true c.group-item.is
    (ap (option_map place_texts) (sym c.in_default.is) ∙ c.missing_in_image.ensures ∙ ap f c.as_str.ensures)
