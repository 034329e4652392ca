use Rattle.std.proofs.Common.{◌∙◌, ap, option_map, slice_get}
use Rattle.std.proofs.lemmas.Option.{slice_get-map, slice_get_past}
use Rattle.manifest.specs.Reads.{image_content, image_contents}
use Rattle.system_conf.specs.Reads.{system_configuration}
use Rattle.child_steps.specs.Hooks.{image_vars}
use Rattle.child_steps.proofs.Variables.{nothing}
use Rattle.child_steps.proofs.hooks.push_image_at.Goals as goal

pub returns-in-None : goal.returns-in-None
returns-in-None c =
    let none = slice_get_past c.args.images.now c.args.at c.in-None.ensures.lookup.3 in
    nothing (image_vars (system_configuration c.args.system.now)) (slice_get (image_contents c.args.images.now) c.args.at) c.args.env.now
    (slice_get-map image_content c.args.images.now c.args.at ∙ ap (option_map image_content) none)
