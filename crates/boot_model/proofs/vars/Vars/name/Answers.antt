use Rattle.std.proofs.Common.{Some, ◌∙◌, ap, string_bytes, slice_get}
use Rattle.std.specs.Option.{option_map, option_copied}
use Rattle.std.specs.FinMap.{keys}
use Rattle.boot_model.specs.Vars.{Variables}
use Rattle.boot_model.proofs.Shown.{slice_get-keys-shown}
use Rattle.boot_model.proofs.vars.Vars.name.Goals as goal

pub returns-in_err-name : goal.returns-in_err-name
returns-in_err-name c =
    ap option_copied c.from_residual.ensures ∙ ap (option_map string_bytes) c.in_err-name.ensures.key
    ∙ slice_get-keys-shown c.self.inside.settings c.in_err-name.ensures.ordered c.args.at ∙ ap (λ (m : Variables). slice_get (keys m) c.args.at) c.self.view_is

pub returns : goal.returns
returns c =
    ap Some c.as_str.ensures.value ∙ ap (option_map string_bytes) c.in_ok-name.ensures.key
    ∙ slice_get-keys-shown c.self.inside.settings c.in_ok-name.ensures.ordered c.args.at ∙ ap (λ (m : Variables). slice_get (keys m) c.args.at) c.self.view_is
