use Rattle.std.proofs.Common.{Some, sym, ◌∙◌, ap, string_bytes}
use Rattle.std.specs.Option.{option_map, option_copied}
use Rattle.std.specs.FinMap.{get}
use Rattle.boot_model.specs.Vars.{Variables}
use Rattle.boot_model.proofs.Shown.{get-shown}
use Rattle.boot_model.proofs.vars.Vars.get.Goals as goal

pub returns-in_err-value : goal.returns-in_err-value
returns-in_err-value c =
    ap option_copied c.from_residual.ensures ∙ ap (option_map string_bytes) c.in_err-value.ensures.value
    ∙ sym (get-shown c.self.inside.settings c.args.name.now) ∙ ap (λ (m : Variables). get m c.args.name.now) c.self.view_is

pub returns : goal.returns
returns c =
    ap Some c.as_str.ensures.value ∙ ap (option_map string_bytes) c.in_ok-value.ensures.value
    ∙ sym (get-shown c.self.inside.settings c.args.name.now) ∙ ap (λ (m : Variables). get m c.args.name.now) c.self.view_is
