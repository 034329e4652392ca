use Rattle.std.proofs.Common.{◌∙◌, ap, sym, codes}
use Rattle.std.specs.Prelude.{option_and_then}
use Rattle.std.specs.Option.{option_copied}
use Rattle.boot_outputs.specs.Texts.{behind}
use Rattle.boot_outputs.proofs.Fronts.{behind-append}
use Rattle.boot_outputs.proofs.uboot.value_in.Goals as goal

pub returns-in_err-behind : goal.returns-in_err-behind
returns-in_err-behind c =
    ap option_copied c.from_residual.ensures
    ∙ sym (behind-append c.args.name.now (codes "=") c.args.line.now ∙ ap (option_and_then (behind (codes "="))) (sym c.in_err-behind.ensures))

pub returns : goal.returns
returns c =
    c.behind-2.ensures
    ∙ sym (behind-append c.args.name.now (codes "=") c.args.line.now ∙ ap (option_and_then (behind (codes "="))) (sym c.in_ok-behind.ensures))
