use Rattle.std.proofs.Common.{◌≡◌, ◌∙◌, Bool, Some, None, cond, length, ap, arith, sym}
use Rattle.std.proofs.lemmas.Bool.{eq-eqb}
use Rattle.boot_model.specs.Vars.{Variables}
use Rattle.boot_outputs.specs.Barebox.{with_values}
use Rattle.boot_outputs.specs.Texts.{lines_of}
use Rattle.boot_outputs.proofs.barebox.take_values.Goals as goal

pub returns : goal.returns
returns c =
    let as_many : length (lines_of c.args.out.now) ≡ length c.args.names.now = sym c.line_count.ensures ∙ omega arith in
    ap (λ (b : Bool). cond b (Some (with_values c.args.names.now c.args.out.now c.args.read.now)) None) (eq-eqb (length (lines_of c.args.out.now)) (length c.args.names.now) as_many)
    ∙ ap (λ (v : Variables). Some v) (sym c.in_ok-set_values.ensures)
