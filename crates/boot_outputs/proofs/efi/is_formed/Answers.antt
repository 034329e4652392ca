use Rattle.std.proofs.Common.{◌≡◌, ◌∙◌, Bool, true, false, cond, codes, eqb, ap, sym}
use Rattle.std.specs.Prelude.{is_some}
use Rattle.std.specs.List.{starts_with}
use Rattle.std.proofs.lemmas.Str.Pattern.{starts_text}
use Rattle.boot_outputs.specs.Efi.{next_in, order_in}
use Rattle.boot_outputs.proofs.efi.is_formed.Goals as goal

pub returns : goal.returns
returns c =
    let line = c.args.line.now in
    let next : starts_with eqb line (codes "BootNext: ") ≡ false = sym (starts_text false (codes "BootNext: ") line c.if-starts_with.ensures.cases) in
    let order : starts_with eqb line (codes "BootOrder: ") ≡ false = sym (starts_text false (codes "BootOrder: ") line c.if-starts_with-2.ensures.cases) in
    sym (ap (λ (b : Bool). cond b (is_some (next_in line)) (cond (starts_with eqb line (codes "BootOrder: ")) (is_some (order_in line)) true)) next
    ∙ ap (λ (b : Bool). cond b (is_some (order_in line)) true) order)
