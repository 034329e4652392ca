use Rattle.std.proofs.Common.{◌≡◌, ◌∙◌, ℕ, List, Option, Some, None, ap, sym, subst}
use Rattle.std.specs.Prelude.{OnOk}
use Rattle.std.specs.Option.{option_copied, option_map, option_or}
use Rattle.boot_outputs.specs.Efi.{entry_in, entry_setting, next_in, next_setting, order_in, order_setting, variable_in}
use Rattle.boot_outputs.specs.Texts.{with_setting}
use Rattle.boot_outputs.proofs.efi.take_line.Goals as goal

pub returns-in-Some-order_in : goal.returns-in-Some-order_in
returns-in-Some-order_in c =
    let line = c.args.line.now in
    let order = c.in-Some-order_in.order.now in
    let none : next_in line ≡ None = sym c.next_in.ensures ∙ ap option_copied c.in_default.is in
    let some : order_in line ≡ Some order = sym c.in-Some-order_in.ensures in
    let told : variable_in line ≡ Some (order_setting order) =
    λ i. option_or (option_map next_setting (none i)) (option_or (option_map order_setting (some i)) (option_map entry_setting (entry_in line))) in
    subst (λ (o : Option (List ℕ × List ℕ)). OnOk c.set_upper-in-Some-order_in.result (c.set_upper-in-Some-order_in.new.read ≡ with_setting c.args.read.now o)) (sym told) c.set_upper-in-Some-order_in.ensures
