use Rattle.std.proofs.Common.{◌≡◌, ◌∙◌, ℕ, List, Some, Bool, codes, Bor, take, drop, ap, sym, subst}
use Rattle.std.specs.Prelude.{option_and_then}
use Rattle.std.specs.Option.{option_map}
use Rattle.std.specs.Str.{IsUtf8}
use Rattle.std.proofs.lemmas.Bool.{false≢true}
use Rattle.boot_outputs.specs.Efi.{entry_from, label_from, text_if}
use Rattle.boot_outputs.specs.Texts.{behind}
use Rattle.boot_outputs.proofs.Fronts.{behind-whole}
use Rattle.boot_outputs.proofs.EfiBytes.{no_number}
use Rattle.boot_outputs.proofs.efi.entry_in.Goals as goal

pub returns-in_err-number : goal.returns-in_err-number
returns-in_err-number c =
    let rest = c.in_ok-behind.field-0.now in
    let there : behind (codes "Boot") c.args.line.now ≡ Some rest = sym c.in_ok-behind.ensures in
    let text = subst IsUtf8 (behind-whole (codes "Boot") c.args.line.now rest there) c.utf8.line in
    let no = no_number rest text (λ cut. false≢true (c.in_err-number.ensures.variant.1 cut)) in
    ap (option_map (λ (e : Bor (List ℕ) × Bor (List ℕ)). (e.0.now, e.1.now))) c.from_residual-in_err-number.ensures
    ∙ sym (ap (option_and_then entry_from) there
    ∙ ap (λ (b : Bool). option_and_then (λ (number : List ℕ). option_map (λ (label : List ℕ). (number, label)) (label_from (drop 4 rest))) (text_if b (take 4 rest))) no)
