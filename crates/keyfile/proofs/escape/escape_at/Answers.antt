use Rattle.std.proofs.Common.{◌∙◌, ℕ, List, ap, sym, option_map}
use Rattle.std.specs.Borrow.{Bor}
use Rattle.std.proofs.lemmas.Bool.{false≢true}
use Rattle.keyfile.proofs.Escaping.{escape_at-uncut}
use Rattle.keyfile.proofs.escape.escape_at.Goals as goal

pub returns-in_err-letter : goal.returns-in_err-letter
returns-in_err-letter c =
    ap (option_map (λ (e : ℕ × Bor (List ℕ)). (e.0, e.1.now))) c.from_residual.ensures
    ∙ sym (escape_at-uncut c.args.rest.now c.utf8.rest (λ cut. false≢true (c.in_err-letter.ensures.variant.1 cut)))
