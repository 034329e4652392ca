use Rattle.std.proofs.Common.{sym, ◌∙◌, ap, List, ℕ, Bor}
use Rattle.std.specs.Option.{option_map}
use Rattle.boot_programs.proofs.Entries.{entry_found}
use Rattle.boot_programs.proofs.entry.entry_at.Goals as goal

pub returns-in_err-value : goal.returns-in_err-value
returns-in_err-value c =
    ap (option_map (λ (e : Bor (List ℕ) × Bor (List ℕ)). (e.0.now, e.1.now))) c.from_residual-in_err-value.ensures
    ∙ ap (option_map (λ (text : List ℕ). (c.in_ok-name.name.now, text))) c.in_err-value.ensures
    ∙ entry_found c.args.vars.now c.args.at c.in_ok-name.name.now (sym c.in_ok-name.ensures)

pub returns : goal.returns
returns c =
    ap (option_map (λ (text : List ℕ). (c.in_ok-name.name.now, text))) c.in_ok-value.ensures
    ∙ entry_found c.args.vars.now c.args.at c.in_ok-name.name.now (sym c.in_ok-name.ensures)
