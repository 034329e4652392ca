use Rattle.std.proofs.Common.{◌∙◌, ap, Some, List, ℕ}
use Rattle.clap.specs.Words.{found_of}
use Rattle.clap.proofs.WalkLemmas.{first_value-rows}
use Rattle.rauc_words.proofs.command_line.text_at.Goals as goal

pub returns-in_ok-new-in-Some : goal.returns-in_ok-new-in-Some
returns-in_ok-new-in-Some c =
    ap (λ (t : List ℕ). Some t) c.in_ok-new-in-Some.ensures
    ∙ (c.in-Some.ensures ∙ first_value-rows (found_of c.args.matches.now) c.args.id.now)

pub returns-in-None : goal.returns-in-None
returns-in-None c = c.in-None.ensures ∙ first_value-rows (found_of c.args.matches.now) c.args.id.now
