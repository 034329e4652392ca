use Rattle.std.proofs.Common.{◌≡◌, ◌∙◌, ap, false, codes, List, ℕ, Option, Some, None}
use Rattle.std.specs.Option.{option_map_or}
use Rattle.std.specs.Str.{bytes_eq}
use Rattle.clap.specs.Words.{first_of, found_of, rows_of}
use Rattle.clap.proofs.WalkLemmas.{first_value-rows}
use Rattle.rauc_words.proofs.command_line.is_flag_set.Goals as goal

pub returns-in-Some : goal.returns-in-Some
returns-in-Some c =
    let first : Some c.in-Some.text.now ≡ first_of c.args.id.now (rows_of (found_of c.args.matches.now)) =
    c.in-Some.ensures ∙ first_value-rows (found_of c.args.matches.now) c.args.id.now in
    c.eq.ensures ∙ ap (λ (o : Option (List ℕ)). option_map_or (λ t. bytes_eq t (codes "true")) o false) first

pub returns-in-None : goal.returns-in-None
returns-in-None c =
    let first : None ≡ first_of c.args.id.now (rows_of (found_of c.args.matches.now)) =
    c.in-None.ensures ∙ first_value-rows (found_of c.args.matches.now) c.args.id.now in
    ap (λ (o : Option (List ℕ)). option_map_or (λ t. bytes_eq t (codes "true")) o false) first
