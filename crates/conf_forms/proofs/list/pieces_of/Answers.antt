use Rattle.std.proofs.Common.{◌∙◌, ◌==◌, ℕ, List, ap, eqb, length, lit<, refl, sym}
use Rattle.std.proofs.lemmas.Bool.{true≢false}
use Rattle.std.specs.List.{slice_split}
use Rattle.std.proofs.lemmas.Str.Pattern.{strip_suffix_char}
use Rattle.conf_forms.proofs.Items.{items_read}
use Rattle.conf_forms.proofs.list.pieces_of.Goals as goal

pub returns-else-is_empty : goal.returns-else-is_empty
returns-else-is_empty c =
    items_read c.args.list.now c.strip_suffix.result c.args.list refl (λ e. true≢false (sym (sym c.if-is_empty.false ∙ c.is_empty.ensures ∙ ap (λ (xs : List ℕ). eqb (length xs) 0) e))) (strip_suffix_char 59 c.args.list.now c.strip_suffix.result c.strip_suffix.ensures.cases (lit< tt))
    ∙ sym (ap (λ t. slice_split (λ b. b == 59) t.now) c.unwrap_or.ensures)
