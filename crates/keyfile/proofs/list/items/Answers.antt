use Rattle.std.proofs.Common.{◌≡◌, ◌∙◌, ◌==◌, ◌++◌, ◌∷◌, [], Bool, ap, sym, length, if◌then◌else◌}
use Rattle.std.specs.List.{slice_split}
use Rattle.keyfile.specs.Groups.{Text}
use Rattle.keyfile.specs.Items.{without_empty_last}
use Rattle.keyfile.proofs.Pieces.{without_empty_last-push}
use Rattle.keyfile.proofs.list.items.Goals as goal

pub returns-then-is_empty : goal.returns-then-is_empty
returns-then-is_empty c =
    let rest = c.pop.new.self.items in
    let whole : slice_split (λ b. b == 59) c.args.text.now ≡ rest ++ c.in-Some.last ∷ [] = sym c.in_ok-items.ensures ∙ c.in-Some.ensures.items in
    sym (ap without_empty_last whole ∙ (without_empty_last-push rest c.in-Some.last
    ∙ ap (λ (b : Bool). if b then rest else rest ++ c.in-Some.last ∷ []) (ap (λ (t : Text). length t == 0) (sym c.as_bytes.ensures) ∙ sym c.if-is_empty.ensures)))

pub returns : goal.returns
returns c =
    let rest = c.pop.new.self.items in
    let whole : slice_split (λ b. b == 59) c.args.text.now ≡ rest ++ c.in-Some.last ∷ [] = sym c.in_ok-items.ensures ∙ c.in-Some.ensures.items in
    c.in_ok-push.ensures.items ∙ sym (ap without_empty_last whole ∙ (without_empty_last-push rest c.in-Some.last
    ∙ ap (λ (b : Bool). if b then rest else rest ++ c.in-Some.last ∷ []) (ap (λ (t : Text). length t == 0) (sym c.as_bytes.ensures) ∙ sym c.if-is_empty.ensures)))
