-- Lists that are the same from a place on.
use Rattle.std.proofs.Common.{◌≡◌, ℕ, ◌+◌, List, drop, sym, ◌∙◌, ap, arith, get_or}
use Rattle.std.proofs.lemmas.List.{get_or-drop}

pub same_here : {A : Type 0} (xs ys : List A) (at : ℕ) (d : A) → drop at xs ≡ drop at ys → get_or xs at d ≡ get_or ys at d
same_here xs ys at d rest =
    let none : at + 0 ≡ at = omega arith in
    ap (λ k. get_or xs k d) (sym none)
    ∙ sym (get_or-drop at xs 0 d)
    ∙ ap (λ zs. get_or zs 0 d) rest
    ∙ get_or-drop at ys 0 d
    ∙ ap (λ k. get_or ys k d) none
