use Rattle.std.proofs.Common.{◌≡◌, ◌<◌, ◌++◌, ◌∷◌, [], ℕ, List, ◌∙◌, ap, arith, append_assoc}
use Rattle.slot_status.proofs.time.push_two_digits.Goals as goal

with_two : (old mid new e f : List ℕ) (a b : ℕ) → new ≡ mid ++ f → mid ≡ old ++ e → e ≡ a ∷ [] → f ≡ b ∷ [] → new ≡ old ++ (a ∷ b ∷ [])
with_two old mid new e f a b is first one other =
    is ∙ (λ i. (first ∙ ap (λ (x : List ℕ). old ++ x) one) i ++ other i) ∙ append_assoc old (a ∷ []) (b ∷ [])

pub returns : goal.returns
returns c =
    let first : c.from.result < 128 = omega (arith, c.from.ensures) in
    let second : c.from-2.result < 128 = omega (arith, c.from-2.ensures) in
    with_two _ _ _ _ _ _ _ c.in_ok-push-2.ensures.bytes c.in_ok-push.ensures.bytes
    (c.in_ok-push.ensures.ascii first ∙ ap (λ (d : ℕ). d ∷ []) c.from.ensures) (c.in_ok-push-2.ensures.ascii second ∙ ap (λ (d : ℕ). d ∷ []) c.from-2.ensures)
