-- A slash at the end of a text.
use Rattle.std.proofs.Common.{◌≡◌, ◌≢◌, ℕ, ◌-◌, true, false, cond, eqb, List, [], ◌∷◌, ◌++◌, length, take, get_or, suc, Option, Some, None, Bor, refl, sym, ◌∙◌, ap, subst, arith, eq-eqb, length-append}
use Rattle.std.specs.Prelude.{unwrap_or, MatchOption}
use Rattle.std.proofs.Math.Seq.{get_or-append_seam, take-append_seam}
use Rattle.std.proofs.lemmas.Bool.{eqb-true}
use Rattle.conf_forms.specs.Forms.{without_slash}

-- with a slash at the end it is the front
without_slash-append : (front : List ℕ) → without_slash (front ++ 47 ∷ []) ≡ front
without_slash-append front =
    let n : length (front ++ 47 ∷ []) - 1 ≡ length front = omega (arith, length-append front (47 ∷ [])) in
    (λ i. cond (eqb (get_or (front ++ 47 ∷ []) (n i) 0) 47) (take (n i) (front ++ 47 ∷ [])) (front ++ 47 ∷ []))
    ∙ ap (λ b. cond b (take (length front) (front ++ 47 ∷ [])) (front ++ 47 ∷ [])) (eq-eqb (get_or (front ++ 47 ∷ []) (length front) 0) 47 (get_or-append_seam front 47 [] 0))
    ∙ take-append_seam front (47 ∷ [])

-- the last byte tells
ends_in : (text : List ℕ) → get_or text (length text - 1) 0 ≡ 47 → (front : List ℕ) × (text ≡ front ++ 47 ∷ [])
ends_in [] e = absurd (omega (arith, e))
ends_in (x ∷ []) e = ([], ap (λ y. y ∷ []) e)
ends_in (x ∷ y ∷ ys) e =
    let n : length (x ∷ y ∷ ys) - 1 ≡ suc (length (y ∷ ys) - 1) = omega arith in
    let r = ends_in (y ∷ ys) (subst (λ k. get_or (x ∷ y ∷ ys) k 0 ≡ 47) n e) in
    (x ∷ r.0, ap (λ front. x ∷ front) r.1)

pub without_slash-read : (text : List ℕ) (r : Option (Bor (List ℕ))) (given : Bor (List ℕ)) → given.now ≡ text
    → MatchOption r ((front : List ℕ) → text ≢ front ++ (47 ∷ [])) (λ x. text ≡ x.now ++ (47 ∷ [])) → (unwrap_or r given).now ≡ without_slash text
without_slash-read text (Some x) given same h = sym (ap without_slash h ∙ without_slash-append x.now)
without_slash-read text None given same h =
    same ∙ elim (eqb (get_or text (length text - 1) 0) 47) as (λ b. eqb (get_or text (length text - 1) 0) 47 ≡ b → text ≡ cond b (take (length text - 1) text) text) [
      | true ↦ λ e. let r = ends_in text (eqb-true (get_or text (length text - 1) 0) 47 e) in absurd (h r.0 r.1)
      | false ↦ λ e. refl
    ] refl
