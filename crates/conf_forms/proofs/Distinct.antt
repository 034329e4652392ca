-- Texts that differ, and the parts of them behind a front that all have.
use Rattle.std.proofs.Common.{◌≡◌, Bool, true, false, cond, not, ◌&&◌, ◌||◌, List, [], ◌∷◌, ◌++◌, map, filter, refl, sym, ◌∙◌, ap}
use Rattle.std.specs.List.{AllByRecursion, IsDistinct, list_any}
use Rattle.std.specs.Str.{bytes_eq}
use Rattle.std.proofs.lemmas.Bool.{true≢false}
use Rattle.std.proofs.lemmas.Slice.Eq.{bytes_eq-Decides}
use Rattle.keyfile.specs.Groups.{Text, all_distinct}

none_of : (x : Text) (xs : List Text) → AllByRecursion (λ y. bytes_eq x y ≡ false) xs → list_any (bytes_eq x) xs ≡ false
none_of x [] h = refl
none_of x (y ∷ ys) h = λ i. h.0 i || none_of x ys h.1 i

pub all_distinct_by : (xs : List Text) → IsDistinct bytes_eq xs → all_distinct xs ≡ true
unfolding IsDistinct
all_distinct_by [] h = refl
all_distinct_by (x ∷ xs) h = λ i. not (none_of x xs h.0 i) && all_distinct_by xs h.1 i

-- texts of a form are a front and their parts
module _ (is : Text → Bool) (front : Text) (part : Text → Text) (whole : (t : Text) → is t ≡ true → t ≡ front ++ part t) where
  parts_apart : (t u : Text) → is t ≡ true → is u ≡ true → bytes_eq t u ≡ false → bytes_eq (part t) (part u) ≡ false
  parts_apart t u p q apart = go (bytes_eq (part t) (part u)) refl
    where
      go : (b : Bool) → bytes_eq (part t) (part u) ≡ b → bytes_eq (part t) (part u) ≡ false
      go false h = h
      go true h =
          let same : t ≡ u = whole t p ∙ ap (λ (n : Text). front ++ n) ((bytes_eq-Decides (part t) (part u)).0 h) ∙ sym (whole u q) in
          absurd (true≢false (sym ((bytes_eq-Decides t u).1 same) ∙ apart))

  apart_from : (t : Text) → is t ≡ true → (texts : List Text) → AllByRecursion (λ u. bytes_eq t u ≡ false) texts → AllByRecursion (λ n. bytes_eq (part t) n ≡ false) (map part (filter is texts))
  apart_from t p [] apart = tt
  apart_from t p (u ∷ texts) apart =
      let rest = apart_from t p texts apart.1 in
      elim (is u) as (λ b. is u ≡ b → AllByRecursion (λ n. bytes_eq (part t) n ≡ false) (map part (cond b (u ∷ filter is texts) (filter is texts)))) [
        | true ↦ λ q. (parts_apart t u p q apart.0, rest)
        | false ↦ λ q. rest
      ] refl

  pub IsDistinct-parts : (texts : List Text) → IsDistinct bytes_eq texts → IsDistinct bytes_eq (map part (filter is texts))
  unfolding IsDistinct
  IsDistinct-parts [] h = tt
  IsDistinct-parts (t ∷ texts) h =
      let rest = IsDistinct-parts texts h.1 in
      elim (is t) as (λ b. is t ≡ b → IsDistinct bytes_eq (map part (cond b (t ∷ filter is texts) (filter is texts)))) [
        | true ↦ λ p. (apart_from t p texts h.0, rest)
        | false ↦ λ p. rest
      ] refl
