-- The value of digits, read from the left.
use Rattle.std.proofs.Common.{◌≡◌, ◌≤◌, ◌<◌, ◌^◌, ◌+◌, ◌-◌, ◌*◌, ℕ, List, [], ◌∷◌, length, take, drop, Some, None, true, subst, sym, ◌∙◌, ap, arith, get_or}
use Rattle.std.specs.Prelude.{fold}
use Rattle.std.specs.List.{list_all}
use Rattle.std.proofs.lemmas.Bool.Decides.{nat_tests}
use Rattle.std.proofs.lemmas.List.{take-append-drop, take_all}
use Rattle.std.proofs.lemmas.List.Sums.{fold-append, fold_more}
use Rattle.updater_text.specs.Numbers.{is_digit, digits_value, number_of}

value_grows : (start : ℕ) (digits : List ℕ) → start ≤ fold (λ value digit. value * 10 + (digit - 48)) start digits
value_grows start [] = omega arith
value_grows start (d ∷ ds) = omega (arith, value_grows (start * 10 + (d - 48)) ds)

-- the value of a front is at most the whole value
value_of-take-le : (n : ℕ) (digits : List ℕ) → digits_value (take n digits) ≤ digits_value digits
value_of-take-le n digits =
    subst (λ (text : List ℕ). digits_value (take n digits) ≤ digits_value text) (take-append-drop n digits)
    (subst (λ (v : ℕ). digits_value (take n digits) ≤ v) (sym (fold-append (λ value digit. value * 10 + (digit - 48)) 0 (take n digits) (drop n digits)))
    (value_grows (digits_value (take n digits)) (drop n digits)))

too_large : (text : List ℕ) → 2 ^ 64 ≤ digits_value text → None ≡ number_of text
too_large text large = grind (arith, nat_tests)

-- a front with one digit more is too large, and so is the whole
pub overflows : (text : List ℕ) (i value : ℕ) → i < length text → value ≡ digits_value (take i text) → 2 ^ 64 ≤ value * 10 + (get_or text i 0 - 48) → None ≡ number_of text
overflows text i value within is large =
    let more = fold_more (λ value digit. value * 10 + (digit - 48)) 0 text i 0 within in
    too_large text (omega (arith, value_of-take-le (i + 1) text, more, is, large))

pub reads_all : (text : List ℕ) (i value : ℕ) → length text ≤ i → 1 ≤ length text → length text ≤ 20 → list_all is_digit (take i text) ≡ true → value ≡ digits_value (take i text) → value < 2 ^ 64 → Some value ≡ number_of text
reads_all text i value all some few digits is fits =
    let whole : take i text ≡ text = take_all i text all in
    reads text value some few (subst (λ (xs : List ℕ). list_all is_digit xs ≡ true) whole digits) (is ∙ ap digits_value whole) fits
  where
    reads : (text : List ℕ) (value : ℕ) → 1 ≤ length text → length text ≤ 20 → list_all is_digit text ≡ true → value ≡ digits_value text → value < 2 ^ 64 → Some value ≡ number_of text
    reads text value some few digits is fits = grind (arith, nat_tests)
