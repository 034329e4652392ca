-- Texts that are in a list, and others that are not.
use Rattle.std.proofs.Common.{◌≡◌, ◌∙◌, refl, sym, ap, Bool, true, false, ◌||◌, List, ◌∷◌, map}
use Rattle.std.specs.Str.{bytes_eq}
use Rattle.std.proofs.lemmas.Bool.{true≢false}
use Rattle.keyfile.specs.Groups.{Text}
use Rattle.keyfile.proofs.Distinct.{equal_text, is_in, same_text}
use Rattle.slot_status.specs.Texts.{Row}

abbrev pub keys : List Row → List Text
keys = map (λ (row : Row). row.0)

pub or_true : (b : Bool) → (b || true) ≡ true
or_true true = refl
or_true false = refl

pub in_front : (n : Text) (names : List Text) → is_in (n ∷ names) n ≡ true
in_front n names = λ i. equal_text n n refl i || is_in names n

pub in_rest : (m n : Text) (names : List Text) → is_in names m ≡ true → is_in (n ∷ names) m ≡ true
in_rest m n names there = (λ i. bytes_eq m n || there i) ∙ or_true (bytes_eq m n)

-- one that is in a list is none that is not
pub apart_from : (names : List Text) (n m : Text) → is_in names n ≡ false → is_in names m ≡ true → bytes_eq m n ≡ false
apart_from names n m absent present = go (bytes_eq m n) refl
  where
    go : (b : Bool) → bytes_eq m n ≡ b → b ≡ false
    go true is = absurd (true≢false (sym present ∙ ap (is_in names) (same_text m n is) ∙ absent))
    go false is = refl
