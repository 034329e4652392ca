-- Bootnames: words without `=`.
use Rattle.std.proofs.Common.{◌≡◌, ℕ, true, false, List, [], ◌∷◌, ◌++◌, eqb, refl, ◌∙◌}
use Rattle.std.specs.List.{list_all}
use Rattle.std.proofs.lemmas.Bool.{and_from, and_parts, not-true, or_from}
use Rattle.std.proofs.lemmas.List.Folds.{list_any-append}
use Rattle.boot_state.specs.Orders.{is_word}
use Rattle.boot_programs.proofs.Spellings.{has_sign}
use Rattle.boot_commands.specs.Effects.{is_name}

pub name_word : (name : List ℕ) → is_name name ≡ true → is_word name ≡ true
name_word name is = (and_parts (is_word name) _ is).0

pub name_unsigned : (name : List ℕ) → is_name name ≡ true → has_sign name ≡ false
name_unsigned name is = not-true (has_sign name) (and_parts (is_word name) _ is).1

pub names_words : (names : List (List ℕ)) → list_all is_name names ≡ true → list_all is_word names ≡ true
names_words [] are = refl
names_words (name ∷ names) are =
    let parts = and_parts (is_name name) (list_all is_name names) are in
    and_from (is_word name) (list_all is_word names) (name_word name parts.0) (names_words names parts.1)

-- nor has a text that is made of one
pub unsigned_front : (name back : List ℕ) → has_sign name ≡ false → has_sign back ≡ false → has_sign (name ++ back) ≡ false
unsigned_front name back one other = list_any-append (λ b. eqb b 61) name back ∙ or_from (has_sign name) (has_sign back) one other
