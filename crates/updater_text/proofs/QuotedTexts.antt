-- Texts in quotes, piece by piece.
use Rattle.std.proofs.Common.{◌≡◌, ◌∙◌, ◌<◌, ℕ, suc, List, [], ◌∷◌, ◌++◌, length, get_or, ap, sym, refl, arith, append_assoc}
use Rattle.std.proofs.lemmas.Bool.Decides.{nat_tests}
use Rattle.std.proofs.lemmas.Grind.{flat_map-append}
use Rattle.std.specs.List.{flat_map}
use Rattle.updater_text.specs.Quotes.{quote_byte}

-- no byte of a text is a quote
abbrev pub IsUnquoted : List ℕ → Type 0
IsUnquoted text = (i : ℕ) → i < length text → get_or text i 0 ≡ 39 → ⊥

quoted_byte-other : (b : ℕ) → (b ≡ 39 → ⊥) → quote_byte b ≡ b ∷ []
quoted_byte-other b apart = grind (arith, nat_tests)

-- such a text stays as it is
pub flat_map-unquoted : (text : List ℕ) → IsUnquoted text → flat_map quote_byte text ≡ text
flat_map-unquoted [] none = refl
flat_map-unquoted (b ∷ more) none =
    ap (λ (t : List ℕ). t ++ flat_map quote_byte more) (quoted_byte-other b (none 0 (omega arith)))
    ∙ ap (λ (t : List ℕ). b ∷ t) (flat_map-unquoted more (λ i within. none (suc i) (omega arith)))

-- a piece and the quote behind it
pub quoted-turn : (out plain rest left : List ℕ) → left ≡ plain ++ 39 ∷ rest → IsUnquoted plain
    → ((out ++ plain) ++ 39 ∷ 92 ∷ 39 ∷ 39 ∷ []) ++ flat_map quote_byte rest ≡ out ++ flat_map quote_byte left
quoted-turn out plain rest left whole none =
    append_assoc (out ++ plain) (39 ∷ 92 ∷ 39 ∷ 39 ∷ []) (flat_map quote_byte rest)
    ∙ (append_assoc out plain (39 ∷ 92 ∷ 39 ∷ 39 ∷ flat_map quote_byte rest)
    ∙ ap (λ (t : List ℕ). out ++ t) (sym (ap (flat_map quote_byte) whole
    ∙ (flat_map-append quote_byte plain (39 ∷ rest)
    ∙ ap (λ (t : List ℕ). t ++ 39 ∷ 92 ∷ 39 ∷ 39 ∷ flat_map quote_byte rest) (flat_map-unquoted plain none)))))
