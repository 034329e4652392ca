-- Texts in quotes.
use Rattle.std.specs.Prelude.{ℕ, ◌==◌, List, [], ◌∷◌, ◌++◌, if◌then◌else◌}
use Rattle.std.specs.List.{flat_map}

-- a byte between quotes: a quote itself is written as `'\''`
abbrev pub quote_byte : ℕ → List ℕ
quote_byte byte = if byte == 39 then 39 ∷ 92 ∷ 39 ∷ 39 ∷ [] else byte ∷ []

-- a text between quotes, as a shell reads it back
abbrev pub quote_of : List ℕ → List ℕ
quote_of text = 39 ∷ flat_map quote_byte text ++ 39 ∷ []
