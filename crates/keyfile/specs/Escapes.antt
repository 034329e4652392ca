-- Values as they are written.
use Rattle.std.specs.Prelude.{ℕ, ◌==◌, [], ◌∷◌, ◌++◌, Option, Some, None, option_map, if◌then◌else◌}
use Rattle.std.specs.List.{flat_map}
use Rattle.keyfile.specs.Groups.{Text}

-- the byte that a letter behind a backslash stands for: `s` a space, `n` a line feed, `t` a tab, `r` a carriage return, and a backslash itself
abbrev pub letter_byte : ℕ → Option ℕ
letter_byte letter =
    if letter == 115 then Some 32
    else if letter == 110 then Some 10
    else if letter == 116 then Some 9
    else if letter == 114 then Some 13
    else if letter == 92 then Some 92
    else None

-- the same for the letter at the front of a text, with what follows it
abbrev pub escape_at : Text → Option (ℕ × Text)
escape_at [] = None
escape_at (letter ∷ more) = option_map (λ byte. (byte, more)) (letter_byte letter)

-- a byte in front of a value, where both are there
abbrev pub cons_both : Option ℕ → Option Text → Option Text
cons_both (Some byte) (Some text) = Some (byte ∷ text)
cons_both (Some byte) None = None
cons_both None text = None

-- the value that is written so, where each backslash stands before one of the letters
abbrev pub unescape : Text → Option Text
unescape [] = Some []
unescape (b ∷ []) = if b == 92 then None else Some (b ∷ [])
unescape (b ∷ c ∷ more) = if b == 92 then cons_both (letter_byte c) (unescape more) else option_map (λ text. b ∷ text) (unescape (c ∷ more))

-- a byte behind the leading run of spaces, as it is written
abbrev pub escape : ℕ → Text
escape byte =
    if byte == 10 then 92 ∷ 110 ∷ []
    else if byte == 9 then 92 ∷ 116 ∷ []
    else if byte == 13 then 92 ∷ 114 ∷ []
    else if byte == 92 then 92 ∷ 92 ∷ []
    else byte ∷ []

-- a value as it is written: each space of its leading run is escaped, and each line feed, tab, carriage return and backslash
abbrev pub value_text : Text → Text
value_text [] = []
value_text (b ∷ more) = if b == 32 then 92 ∷ 115 ∷ value_text more else escape b ++ flat_map escape more
