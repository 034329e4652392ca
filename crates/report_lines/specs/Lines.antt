-- Lines of a readable text, and assignments for a shell.
use Rattle.std.specs.Prelude.{ℕ, Bool, List, nat_lt, [], ◌++◌, codes, decimal, map, Option, if◌then◌else◌}
use Rattle.std.specs.Option.{option_map_or}
use Rattle.updater_text.specs.Quotes.{quote_of}

-- the text, where so
abbrev pub text_if : Bool → List ℕ → List ℕ
text_if there text = if there then text else []

-- a byte of a value: a control character stands as `?`
abbrev pub shown_byte : ℕ → ℕ
shown_byte byte = if nat_lt byte 32 then 63 else byte

-- a line of a value
unfoldable pub line : List ℕ → List ℕ → List ℕ
line name value = name ++ map shown_byte value ++ codes "\n"

unfoldable pub line_if_any : List ℕ → Option (List ℕ) → List ℕ
line_if_any name value = option_map_or (line name) value []

unfoldable pub number_line : List ℕ → ℕ → List ℕ
number_line name number = name ++ decimal number ++ codes "\n"

-- an assignment
unfoldable pub setting : List ℕ → List ℕ → List ℕ
setting name value = name ++ codes "=" ++ quote_of value ++ codes "\n"

-- one to a numbered variable
unfoldable pub numbered : List ℕ → ℕ → List ℕ → List ℕ
numbered name number value = setting (name ++ decimal number) value
