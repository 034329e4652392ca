-- Sizes as text.
use Rattle.std.specs.Prelude.{ℕ, ◌*◌, ◌-◌, ◌^◌, ◌==◌, List, length, take, slice_index, Option, Some, None, option_and_then, nat_lt, if◌then◌else◌}
use Rattle.updater_text.specs.Numbers.{number_of}

-- how many bytes a letter behind a number stands for: `K`, `M`, `G` or `T`
abbrev pub unit_of : ℕ → Option ℕ
unit_of letter =
    if letter == 75 then Some (2 ^ 10)
    else if letter == 77 then Some (2 ^ 20)
    else if letter == 71 then Some (2 ^ 30)
    else if letter == 84 then Some (2 ^ 40)
    else None

-- so many units, where their bytes fit 64 bits
abbrev pub size_in : ℕ → ℕ → Option ℕ
size_in unit number = if nat_lt (number * unit) (2 ^ 64) then Some (number * unit) else None

-- a number of bytes, or of the unit that the last letter stands for
abbrev pub sized_by : Option ℕ → List ℕ → Option ℕ
sized_by None text = number_of text
sized_by (Some unit) text = option_and_then (size_in unit) (number_of (take (length text - 1) text))

-- a number, alone or with the letter of a unit behind it
abbrev pub size_of : List ℕ → Option ℕ
size_of text = sized_by (unit_of (slice_index text (length text - 1))) text
