-- Numbers as text.
use Rattle.std.specs.Prelude.{ℕ, Bool, ◌+◌, ◌*◌, ◌-◌, ◌^◌, ◌&&◌, List, length, fold, Option, Some, None, nat_le, nat_lt, if◌then◌else◌}
use Rattle.std.specs.List.{list_all}

-- a decimal digit of ASCII
abbrev pub is_digit : ℕ → Bool
is_digit byte = nat_le 48 byte && nat_le byte 57

-- the value of decimal digits, the first of them counting most
abbrev pub digits_value : List ℕ → ℕ
digits_value digits = fold (λ value digit. value * 10 + (digit - 48)) 0 digits

-- 1 to 20 digits with a value that fits 64 bits
abbrev pub number_of : List ℕ → Option ℕ
number_of text =
    if (nat_le 1 (length text) && nat_le (length text) 20) && (list_all is_digit text && nat_lt (digits_value text) (2 ^ 64))
    then Some (digits_value text) else None
