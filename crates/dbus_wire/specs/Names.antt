-- Names in a header (D-Bus specification, "Valid Names").
use Rattle.std.specs.Prelude.{ℕ, Bool, true, false, ◌&&◌, ◌||◌, not, ◌==◌, nat_le, if◌then◌else◌, List, [], ◌∷◌, length}
use Rattle.wire_value.specs.Spelling.{is_path_byte}

abbrev pub is_digit : ℕ → Bool
is_digit c = nat_le 48 c && nat_le c 57

-- a letter, a digit or an underscore; the first of a part is no digit
abbrev pub is_name_byte : Bool → ℕ → Bool
is_name_byte inside c = is_path_byte c && (inside || not (is_digit c))

-- what stands inside a part, or before one: parts of one byte at least with a dot between them
abbrev pub are_parts : Bool → List ℕ → Bool
are_parts inside [] = inside
are_parts inside (c ∷ s) =
    if c == 46 then inside && are_parts false s else is_name_byte inside c && are_parts true s

abbrev pub has_dot : List ℕ → Bool
has_dot [] = false
has_dot (c ∷ s) = (c == 46) || has_dot s

-- one part
abbrev pub is_member : List ℕ → Bool
is_member s = nat_le (length s) 255 && (are_parts false s && not (has_dot s))

-- two parts at least; the same of an error's name
abbrev pub is_interface : List ℕ → Bool
is_interface s = nat_le (length s) 255 && (are_parts false s && has_dot s)
