-- Whether the grammar spells a value, of a type that a text writes, at an offset: where it then ends.
use Rattle.std.specs.Prelude.{ℕ, ◌+◌, ◌-◌, ◌^◌, Bool, ◌||◌, ◌&&◌, not, ◌==◌, nat_lt, nat_le, if◌then◌else◌, List, length, take, drop, Option, Some, None}
use Rattle.std.specs.Str.{bytes_eq}
use Rattle.wire_value.specs.Types.{Textual, string, object_path, signature, fixed_letter, textual_letter, width}
use Rattle.wire_value.specs.Plain.{Plain, number, words, array, struct, entry, variant, Plains, none, more, sig}
use Rattle.wire_value.specs.Spelling.{gap, first_item, below, is_path}
use Rattle.wire_value.specs.Sizes.{ends}
use Rattle.wire_value.specs.Reading.{◌>>=◌, head, is_string, is_signature, is_single, is_end, one_type}

abbrev pub is_letter : ℕ → List ℕ → Bool
is_letter c s = (length s == 1) && (head s == c)

abbrev pub is_textual : Textual → List ℕ → Bool
is_textual string t = is_string t && nat_lt (length t) (2 ^ 32)
is_textual object_path t = (is_string t && nat_lt (length t) (2 ^ 32)) && is_path t
is_textual signature t = is_signature t

-- the type of a variant's value
abbrev pub is_variant_type : List ℕ → Bool
is_variant_type t = nat_le (length t) 255 && is_single t

-- an array from where its first item begins to where its last one ends
abbrev pub array_within : ℕ → ℕ → Option ℕ
array_within first end = if nat_le end (first + 2 ^ 26) then Some end else None

-- nothing ends behind the limit
module _ (limit : ℕ) where
  abbrev pub within : ℕ → Option ℕ
  within n = if nat_le n limit then Some n else None

  -- a number of the type with the letter, below m and of w bytes
  abbrev pub checked_number : ℕ → List ℕ → ℕ → ℕ → ℕ → ℕ → Option ℕ
  checked_number c s x m w n = if is_letter c s && nat_lt x m then within (n + gap w n + w) else None

  abbrev pub checked_words : Textual → List ℕ → List ℕ → ℕ → Option ℕ
  checked_words k s t n = if is_letter (textual_letter k) s && is_textual k t then within (ends n (words k t)) else None

  abbrev mutual
    pub checked : ℕ → List ℕ → ℕ → Plain → Option ℕ
    checked d s n (number f x) = checked_number (fixed_letter f) s x (below f) (width f) n
    checked d s n (words k t) = checked_words k s t n
    checked d s n (array item vs) =
        if (d == 0) || not ((head s == 97) && bytes_eq (drop 1 s) item) then None
        else checked_items (d - 1) item (first_item item (n + gap 4 n + 4)) vs >>= array_within (first_item item (n + gap 4 n + 4))
    checked d s n (struct vs) =
        if (d == 0) || not (head s == 40) then None else checked_fields (d - 1) (drop 1 s) (n + gap 8 n) vs
    checked d s n (entry k v) =
        if (d == 0) || not (head s == 123) then None
        else checked (d - 1) (take 1 (drop 1 s)) (n + gap 8 n) k >>= λ e. checked (d - 1) (take (length (drop 1 s) - 2) (drop 1 (drop 1 s))) e v
    checked d s n (variant v) =
        if (d == 0) || not (is_letter 118 s) || not (is_variant_type (sig v)) then None
        else checked (d - 1) (sig v) (n + 1 + length (sig v) + 1) v

    -- values of one type
    pub checked_items : ℕ → List ℕ → ℕ → Plains → Option ℕ
    checked_items d item n none = within n
    checked_items d item n (more v vs) = checked d item n v >>= λ e. checked_items d item e vs

    -- values of the types that a text writes, to its end or to a closing bracket
    pub checked_fields : ℕ → List ℕ → ℕ → Plains → Option ℕ
    checked_fields d s n none = if is_end s then within n else None
    checked_fields d s n (more v vs) =
        if is_end s then None
        else one_type s >>= λ rest. checked d (take (length s - length rest) s) n v >>= λ e. checked_fields d rest e vs
