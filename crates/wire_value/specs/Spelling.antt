-- How values stand in a message (D-Bus specification, "Marshaling"), by cases on their types.
use Rattle.std.specs.Prelude.{◌≡◌, ◌≢◌, ℕ, zero, suc, ◌+◌, ◌-◌, ◌%◌, ◌<◌, ◌≤◌, ◌^◌, Bool, true, false, ◌&&◌, ◌||◌, ◌==◌, nat_le, if◌then◌else◌, List, [], ◌∷◌, ◌++◌, length, slice_index, ⊤}
use Rattle.std.specs.List.{AllByRecursion}
use Rattle.std.specs.Str.{IsUtf8}
use Rattle.byteorder.specs.Endian.{little_bytes, big_bytes}
use Rattle.wire_value.specs.Types.{Fixed, byte, boolean, int16, uint16, int32, uint32, int64, uint64, double, unix_fd, Textual, string, object_path, signature, width, IsType, IsItemType, IsSignature}
use Rattle.wire_value.specs.Plain.{Plain, number, words, array, struct, entry, variant, Plains, none, more, sig, nest, nests, IsKey}

-- so many bytes of padding
abbrev pub zeros : ℕ → List ℕ
zeros zero = []
zeros (suc k) = 0 ∷ zeros k

-- how many bytes lie between an offset and the next multiple of the alignment
unfoldable pub gap : ℕ → ℕ → ℕ
gap alignment n = (alignment - n % alignment) % alignment

-- a number as so many bytes, the lowest or the highest first
unfoldable pub word : Bool → ℕ → ℕ → List ℕ
word true k x = little_bytes k x
word false k x = big_bytes k x

-- the alignment of a type, by its first letter: 1 for y g v, 2 for n q, 8 for x t d ( {, and 4
unfoldable pub alignment : List ℕ → ℕ
alignment s =
    let c = slice_index s 0 in
    if (c == 121) || (c == 103) || (c == 118) then 1
    else if (c == 110) || (c == 113) then 2
    else if (c == 120) || (c == 116) || (c == 100) || (c == 40) || (c == 123) then 8
    else 4

-- where the items of an array begin whose length ends at an offset
abbrev pub first_item : List ℕ → ℕ → ℕ
first_item item n = n + gap (alignment item) n

-- the numbers of a type are those below this one
abbrev pub below : Fixed → ℕ
below byte = 2 ^ 8
below boolean = 2
below int16 = 2 ^ 16
below uint16 = 2 ^ 16
below int32 = 2 ^ 32
below uint32 = 2 ^ 32
below int64 = 2 ^ 64
below uint64 = 2 ^ 64
below double = 2 ^ 64
below unix_fd = 2 ^ 32

-- a letter, a digit or an underscore, as in the parts of an object path
abbrev pub is_path_byte : ℕ → Bool
is_path_byte c = (nat_le 65 c && nat_le c 90) || (nat_le 97 c && nat_le c 122) || (nat_le 48 c && nat_le c 57) || (c == 95)

-- what stands behind a slash, or inside a part: parts of one byte at least with a slash between them
abbrev pub are_parts : Bool → List ℕ → Bool
are_parts inside [] = inside
are_parts inside (c ∷ s) = if c == 47 then inside && are_parts false s else is_path_byte c && are_parts true s

-- an object path: a slash alone, or parts each of which has a slash before it
abbrev pub is_path : List ℕ → Bool
is_path [] = false
is_path (c ∷ s) = (c == 47) && ((length s == 0) || are_parts false s)

-- a string: UTF-8 without NUL, whose length has four bytes
pub record IsString (t : List ℕ) : Type 0 where
  pub utf8 : IsUtf8 t
  pub no_nul : AllByRecursion (λ b. b ≢ 0) t
  pub short : length t < 2 ^ 32

abbrev pub IsTextual : Textual → List ℕ → Type 0
IsTextual string t = IsString t
IsTextual object_path t = IsString t × (is_path t ≡ true)
IsTextual signature t = IsSignature t

-- A value has one spelling at each offset from the message's first byte, in either byte order.
module _ (little : Bool) where
  -- a text with its length before it and a NUL behind it
  abbrev pub text_spelling : ℕ → Textual → List ℕ → List ℕ
  text_spelling n string t = zeros (gap 4 n) ++ (word little 4 (length t) ++ (t ++ 0 ∷ []))
  text_spelling n object_path t = zeros (gap 4 n) ++ (word little 4 (length t) ++ (t ++ 0 ∷ []))
  text_spelling n signature t = length t ∷ (t ++ 0 ∷ [])

  abbrev mutual
    pub spell : ℕ → Plain → List ℕ
    spell n (number f x) = zeros (gap (width f) n) ++ word little (width f) x
    spell n (words k t) = text_spelling n k t
    spell n (array item vs) =
        zeros (gap 4 n) ++ (word little 4 (length (spells (first_item item (n + gap 4 n + 4)) vs))
        ++ (zeros (gap (alignment item) (n + gap 4 n + 4)) ++ spells (first_item item (n + gap 4 n + 4)) vs))
    spell n (struct vs) = zeros (gap 8 n) ++ spells (n + gap 8 n) vs
    spell n (entry k v) =
        zeros (gap 8 n) ++ (spell (n + gap 8 n) k ++ spell (n + gap 8 n + length (spell (n + gap 8 n) k)) v)
    spell n (variant v) = length (sig v) ∷ (sig v ++ (0 ∷ spell (n + 1 + length (sig v) + 1) v))

    pub spells : ℕ → Plains → List ℕ
    spells n none = []
    spells n (more v vs) = spell n v ++ spells (n + length (spell n v)) vs

  abbrev mutual
    -- a value that may stand at an offset: its parts have their types and forms, and no array has more than 64 MiB
    pub IsValue : ℕ → Plain → Type 0
    IsValue n (number f x) = x < below f
    IsValue n (words k t) = IsTextual k t
    IsValue n (array item vs) =
        IsItemType item × (length (spells (first_item item (n + gap 4 n + 4)) vs) ≤ 2 ^ 26)
        × AreOf item (first_item item (n + gap 4 n + 4)) vs
    IsValue n (struct none) = ⊥
    IsValue n (struct (more v vs)) = AreValues (n + gap 8 n) (more v vs)
    IsValue n (entry k v) =
        IsKey k × IsType (sig v) × IsValue (n + gap 8 n) k × IsValue (n + gap 8 n + length (spell (n + gap 8 n) k)) v
    IsValue n (variant v) =
        IsType (sig v) × (length (sig v) ≤ 255) × IsValue (n + 1 + length (sig v) + 1) v

    -- values of complete types, one after the other
    pub AreValues : ℕ → Plains → Type 0
    AreValues n none = ⊤
    AreValues n (more v vs) = IsType (sig v) × IsValue n v × AreValues (n + length (spell n v)) vs

    -- values of one type, one after the other
    pub AreOf : List ℕ → ℕ → Plains → Type 0
    AreOf item n none = ⊤
    AreOf item n (more v vs) = (sig v ≡ item) × IsValue n v × AreOf item (n + length (spell n v)) vs

  -- The text at an offset spells the value, in which at most so many containers nest.
  pub record Spells (depth n : ℕ) (v : Plain) (text : List ℕ) : Type 0 where
    pub is : text ≡ spell n v
    pub valid : IsValue n v
    pub nests : nest v ≤ depth

  -- The text at an offset spells the values of complete types.
  pub record SpellsAll (depth n : ℕ) (vs : Plains) (text : List ℕ) : Type 0 where
    pub is : text ≡ spells n vs
    pub valid : AreValues n vs
    pub nests : nests vs ≤ depth
