-- The types of D-Bus values, and how signatures write them (D-Bus specification, "Type System").
use Rattle.std.specs.Prelude.{◌≡◌, ℕ, suc, ◌-◌, ◌<◌, ◌≤◌, max, List, [], ◌∷◌, ◌++◌, length, take, ◌⊎◌}

-- the types of a fixed length; a UNIX_FD is an index into the descriptors that come with the message
pub data Fixed : Type 0 where
  byte : Fixed
  boolean : Fixed
  int16 : Fixed
  uint16 : Fixed
  int32 : Fixed
  uint32 : Fixed
  int64 : Fixed
  uint64 : Fixed
  double : Fixed
  unix_fd : Fixed

-- the types of a text, whose length stands before it
pub data Textual : Type 0 where
  string : Textual
  object_path : Textual
  signature : Textual

-- the basic types
pub data Basic : Type 0 where
  fixed : Fixed → Basic
  textual : Textual → Basic

mutual
  -- the single complete types
  pub data Kind : Type 0 where
    ty_basic : Basic → Kind
    ty_variant : Kind
    ty_array : Kind → Kind
    -- an array of dict entries: the key's type, and the value's
    ty_dict : Basic → Kind → Kind
    -- the first member's type, and those of the others
    ty_struct : Kind → Kinds → Kind

  pub data Kinds : Type 0 where
    no_kinds : Kinds
    and_kind : Kind → Kinds → Kinds

-- y b n q i u x t d h
abbrev pub fixed_letter : Fixed → ℕ
fixed_letter byte = 121
fixed_letter boolean = 98
fixed_letter int16 = 110
fixed_letter uint16 = 113
fixed_letter int32 = 105
fixed_letter uint32 = 117
fixed_letter int64 = 120
fixed_letter uint64 = 116
fixed_letter double = 100
fixed_letter unix_fd = 104

-- s o g
abbrev pub textual_letter : Textual → ℕ
textual_letter string = 115
textual_letter object_path = 111
textual_letter signature = 103

abbrev pub letter : Basic → ℕ
letter (fixed f) = fixed_letter f
letter (textual t) = textual_letter t

-- how many bytes a value of the type takes, which is its alignment too
abbrev pub width : Fixed → ℕ
width byte = 1
width boolean = 4
width int16 = 2
width uint16 = 2
width int32 = 4
width uint32 = 4
width int64 = 8
width uint64 = 8
width double = 8
width unix_fd = 4

abbrev mutual
  -- a type as a signature writes it
  pub text : Kind → List ℕ
  text (ty_basic b) = letter b ∷ []
  text ty_variant = 118 ∷ []
  text (ty_array k) = 97 ∷ text k
  text (ty_dict b k) = 97 ∷ (123 ∷ (letter b ∷ (text k ++ 125 ∷ [])))
  text (ty_struct k ks) = 40 ∷ (text k ++ (texts ks ++ 41 ∷ []))

  pub texts : Kinds → List ℕ
  texts no_kinds = []
  texts (and_kind k ks) = text k ++ texts ks

abbrev mutual
  -- how many arrays nest in a type
  pub arrays : Kind → ℕ
  arrays (ty_basic b) = 0
  arrays ty_variant = 0
  arrays (ty_array k) = suc (arrays k)
  arrays (ty_dict b k) = suc (arrays k)
  arrays (ty_struct k ks) = max (arrays k) (all_arrays ks)

  pub all_arrays : Kinds → ℕ
  all_arrays no_kinds = 0
  all_arrays (and_kind k ks) = max (arrays k) (all_arrays ks)

abbrev mutual
  -- how many structs nest in a type
  pub structs : Kind → ℕ
  structs (ty_basic b) = 0
  structs ty_variant = 0
  structs (ty_array k) = structs k
  structs (ty_dict b k) = structs k
  structs (ty_struct k ks) = suc (max (structs k) (all_structs ks))

  pub all_structs : Kinds → ℕ
  all_structs no_kinds = 0
  all_structs (and_kind k ks) = max (structs k) (all_structs ks)

-- one complete type, within the limits of nesting
pub record IsType (s : List ℕ) : Type 0 where
  pub kind : Kind
  pub is : s ≡ text kind
  pub arrays : arrays kind ≤ 32
  pub structs : structs kind ≤ 32

-- the type of a dict entry, which stands only as an array's item: a basic key and one value
pub record IsEntryType (s : List ℕ) : Type 0 where
  pub key : Basic
  pub value : Kind
  pub is : s ≡ 123 ∷ (letter key ∷ (text value ++ 125 ∷ []))
  pub arrays : arrays value ≤ 32
  pub structs : structs value ≤ 32

-- the type of an array's items
abbrev pub IsItemType : List ℕ → Type 0
IsItemType s = IsType s ⊎ IsEntryType s

-- a signature: any number of complete types, in at most 255 bytes
pub record IsSignature (s : List ℕ) : Type 0 where
  pub kinds : Kinds
  pub is : s ≡ texts kinds
  pub short : length s ≤ 255
  pub arrays : all_arrays kinds ≤ 32
  pub structs : all_structs kinds ≤ 32

-- the rest stands behind the first complete type of a text
abbrev pub IsBehindType : List ℕ → List ℕ → Type 0
IsBehindType types rest = IsType (take (length types - length rest) types) × (length rest < length types)

-- the first complete type of a text, and the rest
abbrev pub IsFirstType : List ℕ → List ℕ → List ℕ → Type 0
IsFirstType types first rest =
    (first ≡ take (length types - length rest) types) × IsType first × (length rest < length types)
