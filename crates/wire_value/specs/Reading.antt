-- Reading from left to right. A place is an offset from the message's first byte, and the bytes from there on.
use Rattle.std.specs.Prelude.{ℕ, zero, suc, ◌+◌, ◌-◌, Bool, true, false, ◌||◌, ◌&&◌, not, ◌==◌, nat_lt, nat_le, ◌^◌, if◌then◌else◌, List, [], ◌∷◌, length, take, drop, slice_index, Option, Some, None}
use Rattle.std.specs.List.{list_all}
use Rattle.std.specs.Str.{is_utf8}
use Rattle.byteorder.specs.Endian.{little_number, big_number}
use Rattle.wire_value.specs.Types.{Fixed, byte, boolean, int16, uint16, int32, uint32, int64, uint64, double, unix_fd, Textual, string, object_path, signature, Basic, fixed, textual, letter, width}
use Rattle.wire_value.specs.Plain.{Plain, number, words, array, struct, entry, variant, Plains, none, more}
use Rattle.wire_value.specs.Spelling.{gap, alignment, is_path}

infixl 10 ◌>>=◌
abbrev pub ◌>>=◌ : {A B : Type 0} → Option A → (A → Option B) → Option B
(Some x) >>= f = f x
None >>= f = None

abbrev pub At : Type 0
At = ℕ × List ℕ

-- ---- types: the rest behind one complete type

abbrev pub basics : List Basic
basics =
    fixed byte ∷ fixed boolean ∷ fixed int16 ∷ fixed uint16 ∷ fixed int32 ∷ fixed uint32 ∷ fixed int64 ∷ fixed uint64
    ∷ fixed double ∷ fixed unix_fd ∷ textual string ∷ textual object_path ∷ textual signature ∷ []

abbrev pub with_letter : ℕ → List Basic → Option Basic
with_letter c [] = None
with_letter c (b ∷ bs) = if c == letter b then Some b else with_letter c bs

-- the basic type of a letter
unfoldable pub basic_of : ℕ → Option Basic
basic_of c = with_letter c basics

abbrev pub if_some : {A : Type 0} → Option A → (A → Bool) → Bool
if_some None f = false
if_some (Some x) f = f x

abbrev pub is_basic : ℕ → Bool
is_basic c = if_some (basic_of c) (λ b. true)

abbrev pub head : List ℕ → ℕ
head s = slice_index s 0

unfoldable pub types_until : (List ℕ → Option (List ℕ)) → ℕ → List ℕ → Option (List ℕ)
types_until one zero s = None
types_until one (suc g) s = if head s == 41 then Some (drop 1 s) else (one s >>= types_until one g)

unfoldable pub closed : List ℕ → Option (List ℕ)
closed s = if head s == 125 then Some (drop 1 s) else None

-- the rest behind the type of an array's items
unfoldable pub item_rest : (List ℕ → Option (List ℕ)) → List ℕ → Option (List ℕ)
item_rest one s =
    if head s == 123 then (if is_basic (head (drop 1 s)) then (one (drop 1 (drop 1 s)) >>= closed) else None)
    else one s

unfoldable pub type_at : ℕ → ℕ → ℕ → List ℕ → Option (List ℕ)
type_at zero a st s = if is_basic (head s) || (head s == 118) then Some (drop 1 s) else None
type_at (suc m) a st s =
    if is_basic (head s) || (head s == 118) then Some (drop 1 s)
    else if head s == 97 then (if a == 0 then None else item_rest (type_at m (a - 1) st) (drop 1 s))
    else if head s == 40 then (if st == 0 then None else (type_at m a (st - 1) (drop 1 s) >>= types_until (type_at m a (st - 1)) (length (drop 1 s))))
    else None

-- a type in which at most so many arrays and structs nest
abbrev pub type_within : ℕ → ℕ → List ℕ → Option (List ℕ)
type_within a st s = type_at (a + st) a st s

abbrev pub one_type : List ℕ → Option (List ℕ)
one_type s = type_at 64 32 32 s

unfoldable pub are_types : ℕ → List ℕ → Bool
are_types zero s = length s == 0
are_types (suc g) s = if length s == 0 then true else if_some (one_type s) (are_types g)

abbrev pub is_signature : List ℕ → Bool
is_signature s = nat_le (length s) 255 && are_types (length s) s

abbrev pub is_single : List ℕ → Bool
is_single s = if_some (one_type s) (λ rest. length rest == 0)

-- ---- parts of values

unfoldable pub bytes_at : ℕ → At → Option (List ℕ × At)
bytes_at k p = if nat_lt (length p.1) k then None else Some (take k p.1, (p.0 + k, drop k p.1))

unfoldable pub byte_at : At → Option (ℕ × At)
byte_at p = do
  b ← bytes_at 1 p
  Some (slice_index b.0 0, b.1)

-- the zeros before an alignment
unfoldable pub gap_at : ℕ → At → Option At
gap_at alignment p = do
  z ← bytes_at (gap alignment p.0) p
  if list_all (λ b. b == 0) z.0 then Some z.1 else None

unfoldable pub from_word : Bool → ℕ → List ℕ → ℕ
from_word true k bs = little_number k bs
from_word false k bs = big_number k bs

-- a number of so many bytes, which is their alignment
unfoldable pub word_at : Bool → ℕ → At → Option (ℕ × At)
word_at little k p = do
  q ← gap_at k p
  b ← bytes_at k q
  Some (from_word little k b.0, b.1)

-- so many bytes, and a 0 behind them
unfoldable pub ended_at : ℕ → At → Option (List ℕ × At)
ended_at k p = do
  t ← bytes_at k p
  z ← byte_at t.1
  if z.0 == 0 then Some (t.0, z.1) else None

abbrev pub is_string : List ℕ → Bool
is_string t = list_all (λ b. not (b == 0)) t && is_utf8 t

abbrev pub as_text : List ℕ → Option (List ℕ)
as_text t = if is_utf8 t then Some t else None

abbrev pub as_string : List ℕ → Option (List ℕ)
as_string t = if is_string t then Some t else None

unfoldable pub str_at : Bool → At → Option (List ℕ × At)
str_at little p = do
  k ← word_at little 4 p
  t ← ended_at k.0 k.1
  if is_string t.0 then Some t else None

unfoldable pub path_at : Bool → At → Option (List ℕ × At)
path_at little p = do
  t ← str_at little p
  if is_path t.0 then Some t else None

unfoldable pub sign_at : At → Option (List ℕ × At)
sign_at p = do
  k ← byte_at p
  ended_at k.0 k.1

-- ---- values

abbrev pub Read : Type 0
Read = At → Option (Plain × At)

abbrev pub textual_at : Bool → Textual → At → Option (List ℕ × At)
textual_at little string p = str_at little p
textual_at little object_path p = path_at little p
textual_at little signature p = sign_at p >>= λ t. if is_signature t.0 then Some t else None

-- of the numbers of that length, a boolean has two
abbrev pub is_number : Fixed → ℕ → Bool
is_number boolean x = nat_lt x 2
is_number f x = true

abbrev pub fixed_at : Bool → Fixed → At → Option (ℕ × At)
fixed_at little f p = word_at little (width f) p >>= λ x. if is_number f x.0 then Some x else None

abbrev pub basic_at : Bool → Basic → Read
basic_at little (fixed f) p = fixed_at little f p >>= λ x. Some (number f x.0, x.1)
basic_at little (textual k) p = textual_at little k p >>= λ t. Some (words k t.0, t.1)

unfoldable pub leaf_at : Bool → ℕ → Read
leaf_at little c p = basic_of c >>= λ b. basic_at little b p

-- values of one type, to the end of the bytes
unfoldable pub items_at : Read → ℕ → At → Option Plains
items_at read zero p = if length p.1 == 0 then Some none else None
items_at read (suc g) p = if length p.1 == 0 then Some none else do
  v ← read p
  vs ← items_at read g v.1
  Some (more v.0 vs)

-- the bytes of an array, of which there are at most 2^26
unfoldable pub body_at : Bool → List ℕ → At → Option (At × At)
body_at little item p = do
  n ← word_at little 4 p
  f ← gap_at (alignment item) n.1
  b ← bytes_at n.0 f
  if nat_le n.0 (2 ^ 26) then Some ((f.0, b.0), b.1) else None

unfoldable pub array_at : Read → Bool → List ℕ → Read
array_at read little item p = do
  b ← body_at little item p
  vs ← items_at read (length b.0.1) b.0
  Some (array item vs, b.1)

abbrev pub is_end : List ℕ → Bool
is_end s = if length s == 0 then true else head s == 41

-- values of the types that a text writes, to its end or to a closing bracket
unfoldable pub fields_at : (List ℕ → Read) → ℕ → List ℕ → At → Option (Plains × At)
fields_at read zero s p = None
fields_at read (suc g) s p =
    if is_end s then Some (none, p) else do
      rest ← one_type s
      v ← read (take (length s - length rest) s) p
      vs ← fields_at read g rest v.1
      Some (more v.0 vs.0, vs.1)

unfoldable pub struct_at : (List ℕ → Read) → List ℕ → Read
struct_at read s p = do
  q ← gap_at 8 p
  vs ← fields_at read (suc (length s)) s q
  Some (struct vs.0, vs.1)

-- a dict entry, by the types of its key and its value and the closing brace
unfoldable pub entry_at : (List ℕ → Read) → List ℕ → Read
entry_at read s p = do
  q ← gap_at 8 p
  k ← read (take 1 s) q
  v ← read (take (length s - 2) (drop 1 s)) k.1
  Some (entry k.0 v.0, v.1)

unfoldable pub variant_at : (List ℕ → Read) → Read
variant_at read p = do
  t ← sign_at p
  if is_single t.0 then (read t.0 t.1 >>= λ v. Some (variant v.0, v.1)) else None

-- a value of the type that a text writes, in which so many containers nest at most
unfoldable pub value_at : ℕ → Bool → List ℕ → Read
value_at zero little s p = leaf_at little (head s) p
value_at (suc d) little s p =
    if head s == 97 then array_at (value_at d little (drop 1 s)) little (drop 1 s) p
    else if head s == 40 then struct_at (value_at d little) (drop 1 s) p
    else if head s == 123 then entry_at (value_at d little) (drop 1 s) p
    else if head s == 118 then variant_at (value_at d little) p
    else leaf_at little (head s) p

-- values of the types that a text writes
abbrev pub values_at : ℕ → Bool → List ℕ → At → Option (Plains × At)
values_at depth little s p = fields_at (value_at depth little) (suc (length s)) s p

-- values of one type, which all the bytes are
abbrev pub all_items_at : ℕ → Bool → List ℕ → At → Option Plains
all_items_at depth little item p = items_at (value_at depth little item) (length p.1) p

-- an array by the type of its items, in each of which so many containers nest at most
abbrev pub array_value_at : ℕ → Bool → List ℕ → Read
array_value_at depth little item p = array_at (value_at depth little item) little item p
