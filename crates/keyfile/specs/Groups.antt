-- A key file as the list of its groups, each with the list of its keys and values.
use Rattle.std.specs.Prelude.{ℕ, Bool, true, ◌&&◌, ◌||◌, not, ◌==◌, nat_le, List, [], ◌∷◌, ◌++◌, Option, map, find, zero, suc, option_map, option_and_then, if◌then◌else◌, length, slice_get, string_bytes}
use Rattle.std.specs.Option.{option_map_or}
use Rattle.std.specs.Str.{bytes_eq}
use Rattle.std.specs.List.{list_all, list_any, position_or_len}
use Rattle.std.specs.declared.alloc.Global.{Global}
use Rattle.std.specs.declared.hash.FoldHasher.{FoldHasher}
use Rattle.std.specs.declared.hash.BuildHasherDefault.{BuildHasherDefault}
use Rattle.std.specs.declared.string.String.{String}
use Rattle.indexmap.specs.IndexMap.{IndexMap}

abbrev pub Text : Type 0
Text = List ℕ

-- a key and its value
abbrev pub Entry : Type 0
Entry = Text × Text

-- a name and its entries
abbrev pub Group : Type 0
Group = Text × List Entry

-- what a map of texts holds, in order
abbrev pub entries_in : List (String Global × String Global) → List Entry
entries_in = map (λ e. (string_bytes e.0, string_bytes e.1))

-- what a map of such maps holds, in order
abbrev pub groups_in : List (String Global × IndexMap (String Global) (String Global) (BuildHasherDefault FoldHasher)) → List Group
groups_in = map (λ g. (string_bytes g.0, entries_in g.1.entries))

-- ---- look-ups

-- the value of a key, where it is there
abbrev pub get_entry : List Entry → Text → Option Text
get_entry entries key = option_map (λ e. e.1) (find (λ e. bytes_eq key e.0) entries)

-- the value of a key of a group, where it is there
abbrev pub get_in : List Group → Text → Text → Option Text
get_in groups group key = option_and_then (λ g. get_entry g.1 key) (find (λ g. bytes_eq group g.0) groups)

-- the entry at a place of a group at a place, where it is there
abbrev pub entry_at : List Group → ℕ → ℕ → Option Entry
entry_at groups group at = option_and_then (λ g. slice_get g.1 at) (slice_get groups group)

-- how many entries the group at a place has
abbrev pub key_count : List Group → ℕ → ℕ
key_count groups group = option_map_or (λ g. length g.1) (slice_get groups group) 0

-- the place of the group of this name, or else the number of groups
abbrev pub group_place : List Group → Text → ℕ
group_place groups name = position_or_len (λ g. bytes_eq name g.0) groups

-- some group has this name
abbrev pub has_group : List Group → Text → Bool
has_group groups name = list_any (λ g. bytes_eq name g.0) groups

-- ---- changes

-- a key that is there keeps its place and takes the value, and a new key goes last
abbrev pub put_entry : List Entry → Text → Text → List Entry
put_entry [] key value = (key, value) ∷ []
put_entry (e ∷ more) key value = if bytes_eq key e.0 then (e.0, value) ∷ more else e ∷ put_entry more key value

-- the group at a place takes an entry
abbrev pub put_at : List Group → ℕ → Text → Text → List Group
put_at [] at key value = []
put_at (g ∷ more) zero key value = (g.0, put_entry g.1 key value) ∷ more
put_at (g ∷ more) (suc at) key value = g ∷ put_at more at key value

-- with a group of this name, which goes last where it is new
abbrev pub with_group : List Group → Text → List Group
with_group groups name = if has_group groups name then groups else groups ++ (name, []) ∷ []

-- the group of this name takes an entry, and goes last where it is new
abbrev pub put_in : List Group → Text → Text → Text → List Group
put_in groups group key value = put_at (with_group groups group) (group_place groups group) key value

-- ---- forms

-- a byte that may stand in a line: not below 32, or a tab
abbrev pub is_line_byte : ℕ → Bool
is_line_byte byte = nat_le 32 byte || (byte == 9)

-- a byte that may stand in a value: one of these, a line feed or a carriage return
abbrev pub is_value_byte : ℕ → Bool
is_value_byte byte = is_line_byte byte || ((byte == 10) || (byte == 13))

-- a byte that may stand in the name of a group: one of the first, but for brackets
abbrev pub is_name_byte : ℕ → Bool
is_name_byte byte = is_line_byte byte && (not (byte == 91) && not (byte == 93))

-- a byte that may stand in a key: a letter or digit of ASCII, `-`, `_` or `.`
abbrev pub is_key_byte : ℕ → Bool
is_key_byte byte =
    ((nat_le 97 byte && nat_le byte 122) || (nat_le 65 byte && nat_le byte 90))
    || ((nat_le 48 byte && nat_le byte 57) || ((byte == 45) || ((byte == 95) || (byte == 46))))

-- the name of a group
abbrev pub is_name : Text → Bool
is_name name = not (length name == 0) && list_all is_name_byte name

-- a key
abbrev pub is_key : Text → Bool
is_key key = not (length key == 0) && list_all is_key_byte key

-- a value
abbrev pub is_entry_value : Text → Bool
is_entry_value value = list_all is_value_byte value

-- no text stands twice
abbrev pub all_distinct : List Text → Bool
all_distinct [] = true
all_distinct (x ∷ more) = not (list_any (bytes_eq x) more) && all_distinct more

-- a key and a value
abbrev pub is_entry : Entry → Bool
is_entry entry = is_key entry.0 && is_entry_value entry.1

-- a name, and entries whose keys differ
abbrev pub is_group : Group → Bool
is_group group = is_name group.0 && (list_all is_entry group.1 && all_distinct (map (λ e. e.0) group.1))

-- groups whose names differ
abbrev pub is_key_file : List Group → Bool
is_key_file groups = list_all is_group groups && all_distinct (map (λ g. g.0) groups)

-- a group, a key and a value that may be put
abbrev pub may_be_put : Text → Text → Text → Bool
may_be_put group key value = is_name group && (is_key key && is_entry_value value)
