-- What the map of maps holds, as the list of groups.
use Rattle.std.proofs.Common.{◌≡◌, ◌∙◌, ap, sym, refl, ℕ, zero, suc, Bool, true, false, ◌||◌, not, cond, List, [], ◌∷◌, ◌++◌, length, Some, None, if◌then◌else◌, option_map, option_and_then, find, is_some, slice_get, position, ◌+◌, arith}
use Rattle.std.specs.String.{string_bytes, string_eq}
use Rattle.std.specs.Str.{bytes_eq}
use Rattle.std.specs.Map.{keys_of, lookup, values_of}
use Rattle.std.specs.declared.alloc.Global.{Global}
use Rattle.std.specs.declared.hash.FoldHasher.{FoldHasher}
use Rattle.std.specs.declared.hash.BuildHasherDefault.{BuildHasherDefault}
use Rattle.std.specs.declared.string.String.{String}
use Rattle.std.specs.List.{position_or_len}
use Rattle.std.specs.Prelude.{nat_lt}
use Rattle.std.proofs.lemmas.Bool.{false≢true}
use Rattle.std.proofs.lemmas.Option.{slice_get-map}
use Rattle.indexmap.specs.IndexMap.{IndexMap, insert_entry, set_value_at}
use Rattle.keyfile.specs.Groups.{Text, Entry, Group, entries_in, entry_at, get_entry, get_in, groups_in, has_group, put_at, put_entry, put_in, with_group, group_place}

abbrev pub Name : Type 0
Name = String Global

abbrev pub Inner : Type 0
Inner = IndexMap Name Name (BuildHasherDefault FoldHasher)

abbrev pub Outer : Type 0
Outer = IndexMap Name Inner (BuildHasherDefault FoldHasher)

-- the test of a look-up by text
abbrev pub is_named : Text → Name → Bool
is_named g k = bytes_eq g (string_bytes k)

-- ---- look-ups

get_entry-lookup : (es : List (Name × Name)) (k : Text) → get_entry (entries_in es) k ≡ option_map string_bytes (lookup (is_named k) es)
get_entry-lookup [] k = refl
get_entry-lookup (e ∷ es) k = go (get_entry-lookup es k) (is_named k e.0)
  where
    go : get_entry (entries_in es) k ≡ option_map string_bytes (lookup (is_named k) es) → (b : Bool) → option_map (λ (p : Entry). p.1) (cond b (Some (string_bytes e.0, string_bytes e.1)) (find (λ p. bytes_eq k p.0) (entries_in es)))
        ≡ option_map string_bytes (cond b (Some e.1) (lookup (is_named k) es))
    go more true = refl
    go more false = more

pub get_in-lookup : (es : List (Name × Inner)) (g k : Text) → get_in (groups_in es) g k ≡ option_and_then (λ (m : Inner). option_map string_bytes (lookup (is_named k) m.entries)) (lookup (is_named g) es)
get_in-lookup [] g k = refl
get_in-lookup (e ∷ es) g k = go (get_in-lookup es g k) (is_named g e.0)
  where
    go : get_in (groups_in es) g k ≡ option_and_then (λ (m : Inner). option_map string_bytes (lookup (is_named k) m.entries)) (lookup (is_named g) es) → (b : Bool) → option_and_then (λ (h : Group). get_entry h.1 k) (cond b (Some (string_bytes e.0, entries_in e.1.entries)) (find (λ h. bytes_eq g h.0) (groups_in es)))
        ≡ option_and_then (λ (m : Inner). option_map string_bytes (lookup (is_named k) m.entries)) (cond b (Some e.1) (lookup (is_named g) es))
    go more true = get_entry-lookup e.1.entries k
    go more false = more

pub has_group-lookup : (es : List (Name × Inner)) (g : Text) → has_group (groups_in es) g ≡ is_some (lookup (is_named g) es)
has_group-lookup [] g = refl
has_group-lookup (e ∷ es) g = go (has_group-lookup es g) (is_named g e.0)
  where
    go : has_group (groups_in es) g ≡ is_some (lookup (is_named g) es) → (b : Bool) → (b || has_group (groups_in es) g) ≡ is_some (cond b (Some e.1) (lookup (is_named g) es))
    go more true = refl
    go more false = more

-- the entry at places
pub entry_at-get : (es : List (Name × Inner)) (g at : ℕ) → entry_at (groups_in es) g at ≡ option_and_then (λ (e : Name × Inner). option_map (λ (p : Name × Name). (string_bytes p.0, string_bytes p.1)) (slice_get e.1.entries at)) (slice_get es g)
entry_at-get [] g at = refl
entry_at-get (e ∷ es) zero at = slice_get-map (λ (p : Name × Name). (string_bytes p.0, string_bytes p.1)) e.1.entries at
entry_at-get (e ∷ es) (suc g) at = entry_at-get es g at

-- the place of a name
pub group_place-keys : (es : List (Name × Inner)) (n : Text) → group_place (groups_in es) n ≡ position_or_len (is_named n) (keys_of es)
group_place-keys [] n = refl
group_place-keys (e ∷ es) n = ap (λ (i : ℕ). cond (not (is_named n e.0)) (1 + i) 0) (group_place-keys es n)

pub position-found : (es : List (Name × Inner)) (n : Text) (at : ℕ) → Some at ≡ position (is_named n) (keys_of es) → at ≡ group_place (groups_in es) n
position-found es n at found = go (nat_lt (position_or_len (is_named n) (keys_of es)) (length (keys_of es))) found ∙ sym (group_place-keys es n)
  where
    go : (b : Bool) → Some at ≡ cond b (Some (position_or_len (is_named n) (keys_of es))) None → at ≡ position_or_len (is_named n) (keys_of es)
    go true h = cc
    go false h = cc

pub group_place-new : (gs : List Group) (n : Text) → has_group gs n ≡ false → group_place gs n ≡ length gs
group_place-new [] n new = refl
group_place-new (g ∷ gs) n new = go (group_place-new gs n) (bytes_eq n g.0) new
  where
    next : 1 + length gs ≡ suc (length gs)
    next = omega arith

    go : (has_group gs n ≡ false → group_place gs n ≡ length gs) → (b : Bool) → (b || has_group gs n) ≡ false → cond (not b) (1 + group_place gs n) 0 ≡ suc (length gs)
    go deep true h = absurd (false≢true (sym h))
    go deep false h = ap (λ (i : ℕ). 1 + i) (deep h) ∙ next

-- ---- changes

-- a key that is there keeps its place, and a new one goes last
pub entries_in-insert_entry : (es : List (Name × Name)) (k v : Name) → entries_in (insert_entry string_eq es k v) ≡ put_entry (entries_in es) (string_bytes k) (string_bytes v)
entries_in-insert_entry [] k v = refl
entries_in-insert_entry (e ∷ es) k v = go (entries_in-insert_entry es k v) (string_eq k e.0)
  where
    go : entries_in (insert_entry string_eq es k v) ≡ put_entry (entries_in es) (string_bytes k) (string_bytes v)
        → (b : Bool) → entries_in (if b then (e.0, v) ∷ es else e ∷ insert_entry string_eq es k v)
        ≡ (if b then (string_bytes e.0, string_bytes v) ∷ entries_in es else (string_bytes e.0, string_bytes e.1) ∷ put_entry (entries_in es) (string_bytes k) (string_bytes v))
    go more true = refl
    go more false = ap (λ (t : List Entry). (string_bytes e.0, string_bytes e.1) ∷ t) more

-- a new group goes last
pub groups_in-insert_entry : (es : List (Name × Inner)) (name : Name) (m : Inner) → has_group (groups_in es) (string_bytes name) ≡ false → groups_in (insert_entry string_eq es name m) ≡ groups_in es ++ (string_bytes name, entries_in m.entries) ∷ []
groups_in-insert_entry [] name m new = refl
groups_in-insert_entry (e ∷ es) name m new = go (groups_in-insert_entry es name m) (string_eq name e.0) new
  where
    go : (has_group (groups_in es) (string_bytes name) ≡ false → groups_in (insert_entry string_eq es name m) ≡ groups_in es ++ (string_bytes name, entries_in m.entries) ∷ [])
        → (b : Bool) → (b || has_group (groups_in es) (string_bytes name)) ≡ false
        → groups_in (if b then (e.0, m) ∷ es else e ∷ insert_entry string_eq es name m) ≡ (string_bytes e.0, entries_in e.1.entries) ∷ (groups_in es ++ (string_bytes name, entries_in m.entries) ∷ [])
    go more true new = absurd (false≢true (sym new))
    go more false new = ap (λ (t : List Group). (string_bytes e.0, entries_in e.1.entries) ∷ t) (more new)

-- a write to the group at a place
pub groups_in-set_value_at : (es : List (Name × Inner)) (at : ℕ) (k v : Text) (old new : Inner) → Some old ≡ slice_get (values_of es) at
    → entries_in new.entries ≡ put_entry (entries_in old.entries) k v → groups_in (set_value_at es at new) ≡ put_at (groups_in es) at k v
groups_in-set_value_at [] at k v old new found put = cc
groups_in-set_value_at (e ∷ es) zero k v old new found put =
    let is : old ≡ e.1 = cc in
    ap (λ (t : List Entry). (string_bytes e.0, t) ∷ groups_in es) (put ∙ ap (λ (m : Inner). put_entry (entries_in m.entries) k v) is)
groups_in-set_value_at (e ∷ es) (suc at) k v old new found put = ap (λ (t : List Group). (string_bytes e.0, entries_in e.1.entries) ∷ t) (groups_in-set_value_at es at k v old new found put)

pub put_at-nowhere : (es : List (Name × Inner)) (at : ℕ) (k v : Text) → None ≡ slice_get (values_of es) at → put_at (groups_in es) at k v ≡ groups_in es
put_at-nowhere [] at k v none = refl
put_at-nowhere (e ∷ es) zero k v none = cc
put_at-nowhere (e ∷ es) (suc at) k v none = ap (λ (t : List Group). (string_bytes e.0, entries_in e.1.entries) ∷ t) (put_at-nowhere es at k v none)

-- what is written is what was there
pub groups_in-set_same_at : (es : List (Name × Inner)) (at : ℕ) (old new : Inner) → Some old ≡ slice_get (values_of es) at → new.entries ≡ old.entries → groups_in (set_value_at es at new) ≡ groups_in es
groups_in-set_same_at [] at old new found same = refl
groups_in-set_same_at (e ∷ es) zero old new found same =
    let is : old ≡ e.1 = cc in
    ap (λ (t : List (Name × Name)). (string_bytes e.0, entries_in t) ∷ groups_in es) (same ∙ ap (λ (m : Inner). m.entries) is)
groups_in-set_same_at (e ∷ es) (suc at) old new found same = ap (λ (t : List Group). (string_bytes e.0, entries_in e.1.entries) ∷ t) (groups_in-set_same_at es at old new found same)

-- the groups with one of a name
pub with_group-there : (gs : List Group) (n : Text) → has_group gs n ≡ true → with_group gs n ≡ gs
with_group-there gs n there = ap (λ (b : Bool). if b then gs else gs ++ (n, []) ∷ []) there

pub with_group-new : (gs : List Group) (n : Text) → has_group gs n ≡ false → with_group gs n ≡ gs ++ (n, []) ∷ []
with_group-new gs n new = ap (λ (b : Bool). if b then gs else gs ++ (n, []) ∷ []) new

-- the last group takes an entry
pub put_at-last : (gs : List Group) (n : Text) (es : List Entry) (k v : Text) → put_at (gs ++ (n, es) ∷ []) (length gs) k v ≡ gs ++ (n, put_entry es k v) ∷ []
put_at-last [] n es k v = refl
put_at-last (g ∷ gs) n es k v = ap (λ (t : List Group). g ∷ t) (put_at-last gs n es k v)

pub put_in-there : (gs : List Group) (n k v : Text) → has_group gs n ≡ true → put_in gs n k v ≡ put_at gs (group_place gs n) k v
put_in-there gs n k v there = ap (λ (t : List Group). put_at t (group_place gs n) k v) (with_group-there gs n there)

pub put_in-new : (gs : List Group) (n k v : Text) → has_group gs n ≡ false → put_in gs n k v ≡ gs ++ (n, (k, v) ∷ []) ∷ []
put_in-new gs n k v new =
    ap (λ (t : List Group). put_at t (group_place gs n) k v) (with_group-new gs n new)
    ∙ (ap (λ (i : ℕ). put_at (gs ++ (n, []) ∷ []) i k v) (group_place-new gs n new) ∙ put_at-last gs n [] k v)
