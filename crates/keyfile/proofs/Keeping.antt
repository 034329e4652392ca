-- Changes keep the form of key files.
use Rattle.std.proofs.Common.{◌≡◌, ◌∙◌, ap, sym, refl, ℕ, zero, suc, Bool, true, false, not, ◌&&◌, ◌||◌, List, [], ◌∷◌, ◌++◌, map, if◌then◌else◌}
use Rattle.std.proofs.lemmas.Bool.{false≢true}
use Rattle.std.proofs.lemmas.List.{map-append}
use Rattle.std.proofs.lemmas.List.Folds.{list_all-append, list_any-append}
use Rattle.std.specs.List.{list_all}
use Rattle.std.specs.Str.{bytes_eq}
use Rattle.keyfile.proofs.Bools.{and_true, both, not_true}
use Rattle.keyfile.proofs.Distinct.{bytes_eq-swap, is_in}
use Rattle.keyfile.specs.Groups.{Text, Entry, Group, all_distinct, has_group, is_entry, is_group, is_key, is_key_file, is_name, is_entry_value, may_be_put, with_group, group_place, put_at, put_entry, put_in}

pub has_group-names : (gs : List Group) (n : Text) → has_group gs n ≡ is_in (map (λ g. g.0) gs) n
has_group-names [] n = refl
has_group-names (g ∷ gs) n = ap (λ (b : Bool). bytes_eq n g.0 || b) (has_group-names gs n)

-- one text more that is new
pub all_distinct-push : (xs : List Text) (x : Text) → all_distinct xs ≡ true → is_in xs x ≡ false → all_distinct (xs ++ x ∷ []) ≡ true
all_distinct-push [] x once new = refl
all_distinct-push (y ∷ more) x once new = go (λ h. all_distinct-push more x (both _ _ once).1 h) (bytes_eq x y) refl new
  where
    go : (is_in more x ≡ false → all_distinct (more ++ x ∷ []) ≡ true) → (b : Bool) → bytes_eq x y ≡ b → (b || is_in more x) ≡ false → (not (is_in (more ++ x ∷ []) y) && all_distinct (more ++ x ∷ [])) ≡ true
    go deep true e h = absurd (false≢true (sym h))
    go deep false e h =
        let none : is_in (more ++ x ∷ []) y ≡ false =
        list_any-append (bytes_eq y) more (x ∷ [])
        ∙ (ap (λ (b : Bool). b || (bytes_eq y x || false)) (not_true _ (both _ _ once).0) ∙ ap (λ (b : Bool). b || false) (bytes_eq-swap y x ∙ e)) in
        and_true _ _ (ap not none) (deep h)

-- a group more
pub with_group-kept : (gs : List Group) (n : Text) → is_key_file gs ≡ true → is_name n ≡ true → is_key_file (with_group gs n) ≡ true
with_group-kept gs n kept name = go (has_group gs n) refl
  where
    go : (b : Bool) → has_group gs n ≡ b → is_key_file (if b then gs else gs ++ (n, []) ∷ []) ≡ true
    go true h = kept
    go false h = and_true _ _
        (list_all-append is_group gs ((n, []) ∷ []) ∙ and_true _ _ (both _ _ kept).0 (and_true _ _ (and_true _ _ name refl) refl))
        (ap all_distinct (map-append (λ (g : Group). g.0) gs ((n, []) ∷ [])) ∙ all_distinct-push (map (λ g. g.0) gs) n (both _ _ kept).1 (sym (has_group-names gs n) ∙ h))

-- an entry more
put_entry-all : (es : List Entry) (k v : Text) → list_all is_entry es ≡ true → is_key k ≡ true → is_entry_value v ≡ true → list_all is_entry (put_entry es k v) ≡ true
put_entry-all [] k v all key value = and_true _ _ (and_true _ _ key value) refl
put_entry-all (e ∷ es) k v all key value = go (put_entry-all es k v (both _ _ all).1 key value) (bytes_eq k e.0)
  where
    go : list_all is_entry (put_entry es k v) ≡ true → (b : Bool) → list_all is_entry (if b then (e.0, v) ∷ es else e ∷ put_entry es k v) ≡ true
    go deep true = and_true _ _ (and_true _ _ (both _ _ (both _ _ all).0).0 value) (both _ _ all).1
    go deep false = and_true _ _ (both _ _ all).0 deep

put_entry-keys : (es : List Entry) (k v : Text) → map (λ e. e.0) (put_entry es k v) ≡ (if is_in (map (λ e. e.0) es) k then map (λ e. e.0) es else map (λ e. e.0) es ++ k ∷ [])
put_entry-keys [] k v = refl
put_entry-keys (e ∷ es) k v = go (put_entry-keys es k v) (bytes_eq k e.0) (is_in (map (λ e. e.0) es) k) refl
  where
    keys : List Text
    keys = map (λ e. e.0) es

    go : map (λ e. e.0) (put_entry es k v) ≡ (if is_in (map (λ e. e.0) es) k then map (λ e. e.0) es else map (λ e. e.0) es ++ k ∷ []) → (b c : Bool) → is_in (map (λ e. e.0) es) k ≡ c
        → map (λ e. e.0) (if b then (e.0, v) ∷ es else e ∷ put_entry es k v) ≡ (if b || c then e.0 ∷ map (λ e. e.0) es else e.0 ∷ (map (λ e. e.0) es ++ k ∷ []))
    go deep true c h = refl
    go deep false true h = ap (λ (t : List Text). e.0 ∷ t) (deep ∙ ap (λ (t : Bool). if t then map (λ e. e.0) es else map (λ e. e.0) es ++ k ∷ []) h)
    go deep false false h = ap (λ (t : List Text). e.0 ∷ t) (deep ∙ ap (λ (t : Bool). if t then map (λ e. e.0) es else map (λ e. e.0) es ++ k ∷ []) h)

put_entry-distinct : (es : List Entry) (k v : Text) → all_distinct (map (λ e. e.0) es) ≡ true → all_distinct (map (λ e. e.0) (put_entry es k v)) ≡ true
put_entry-distinct es k v once = ap all_distinct (put_entry-keys es k v) ∙ go (is_in (map (λ e. e.0) es) k) refl
  where
    go : (b : Bool) → is_in (map (λ e. e.0) es) k ≡ b → all_distinct (if b then map (λ e. e.0) es else map (λ e. e.0) es ++ k ∷ []) ≡ true
    go true h = once
    go false h = all_distinct-push (map (λ e. e.0) es) k once h

put_at-all : (gs : List Group) (at : ℕ) (k v : Text) → list_all is_group gs ≡ true → is_key k ≡ true → is_entry_value v ≡ true → list_all is_group (put_at gs at k v) ≡ true
put_at-all [] at k v all key value = refl
put_at-all (g ∷ gs) zero k v all key value =
    let group = both _ _ (both _ _ all).0 in
    let parts = both _ _ group.1 in
    and_true _ _ (and_true _ _ group.0 (and_true _ _ (put_entry-all g.1 k v parts.0 key value) (put_entry-distinct g.1 k v parts.1))) (both _ _ all).1
put_at-all (g ∷ gs) (suc at) k v all key value = and_true _ _ (both _ _ all).0 (put_at-all gs at k v (both _ _ all).1 key value)

put_at-names : (gs : List Group) (at : ℕ) (k v : Text) → map (λ g. g.0) (put_at gs at k v) ≡ map (λ g. g.0) gs
put_at-names [] at k v = refl
put_at-names (g ∷ gs) zero k v = refl
put_at-names (g ∷ gs) (suc at) k v = ap (λ (t : List Text). g.0 ∷ t) (put_at-names gs at k v)

pub put_at-kept : (gs : List Group) (at : ℕ) (k v : Text) → is_key_file gs ≡ true → is_key k ≡ true → is_entry_value v ≡ true → is_key_file (put_at gs at k v) ≡ true
put_at-kept gs at k v kept key value = and_true _ _ (put_at-all gs at k v (both _ _ kept).0 key value) (ap all_distinct (put_at-names gs at k v) ∙ (both _ _ kept).1)

-- a group's entry
pub put_in-kept : (gs : List Group) (g k v : Text) → is_key_file gs ≡ true → may_be_put g k v ≡ true → is_key_file (put_in gs g k v) ≡ true
put_in-kept gs g k v kept fits =
    let name = both _ _ fits in
    let entry = both _ _ name.1 in
    put_at-kept (with_group gs g) (group_place gs g) k v (with_group-kept gs g kept name.0) entry.0 entry.1
