-- The groups of lines, with a line more.
use Rattle.std.proofs.Common.{◌≡◌, ◌∙◌, ap, sym, refl, Bool, true, false, ◌||◌, List, [], ◌∷◌, ◌++◌, map, Option, Some, None, if◌then◌else◌}
use Rattle.std.proofs.lemmas.Bool.{false≢true}
use Rattle.std.proofs.lemmas.List.{append-nil, map-append}
use Rattle.std.proofs.lemmas.List.Elements.{filter_map-append}
use Rattle.std.proofs.lemmas.List.Sums.{fold-append}
use Rattle.std.specs.List.{cons_option, position_or_len}
use Rattle.std.specs.Str.{bytes_eq}
use Rattle.keyfile.proofs.Distinct.{bytes_eq-swap, equal_text, distinct-distinct, distinct-more, has_group-table, is_in, is_in-distinct, group_place-table, position-distinct, put_at-table, put_entry-new, put_entry-table, table, table-all, table-same}
use Rattle.keyfile.specs.Groups.{Text, Entry, with_group, group_place, put_at, put_entry}
use Rattle.keyfile.specs.Reading.{InGroup, distinct, entries_under, groups_from, last_value, last_entries}

last_value-more : (es : List Entry) (k v x : Text) (b : Bool) → bytes_eq x k ≡ b → last_value (es ++ (k, v) ∷ []) x ≡ (if b then v else last_value es x)
last_value-more es k v x b h =
    fold-append (λ (value : Text) (e : Entry). if bytes_eq x e.0 then e.1 else value) [] es ((k, v) ∷ [])
    ∙ ap (λ (t : Bool). if t then v else last_value es x) h

-- an entry more
pub last_entries-more : (es : List Entry) (k v : Text) → last_entries (es ++ (k, v) ∷ []) ≡ put_entry (last_entries es) k v
last_entries-more es k v =
    ap (λ (t : List Text). table (last_value (es ++ (k, v) ∷ [])) (distinct t)) (map-append (λ (e : Entry). e.0) es ((k, v) ∷ []))
    ∙ (ap (table (last_value (es ++ (k, v) ∷ []))) (distinct-more (map (λ e. e.0) es) k)
    ∙ go (is_in (map (λ e. e.0) es) k) refl)
  where
    here : (x : Text) → bytes_eq k x ≡ true → last_value (es ++ (k, v) ∷ []) x ≡ v
    here x h = last_value-more es k v x true (bytes_eq-swap x k ∙ h)

    others : (x : Text) → bytes_eq k x ≡ false → last_value (es ++ (k, v) ∷ []) x ≡ last_value es x
    others x h = last_value-more es k v x false (bytes_eq-swap x k ∙ h)

    keys : List Text
    keys = distinct (map (λ e. e.0) es)

    last : is_in keys k ≡ false → table (last_value (es ++ (k, v) ∷ [])) (keys ++ k ∷ []) ≡ put_entry (last_entries es) k v
    last none =
        map-append (λ (x : Text). (x, last_value (es ++ (k, v) ∷ []) x)) keys (k ∷ [])
        ∙ (ap (λ (t : List Entry). t ++ (k, last_value (es ++ (k, v) ∷ []) k) ∷ []) (table-same (last_value es) (last_value (es ++ (k, v) ∷ [])) keys k none others)
        ∙ (ap (λ (t : Text). table (last_value es) keys ++ (k, t) ∷ []) (here k (equal_text k k refl))
        ∙ sym (put_entry-new (last_value es) keys k v none)))

    go : (b : Bool) → is_in (map (λ e. e.0) es) k ≡ b → table (last_value (es ++ (k, v) ∷ [])) (if b then keys else keys ++ k ∷ []) ≡ put_entry (last_entries es) k v
    go true h = sym (put_entry-table (last_value es) (last_value (es ++ (k, v) ∷ [])) keys k v (distinct-distinct (map (λ e. e.0) es)) (is_in-distinct (map (λ e. e.0) es) k ∙ h) here others)
    go false h = last (is_in-distinct (map (λ e. e.0) es) k ∙ h)

entries_under-more : (all : List InGroup) (n x : Text) (o : Option Entry) (b : Bool) → bytes_eq x n ≡ b → entries_under (all ++ (n, o) ∷ []) x ≡ entries_under all x ++ cons_option (if b then o else None) []
entries_under-more all n x o b h =
    filter_map-append (λ (p : InGroup). if bytes_eq x p.0 then p.1 else None) all ((n, o) ∷ [])
    ∙ ap (λ (t : Bool). entries_under all x ++ cons_option (if t then o else None) []) h

-- no entry stands in a group that is not there
entries_under-none : (all : List InGroup) (n : Text) → is_in (map (λ p. p.0) all) n ≡ false → entries_under all n ≡ []
entries_under-none [] n none = refl
entries_under-none (p ∷ more) n none = go (λ h. entries_under-none more n h) (bytes_eq n p.0) none
  where
    go : (is_in (map (λ q. q.0) more) n ≡ false → entries_under more n ≡ []) → (b : Bool) → (b || is_in (map (λ q. q.0) more) n) ≡ false → cons_option (if b then p.1 else None) (entries_under more n) ≡ []
    go deep true h = absurd (false≢true (sym h))
    go deep false h = deep h

-- a heading more
pub groups_from-heading : (all : List InGroup) (n : Text) → groups_from (all ++ (n, None) ∷ []) ≡ with_group (groups_from all) n
groups_from-heading all n =
    ap (λ (t : List Text). table after (distinct t)) (map-append (λ (p : InGroup). p.0) all ((n, None) ∷ []))
    ∙ (table-all before after (distinct (map (λ p. p.0) all ++ n ∷ [])) same
    ∙ (ap (table before) (distinct-more (map (λ p. p.0) all) n)
    ∙ (go (is_in (map (λ p. p.0) all) n) refl
    ∙ ap (λ (t : Bool). if t then groups_from all else groups_from all ++ (n, []) ∷ []) (sym (has_group-table before names n ∙ is_in-distinct (map (λ p. p.0) all) n)))))
  where
    names : List Text
    names = distinct (map (λ p. p.0) all)

    before : Text → List Entry
    before x = last_entries (entries_under all x)

    after : Text → List Entry
    after x = last_entries (entries_under (all ++ (n, None) ∷ []) x)

    none_of : (b : Bool) → cons_option {X = Entry} (if b then None else None) [] ≡ []
    none_of true = refl
    none_of false = refl

    same : (x : Text) → after x ≡ before x
    same x = ap last_entries (entries_under-more all n x None (bytes_eq x n) refl ∙ (ap (λ (t : List Entry). entries_under all x ++ t) (none_of (bytes_eq x n)) ∙ append-nil (entries_under all x)))

    go : (b : Bool) → is_in (map (λ p. p.0) all) n ≡ b → table before (if b then names else names ++ n ∷ []) ≡ (if b then groups_from all else groups_from all ++ (n, []) ∷ [])
    go true h = refl
    go false h = map-append (λ (x : Text). (x, before x)) names (n ∷ []) ∙ ap (λ (t : List Entry). table before names ++ (n, last_entries t) ∷ []) (entries_under-none all n h)

-- an entry more of a group that is there
pub groups_from-entry : (all : List InGroup) (n k v : Text) → is_in (map (λ p. p.0) all) n ≡ true → groups_from (all ++ (n, Some (k, v)) ∷ []) ≡ put_at (groups_from all) (position_or_len (bytes_eq n) (distinct (map (λ p. p.0) all))) k v
groups_from-entry all n k v there =
    ap (λ (t : List Text). table after (distinct t)) (map-append (λ (p : InGroup). p.0) all ((n, Some (k, v)) ∷ []))
    ∙ (ap (table after) (distinct-more (map (λ p. p.0) all) n ∙ ap (λ (t : Bool). if t then names else names ++ n ∷ []) there)
    ∙ sym (put_at-table before after names n k v (distinct-distinct (map (λ p. p.0) all)) (is_in-distinct (map (λ p. p.0) all) n ∙ there) here others))
  where
    names : List Text
    names = distinct (map (λ p. p.0) all)

    before : Text → List Entry
    before x = last_entries (entries_under all x)

    after : Text → List Entry
    after x = last_entries (entries_under (all ++ (n, Some (k, v)) ∷ []) x)

    here : (x : Text) → bytes_eq n x ≡ true → after x ≡ put_entry (before x) k v
    here x h = ap last_entries (entries_under-more all n x (Some (k, v)) true (bytes_eq-swap x n ∙ h)) ∙ last_entries-more (entries_under all x) k v

    others : (x : Text) → bytes_eq n x ≡ false → after x ≡ before x
    others x h = ap last_entries (entries_under-more all n x (Some (k, v)) false (bytes_eq-swap x n ∙ h) ∙ append-nil (entries_under all x))

-- the place of the last line's group
pub group_place-groups_from : (all : List InGroup) (n : Text) → group_place (groups_from all) n ≡ position_or_len (bytes_eq n) (distinct (map (λ p. p.0) all))
group_place-groups_from all n = group_place-table (λ x. last_entries (entries_under all x)) (distinct (map (λ p. p.0) all)) n

pub position-in_groups : (all : List InGroup) (n : Text) (o : Option Entry) → position_or_len (bytes_eq n) (distinct (map (λ p. p.0) (all ++ (n, o) ∷ []))) ≡ position_or_len (bytes_eq n) (distinct (map (λ p. p.0) all))
position-in_groups all n o = ap (λ (t : List Text). position_or_len (bytes_eq n) (distinct t)) (map-append (λ (p : InGroup). p.0) all ((n, o) ∷ [])) ∙ position-distinct (map (λ p. p.0) all) n
