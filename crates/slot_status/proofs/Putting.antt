-- The keys of a record, put one after another into a key file without its group.
use Rattle.std.proofs.Common.{◌≡◌, ◌∙◌, refl, sym, ap, ℕ, suc, ◌+◌, Bool, true, false, cond, not, ◌||◌, List, [], ◌∷◌, ◌++◌, length, map, filter, Some, None, arith, append_assoc}
use Rattle.std.specs.Str.{bytes_eq}
use Rattle.std.proofs.lemmas.Bool.{true≢false}
use Rattle.std.proofs.lemmas.Bool.Decides.{nat_tests}
use Rattle.std.proofs.lemmas.List.{append-nil, map-append}
use Rattle.std.proofs.lemmas.List.Folds.{list_any-append}
use Rattle.keyfile.specs.Groups.{Entry, Group, Text, all_distinct, group_place, has_group, put_at, put_entry, put_in}
use Rattle.keyfile.proofs.Bools.{both, not_true}
use Rattle.keyfile.proofs.Distinct.{equal_text, is_in}
use Rattle.keyfile.proofs.Maps.{put_at-last, put_in-new, put_in-there}
use Rattle.slot_status.proofs.Apart.{apart_from, in_front, in_rest, keys}
use Rattle.slot_status.specs.Puts.{put_rows}
use Rattle.slot_status.specs.Texts.{Row, entries_of, has_entry}

-- a key that is new goes last
pub put_entry-new : (es : List Entry) (k v : Text) → is_in (map (λ (e : Entry). e.0) es) k ≡ false → put_entry es k v ≡ es ++ (k, v) ∷ []
put_entry-new [] k v new = refl
put_entry-new (e ∷ es) k v new = go (bytes_eq k e.0) new (λ h. put_entry-new es k v h)
  where
    go : (b : Bool) → (b || is_in (map (λ (x : Entry). x.0) es) k) ≡ false → (is_in (map (λ (x : Entry). x.0) es) k ≡ false → put_entry es k v ≡ es ++ (k, v) ∷ [])
        → cond b ((e.0, v) ∷ es) (e ∷ put_entry es k v) ≡ e ∷ (es ++ (k, v) ∷ [])
    go true h deep = absurd (true≢false h)
    go false h deep = ap (λ (xs : List Entry). e ∷ xs) (deep h)

-- the last group is found, where no other has its name
has_last : (gs : List Group) (n : Text) (es : List Entry) → has_group (gs ++ (n, es) ∷ []) n ≡ true
has_last [] n es = λ i. equal_text n n refl i || false
has_last (g ∷ gs) n es = (λ i. bytes_eq n g.0 || has_last gs n es i) ∙ go (bytes_eq n g.0)
  where
    go : (b : Bool) → (b || true) ≡ true
    go true = refl
    go false = refl

last_place : (gs : List Group) (n : Text) (es : List Entry) → has_group gs n ≡ false → group_place (gs ++ (n, es) ∷ []) n ≡ length gs
last_place [] n es new = λ i. cond (not (equal_text n n refl i)) (1 + 0) 0
last_place (g ∷ gs) n es new = go (bytes_eq n g.0) new (λ h. last_place gs n es h)
  where
    go : (b : Bool) → (b || has_group gs n) ≡ false → (has_group gs n ≡ false → group_place (gs ++ (n, es) ∷ []) n ≡ length gs)
        → cond (not b) (1 + group_place (gs ++ (n, es) ∷ []) n) 0 ≡ suc (length gs)
    go true h deep = absurd (true≢false h)
    go false h deep = omega (arith, deep h)

pub put_last : (gs : List Group) (n : Text) (es : List Entry) (k v : Text) → has_group gs n ≡ false → is_in (map (λ (e : Entry). e.0) es) k ≡ false
    → put_in (gs ++ (n, es) ∷ []) n k v ≡ gs ++ (n, es ++ (k, v) ∷ []) ∷ []
put_last gs n es k v new once =
    put_in-there (gs ++ (n, es) ∷ []) n k v (has_last gs n es)
    ∙ ap (λ (at : ℕ). put_at (gs ++ (n, es) ∷ []) at k v) (last_place gs n es new)
    ∙ put_at-last gs n es k v
    ∙ ap (λ (xs : List Entry). gs ++ (n, xs) ∷ []) (put_entry-new es k v once)

-- ---- all keys of a record

abbrev entry_keys : List Entry → List Text
entry_keys = map (λ (e : Entry). e.0)

-- no key of the rows is one of the entries
abbrev AreFresh : List Row → List Entry → Type 0
AreFresh rs es = (k : Text) → is_in (keys rs) k ≡ true → is_in (entry_keys es) k ≡ false

fresh_later : (row : Row) (rs : List Row) (es : List Entry) → AreFresh (row ∷ rs) es → AreFresh rs es
fresh_later row rs es fresh k in_rs = fresh k (in_rest k row.0 (keys rs) in_rs)

fresh_after : (k v : Text) (rs : List Row) (es : List Entry) → is_in (keys rs) k ≡ false → AreFresh rs es → AreFresh rs (es ++ (k, v) ∷ [])
fresh_after k v rs es absent fresh other present =
    ap (λ (names : List Text). is_in names other) (map-append (λ (e : Entry). e.0) es ((k, v) ∷ []))
    ∙ list_any-append (bytes_eq other) (entry_keys es) (k ∷ [])
    ∙ (λ i. fresh other present i || (apart_from (keys rs) k other absent present i || false))

put_more : (gs : List Group) (n : Text) (es : List Entry) (rs : List Row) → has_group gs n ≡ false → all_distinct (keys rs) ≡ true → AreFresh rs es
    → put_rows n (gs ++ (n, es) ∷ []) rs ≡ gs ++ (n, es ++ entries_of rs) ∷ []
put_more gs n es [] new once fresh = ap (λ (xs : List Entry). gs ++ (n, xs) ∷ []) (sym (append-nil es))
put_more gs n es ((k, None) ∷ rs) new once fresh = put_more gs n es rs new (both _ _ once).1 (fresh_later (k, None) rs es fresh)
put_more gs n es ((k, Some v) ∷ rs) new once fresh =
    let absent = not_true _ (both _ _ once).0 in
    ap (λ (groups : List Group). put_rows n groups rs) (put_last gs n es k v new (fresh k (in_front k (keys rs))))
    ∙ put_more gs n (es ++ (k, v) ∷ []) rs new (both _ _ once).1 (fresh_after k v rs es absent (fresh_later (k, Some v) rs es fresh))
    ∙ ap (λ (xs : List Entry). gs ++ (n, xs) ∷ []) (append_assoc es ((k, v) ∷ []) (entries_of rs))

kept : (n : Text) (e : Entry) (es : List Entry) → has_entry (n, e ∷ es) ≡ true
kept n e es = grind (arith, nat_tests)

one_fresh : (k v : Text) (rs : List Row) → is_in (keys rs) k ≡ false → AreFresh rs ((k, v) ∷ [])
one_fresh k v rs absent other present = λ i. apart_from (keys rs) k other absent present i || false

-- the group goes last with the keys that have a value, and is not there where none has
pub put_new : (gs : List Group) (n : Text) (rs : List Row) → has_group gs n ≡ false → all_distinct (keys rs) ≡ true
    → put_rows n gs rs ≡ gs ++ filter has_entry ((n, entries_of rs) ∷ [])
put_new gs n [] new once = sym (append-nil gs)
put_new gs n ((k, None) ∷ rs) new once = put_new gs n rs new (both _ _ once).1
put_new gs n ((k, Some v) ∷ rs) new once =
    let absent = not_true _ (both _ _ once).0 in
    ap (λ (groups : List Group). put_rows n groups rs) (put_in-new gs n k v new)
    ∙ put_more gs n ((k, v) ∷ []) rs new (both _ _ once).1 (one_fresh k v rs absent)
    ∙ (λ i. gs ++ cond (sym (kept n (k, v) (entries_of rs)) i) ((n, (k, v) ∷ entries_of rs) ∷ []) [])
