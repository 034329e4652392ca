-- The groups of a book, one slot after another.
use Rattle.std.proofs.Common.{◌≡◌, ◌∙◌, ◌<◌, refl, sym, ap, ℕ, zero, suc, ◌+◌, Bool, true, false, cond, ◌||◌, List, [], ◌∷◌, ◌++◌, length, get_or, take, map, filter, arith}
use Rattle.std.specs.List.{zip}
use Rattle.std.specs.Str.{bytes_eq}
use Rattle.std.proofs.lemmas.Bool.{true≢false}
use Rattle.std.proofs.lemmas.List.{length-map, length-take, map-append, take_more}
use Rattle.std.proofs.lemmas.List.Elements.{filter-append}
use Rattle.keyfile.specs.Groups.{Text, all_distinct, has_group}
use Rattle.keyfile.proofs.Bools.{both, not_true}
use Rattle.keyfile.proofs.Distinct.{is_in}
use Rattle.slot_status.proofs.Apart.{apart_from, in_front, in_rest}
use Rattle.slot_status.specs.Books.{record_content, record_contents}
use Rattle.slot_status.specs.Records.{RecordContent, slot_group}
use Rattle.slot_status.specs.Texts.{book_groups, group_of, has_entry}
use Rattle.slot_status.specs.declared.slot_record.SlotRecord.{SlotRecord}

-- ---- a slot more

zip-append : {A B : Type 0} (xs : List A) (ys : List B) (x : A) (y : B) → length xs ≡ length ys → zip (xs ++ x ∷ []) (ys ++ y ∷ []) ≡ zip xs ys ++ (x, y) ∷ []
zip-append [] [] x y same = refl
zip-append [] (z ∷ ys) x y same = absurd (omega (arith, same))
zip-append (w ∷ xs) [] x y same = absurd (omega (arith, same))
zip-append {A} {B} (w ∷ xs) (z ∷ ys) x y same = ap (λ (ps : List (A × B)). (w, z) ∷ ps) (zip-append xs ys x y (omega (arith, same)))

pub groups_more : (names : List Text) (records : List SlotRecord) (i : ℕ) (n : Text) (r : SlotRecord) → length names ≡ length records → i < length names → n ≡ get_or names i n → r ≡ get_or records i r
    → book_groups (take (i + 1) names) (record_contents (take (i + 1) records))
    ≡ book_groups (take i names) (record_contents (take i records)) ++ filter has_entry (group_of (n, record_content r) ∷ [])
groups_more names records i n r same within name is =
    (λ j. book_groups (taken_names j) (taken j))
    ∙ ap (λ (ps : List (Text × RecordContent)). filter has_entry (map group_of ps)) (zip-append (take i names) (record_contents (take i records)) n (record_content r) long)
    ∙ ap (filter has_entry) (map-append group_of (zip (take i names) (record_contents (take i records))) ((n, record_content r) ∷ []))
    ∙ filter-append has_entry (map group_of (zip (take i names) (record_contents (take i records)))) (group_of (n, record_content r) ∷ [])
  where
    taken_names : take (i + 1) names ≡ take i names ++ n ∷ []
    taken_names = take_more names i n within ∙ ap (λ (m : Text). take i names ++ m ∷ []) (sym name)

    taken : record_contents (take (i + 1) records) ≡ record_contents (take i records) ++ record_content r ∷ []
    taken =
        ap record_contents (take_more records i r (omega (arith, within, same)) ∙ ap (λ (x : SlotRecord). take i records ++ x ∷ []) (sym is))
        ∙ map-append record_content (take i records) (r ∷ [])

    long : length (take i names) ≡ length (record_contents (take i records))
    long = omega (arith, length-take i names, length-take i records, length-map (take i records) record_content, same, within)

-- ---- the slot is a new one

is_in-take : (names : List Text) (i : ℕ) (n : Text) → is_in names n ≡ false → is_in (take i names) n ≡ false
is_in-take names zero n absent = refl
is_in-take [] (suc i) n absent = refl
is_in-take (m ∷ names) (suc i) n absent = go (bytes_eq n m) absent (λ h. is_in-take names i n h)
  where
    go : (b : Bool) → (b || is_in names n) ≡ false → (is_in names n ≡ false → is_in (take i names) n ≡ false) → (b || is_in (take i names) n) ≡ false
    go true h deep = absurd (true≢false h)
    go false h deep = deep h

is_in-get : (names : List Text) (i : ℕ) (n : Text) → i < length names → is_in names (get_or names i n) ≡ true
is_in-get [] i n within = absurd (omega (arith, within))
is_in-get (m ∷ names) zero n within = in_front m names
is_in-get (m ∷ names) (suc i) n within = in_rest (get_or names i n) m names (is_in-get names i n (omega (arith, within)))

-- a name is none of those before it
earlier : (names : List Text) (i : ℕ) (n : Text) → all_distinct names ≡ true → i < length names → is_in (take i names) (get_or names i n) ≡ false
earlier names zero n once within = refl
earlier [] (suc i) n once within = absurd (omega (arith, within))
earlier (m ∷ names) (suc i) n once within =
    let less : i < length names = omega (arith, within) in
    λ j. apart_from names m (get_or names i n) (not_true _ (both _ _ once).0) (is_in-get names i n less) j || earlier names i n (both _ _ once).1 less j

-- the groups of a book are those of its slots alone
pub only_slots : (names : List Text) (book : List RecordContent) (n : Text) → is_in names n ≡ false → has_group (book_groups names book) (slot_group n) ≡ false
only_slots [] book n absent = refl
only_slots (m ∷ names) [] n absent = refl
only_slots (m ∷ names) (r ∷ book) n absent = go (bytes_eq n m) refl absent (λ h. only_slots names book n h)
  where
    added : (c : Bool) → bytes_eq n m ≡ false → has_group (book_groups names book) (slot_group n) ≡ false
        → has_group (cond c (group_of (m, r) ∷ book_groups names book) (book_groups names book)) (slot_group n) ≡ false
    added true apart deep = λ i. apart i || deep i
    added false apart deep = deep

    go : (b : Bool) → bytes_eq n m ≡ b → (b || is_in names n) ≡ false → (is_in names n ≡ false → has_group (book_groups names book) (slot_group n) ≡ false)
        → has_group (book_groups (m ∷ names) (r ∷ book)) (slot_group n) ≡ false
    go true is h deep = absurd (true≢false h)
    go false is h deep = added (has_entry (group_of (m, r))) is (deep h)

pub slot_new : (names : List Text) (book : List RecordContent) (i : ℕ) (n : Text) → all_distinct names ≡ true → i < length names → n ≡ get_or names i n
    → has_group (book_groups (take i names) book) (slot_group n) ≡ false
slot_new names book i n once within name = only_slots (take i names) book n (ap (is_in (take i names)) name ∙ earlier names i n once within)
