-- A book that is written is read again.
use Rattle.std.proofs.Common.{◌≡◌, ◌∙◌, ◌<◌, refl, sym, ap, ℕ, zero, suc, ◌^◌, Bool, true, false, cond, nat_lt, lt-ltb, ltb-true, ◌||◌, List, [], ◌∷◌, ◌++◌, length, map, find, decimal, Option, Some, None, option_map, option_and_then, unwrap_or, eqb, eqb-true, arith}
use Rattle.std.specs.Option.{option_map_or}
use Rattle.std.specs.List.{list_all}
use Rattle.std.specs.Str.{bytes_eq}
use Rattle.std.proofs.lemmas.Bool.{and_parts, true≢false}
use Rattle.std.proofs.lemmas.Bool.Decides.{nat_tests}
use Rattle.hex.specs.Hex.{IsBytes}
use Rattle.hex.proofs.HexLemmas.{decode_sized-encode_lower}
use Rattle.updater_text.specs.Digests.{digest_from, digest_of}
use Rattle.updater_text.specs.Numbers.{number_of}
use Rattle.updater_text.specs.declared.digest.Digest.{Digest}
use Rattle.keyfile.specs.Groups.{Entry, Group, Text, all_distinct, get_entry, get_in, has_group, is_entry_value}
use Rattle.keyfile.proofs.Bools.{both, not_true}
use Rattle.keyfile.proofs.Distinct.{equal_text, is_in, same_text}
use Rattle.conf_forms.specs.Forms.{is_text}
use Rattle.conf_forms.specs.Lists.{keep_if}
use Rattle.manifest.specs.Reads.{bundle_content}
use Rattle.manifest.specs.Sound.{is_bundle_text, is_text_if_any}
use Rattle.manifest.specs.declared.bundle_text.BundleText.{BundleText}
use Rattle.slot_status.specs.Books.{record_content, record_contents}
use Rattle.slot_status.specs.Records.{RecordContent, bundle_by, count_of, record_by, record_of, slot_group, text_of}
use Rattle.slot_status.specs.Sound.{is_digest}
use Rattle.slot_status.specs.Texts.{Row, book_groups, bundle_rows, count_text, digest_text, entries_of, group_of, has_entry, rows, state_rows, time_rows}
use Rattle.slot_status.specs.declared.slot_record.SlotRecord.{SlotRecord}
use Rattle.slot_status.proofs.Apart.{apart_from, in_front, in_rest, keys}
use Rattle.slot_status.proofs.Digits.{number_of-decimal}
use Rattle.slot_status.proofs.Facts.{facts}
use Rattle.slot_status.proofs.Groups.{only_slots}

-- ---- the values of a group's keys

-- the value of a key among rows
abbrev value_of : List Row → Text → Option Text
value_of rs key = option_and_then (λ (row : Row). row.1) (find (λ (row : Row). bytes_eq key row.0) rs)

absent_value : (rs : List Row) (key : Text) → is_in (keys rs) key ≡ false → get_entry (entries_of rs) key ≡ None
absent_value [] key absent = refl
absent_value ((k, o) ∷ rs) key absent = go (bytes_eq key k) refl absent (λ h. absent_value rs key h) o
  where
    go : (b : Bool) → bytes_eq key k ≡ b → (b || is_in (keys rs) key) ≡ false → (is_in (keys rs) key ≡ false → get_entry (entries_of rs) key ≡ None)
        → (o : Option Text) → get_entry (entries_of ((k, o) ∷ rs)) key ≡ None
    go true is h deep o = absurd (true≢false h)
    go false is h deep None = deep h
    go false is h deep (Some v) = (λ i. option_map (λ (e : Entry). e.1) (cond (is i) (Some (k, v)) (find (λ (e : Entry). bytes_eq key e.0) (entries_of rs)))) ∙ deep h

entries_value : (rs : List Row) (key : Text) → all_distinct (keys rs) ≡ true → get_entry (entries_of rs) key ≡ value_of rs key
entries_value [] key once = refl
entries_value ((k, o) ∷ rs) key once = go (bytes_eq key k) refl o (entries_value rs key (both _ _ once).1)
  where
    absent : bytes_eq key k ≡ true → is_in (keys rs) key ≡ false
    absent is = ap (is_in (keys rs)) (same_text key k is) ∙ not_true _ (both _ _ once).0

    go : (b : Bool) → bytes_eq key k ≡ b → (o : Option Text) → get_entry (entries_of rs) key ≡ value_of rs key
        → get_entry (entries_of ((k, o) ∷ rs)) key ≡ value_of ((k, o) ∷ rs) key
    go true is None deep = absent_value rs key (absent is) ∙ sym (λ i. option_and_then (λ (row : Row). row.1) (cond (is i) (Some (k, None)) (find (λ (row : Row). bytes_eq key row.0) rs)))
    go true is (Some v) deep =
        (λ i. option_map (λ (e : Entry). e.1) (cond (is i) (Some (k, v)) (find (λ (e : Entry). bytes_eq key e.0) (entries_of rs))))
        ∙ sym (λ i. option_and_then (λ (row : Row). row.1) (cond (is i) (Some (k, Some v)) (find (λ (row : Row). bytes_eq key row.0) rs)))
    go false is None deep = deep ∙ sym (λ i. option_and_then (λ (row : Row). row.1) (cond (is i) (Some (k, None)) (find (λ (row : Row). bytes_eq key row.0) rs)))
    go false is (Some v) deep =
        (λ i. option_map (λ (e : Entry). e.1) (cond (is i) (Some (k, v)) (find (λ (e : Entry). bytes_eq key e.0) (entries_of rs))))
        ∙ deep ∙ sym (λ i. option_and_then (λ (row : Row). row.1) (cond (is i) (Some (k, Some v)) (find (λ (row : Row). bytes_eq key row.0) rs)))

-- ---- one record

short : (text : Text) → is_bundle_text text ≡ true → text_of (Some text) ≡ Some text
short text formed = λ i. cond ((and_parts (is_text text) (is_entry_value text) formed).0 i) (Some text) None

short_if_any : (text : Option Text) → is_text_if_any text ≡ true → text_of text ≡ text
short_if_any None formed = refl
short_if_any (Some text) formed = short text formed

small_bytes : (bytes : List ℕ) → list_all (λ b. nat_lt b 256) bytes ≡ true → IsBytes bytes
small_bytes [] all k = omega arith
small_bytes (b ∷ bytes) all zero = ltb-true b 256 (and_parts (nat_lt b 256) (list_all (λ (c : ℕ). nat_lt c 256) bytes) all).0
small_bytes (b ∷ bytes) all (suc k) = small_bytes bytes (and_parts (nat_lt b 256) (list_all (λ (c : ℕ). nat_lt c 256) bytes) all).1 k

digest_back : (digest : Option Digest) → option_map_or is_digest digest true ≡ true → option_and_then digest_of (digest_text digest) ≡ digest
digest_back None formed = refl
digest_back (Some d) formed =
    let parts = and_parts (eqb (length d.0) 32) (list_all (λ (b : ℕ). nat_lt b 256) d.0) formed in
    ap digest_from (decode_sized-encode_lower d.0 32 (eqb-true (length d.0) 32 parts.0) (small_bytes d.0 parts.1))

size_back : (size : Option ℕ) → option_map_or (λ n. nat_lt n (2 ^ 64)) size true ≡ true → option_and_then number_of (option_map decimal size) ≡ size
size_back None fits = refl
size_back (Some n) fits = number_of-decimal n (ltb-true n (2 ^ 64) fits)

count_back : (n : ℕ) → n < 2 ^ 32 → count_of (count_text n) ≡ n
count_back n fits = go (nat_lt 0 n) refl
  where
    go : (b : Bool) → nat_lt 0 n ≡ b → count_of (cond b (Some (decimal n)) None) ≡ n
    go true is =
        (λ i. unwrap_or (keep_if (λ (k : ℕ). nat_lt k (2 ^ 32)) (number_of-decimal n (omega (arith, fits)) i)) 0)
        ∙ (λ i. unwrap_or (cond (lt-ltb n (2 ^ 32) fits i) (Some n) None) 0)
    go false is = grind (arith, nat_tests)

bundle_back : (bundle : Option BundleText) (rest : List Row) → bundle_by (value_of (bundle_rows (option_map bundle_content bundle) ++ rest)) ≡ option_map bundle_content bundle
bundle_back None rest = refl
bundle_back (Some b) rest =
    let compatible = and_parts (is_bundle_text b.compatible) _ b.formed in
    let version = and_parts (is_text_if_any b.version) _ compatible.1 in
    let others = and_parts (is_text_if_any b.description) (is_text_if_any b.build) version.1 in
    λ i. option_map (λ (text : Text). record {
      compatible = text;
      version = short_if_any b.version version.0 i;
      description = short_if_any b.description others.0 i;
      build = short_if_any b.build others.1 i;
    }) (short b.compatible compatible.0 i)

-- the keys of a record, with their values, say the record
record_back : (r : SlotRecord) → record_by (λ key. get_entry (entries_of (rows (record_content r))) key) ≡ record_content r
unfolding record_by
record_back r =
    let f = facts r in
    let c = record_content r in
    ap record_by (λ i key. entries_value (rows c) key refl i)
    ∙ (λ i. record {
      bundle = bundle_back r.bundle (state_rows c ++ time_rows c) i;
      status = short_if_any r.status f.status i;
      digest = digest_back r.digest f.digest i;
      size = size_back r.size f.size i;
      installed_time = short_if_any r.installed_time f.installed_time i;
      installed_count = count_back r.installed_count f.installed_fits i;
      activated_time = short_if_any r.activated_time f.activated_time i;
      activated_count = count_back r.activated_count f.activated_fits i;
    })

-- ---- all records

none_in : (gs : List Group) (n key : Text) → has_group gs n ≡ false → get_in gs n key ≡ None
none_in [] n key none = refl
none_in (g ∷ gs) n key none = go (bytes_eq n g.0) refl none (λ h. none_in gs n key h)
  where
    go : (b : Bool) → bytes_eq n g.0 ≡ b → (b || has_group gs n) ≡ false → (has_group gs n ≡ false → get_in gs n key ≡ None) → get_in (g ∷ gs) n key ≡ None
    go true is h deep = absurd (true≢false h)
    go false is h deep = (λ i. option_and_then (λ (x : Group). get_entry x.1 key) (cond (is i) (Some g) (find (λ (x : Group). bytes_eq n x.0) gs))) ∙ deep h

no_entries : (n : Text) (es : List Entry) (key : Text) → has_entry (n, es) ≡ false → None ≡ get_entry es key
no_entries n [] key none = refl
no_entries n (e ∷ es) key none = absurd (grind (arith, nat_tests))

-- the first slot's group, or none where nothing is known of it
of_first : (names : List Text) (book : List RecordContent) (n : Text) (r : RecordContent) (key : Text) → is_in names n ≡ false
    → get_in (book_groups (n ∷ names) (r ∷ book)) (slot_group n) key ≡ get_entry (entries_of (rows r)) key
of_first names book n r key absent = go (has_entry (group_of (n, r))) refl
  where
    go : (b : Bool) → has_entry (group_of (n, r)) ≡ b → get_in (cond b (group_of (n, r) ∷ book_groups names book) (book_groups names book)) (slot_group n) key ≡ get_entry (entries_of (rows r)) key
    go true is =
        λ i. option_and_then (λ (g : Group). get_entry g.1 key) (cond (equal_text n n refl i) (Some (group_of (n, r))) (find (λ (g : Group). bytes_eq (slot_group n) g.0) (book_groups names book)))
    go false is = none_in (book_groups names book) (slot_group n) key (only_slots names book n absent) ∙ no_entries (slot_group n) (entries_of (rows r)) key is

-- the group of another slot is among the others'
of_later : (names : List Text) (book : List RecordContent) (n m : Text) (r : RecordContent) (key : Text) → bytes_eq m n ≡ false
    → get_in (book_groups (n ∷ names) (r ∷ book)) (slot_group m) key ≡ get_in (book_groups names book) (slot_group m) key
of_later names book n m r key apart = go (has_entry (group_of (n, r)))
  where
    go : (b : Bool) → get_in (cond b (group_of (n, r) ∷ book_groups names book) (book_groups names book)) (slot_group m) key ≡ get_in (book_groups names book) (slot_group m) key
    go true = λ i. option_and_then (λ (g : Group). get_entry g.1 key) (cond (apart i) (Some (group_of (n, r))) (find (λ (g : Group). bytes_eq (slot_group m) g.0) (book_groups names book)))
    go false = refl

map_same : (f g : Text → RecordContent) (names : List Text) → ((m : Text) → is_in names m ≡ true → f m ≡ g m) → map f names ≡ map g names
map_same f g [] each = refl
map_same f g (n ∷ names) each = λ i. each n (in_front n names) i ∷ map_same f g names (λ m there. each m (in_rest m n names there)) i

-- the groups of a book say the records of its slots
pub book_back : (names : List Text) (records : List SlotRecord) → all_distinct names ≡ true → length names ≡ length records
    → map (record_of (book_groups names (record_contents records))) names ≡ record_contents records
book_back [] [] once same = refl
book_back [] (r ∷ records) once same = absurd (omega (arith, same))
book_back (n ∷ names) [] once same = absurd (omega (arith, same))
book_back (n ∷ names) (r ∷ records) once same =
    let absent = not_true _ (both _ _ once).0 in
    let book = record_contents records in
    let c = record_content r in
    let first : record_of (book_groups (n ∷ names) (c ∷ book)) n ≡ c = ap record_by (λ i key. of_first names book n c key absent i) ∙ record_back r in
    let later : map (record_of (book_groups (n ∷ names) (c ∷ book))) names ≡ map (record_of (book_groups names book)) names =
    map_same _ _ names (λ m there. ap record_by (λ i key. of_later names book n m c key (apart_from names n m absent there) i)) in
    λ i. first i ∷ (later ∙ book_back names records (both _ _ once).1 (omega (arith, same))) i
