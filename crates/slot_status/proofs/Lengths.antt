-- The text of a book of 64 slots can be read again: it is short enough.
use Rattle.std.proofs.Common.{◌≡◌, ◌<◌, ◌≤◌, ap, ℕ, suc, ◌+◌, ◌*◌, ◌^◌, Bool, true, false, cond, nat_lt, eqb, eqb-true, leb-true, ltb-true, ◌==◌, List, [], ◌∷◌, ◌++◌, length, decimal, Option, Some, None, option_map, option_and_then, arith, length-append}
use Rattle.std.specs.Option.{option_map_or}
use Rattle.std.specs.List.{flat_map, list_all}
use Rattle.std.proofs.lemmas.Bool.{and_parts}
use Rattle.std.proofs.lemmas.Fmt.{length-decimal-le}
use Rattle.hex.specs.Hex.{lower_digits}
use Rattle.hex.proofs.HexLemmas.{length-encode_with}
use Rattle.updater_text.specs.declared.digest.Digest.{Digest}
use Rattle.keyfile.specs.Canonical.{canonical, entry_text, group_text}
use Rattle.keyfile.specs.Escapes.{escape, value_text}
use Rattle.keyfile.specs.Groups.{Group, Text, is_entry_value}
use Rattle.conf_forms.specs.Forms.{is_text}
use Rattle.manifest.specs.Reads.{bundle_content}
use Rattle.manifest.specs.Sound.{is_bundle_text, is_text_if_any}
use Rattle.manifest.specs.declared.bundle_text.BundleText.{BundleText}
use Rattle.slot_status.specs.Sound.{is_digest}
use Rattle.slot_status.specs.Texts.{Row, book_groups, book_text, count_text, digest_text, entries_of, group_of, has_entry, rows}
use Rattle.slot_status.specs.Books.{record_content, record_contents}
use Rattle.slot_status.specs.Records.{slot_group}
use Rattle.conf_forms.specs.SlotNames.{is_slot_name}
use Rattle.slot_status.specs.declared.slot_record.SlotRecord.{SlotRecord}
use Rattle.slot_status.proofs.Facts.{facts}
use Rattle.slot_status.proofs.Names.{name_length}

-- ---- values

escape_length : (b : ℕ) → length (escape b) ≤ 2
escape_length b = go (b == 10) (b == 9) (b == 13) (b == 92)
  where
    go : (p q r s : Bool) → length (cond p (92 ∷ 110 ∷ []) (cond q (92 ∷ 116 ∷ []) (cond r (92 ∷ 114 ∷ []) (cond s (92 ∷ 92 ∷ []) (b ∷ []))))) ≤ 2
    go true q r s = omega arith
    go false true r s = omega arith
    go false false true s = omega arith
    go false false false true = omega arith
    go false false false false = omega arith

escapes_length : (text : Text) → length (flat_map escape text) ≤ 2 * length text
escapes_length [] = omega arith
escapes_length (b ∷ text) = omega (arith, length-append (escape b) (flat_map escape text), escape_length b, escapes_length text)

value_length : (text : Text) → length (value_text text) ≤ 2 * length text
value_length [] = omega arith
value_length (b ∷ text) = go (b == 32) (value_length text)
  where
    go : (p : Bool) → length (value_text text) ≤ 2 * length text → length (cond p (92 ∷ 115 ∷ value_text text) (escape b ++ flat_map escape text)) ≤ 2 * suc (length text)
    go true rest = omega (arith, rest)
    go false rest = omega (arith, length-append (escape b) (flat_map escape text), escape_length b, escapes_length text)

-- ---- entries

-- a value that is there has at most so many bytes
abbrev IsWithin : ℕ → Option Text → Type 0
IsWithin most None = Unit {0}
IsWithin most (Some text) = length text ≤ most

abbrev lines : List Row → Text
lines rs = flat_map entry_text (entries_of rs)

entry_length : (k v : Text) → length (entry_text (k, v)) ≤ length k + 2 * length v + 2
entry_length k v =
    let whole : length (entry_text (k, v)) ≡ length (k ++ (61 ∷ value_text v)) + 1 = length-append (k ++ (61 ∷ value_text v)) (10 ∷ []) in
    omega (arith, whole, length-append k (61 ∷ value_text v), value_length v)

-- each value of the rows has at most so many bytes
abbrev AreWithin : List ℕ → List Row → Type 0
AreWithin [] [] = Unit {0}
AreWithin [] (row ∷ rs) = ⊥
AreWithin (most ∷ limits) [] = ⊥
AreWithin (most ∷ limits) (row ∷ rs) = IsWithin most row.1 × AreWithin limits rs

-- how long their lines may be then
abbrev room : List ℕ → List Row → ℕ
room [] rs = 0
room (most ∷ limits) [] = 0
room (most ∷ limits) (row ∷ rs) = (length row.0 + 2 * most + 2) + room limits rs

lines_length : (limits : List ℕ) (rs : List Row) → AreWithin limits rs → length (lines rs) ≤ room limits rs
lines_length [] [] within = omega arith
lines_length [] (row ∷ rs) within = absurd within
lines_length (most ∷ limits) [] within = absurd within
lines_length (most ∷ limits) ((k, None) ∷ rs) within = omega (arith, lines_length limits rs within.1)
lines_length (most ∷ limits) ((k, Some v) ∷ rs) within =
    let whole : length (lines ((k, Some v) ∷ rs)) ≡ length (entry_text (k, v)) + length (lines rs) = length-append (entry_text (k, v)) (lines rs) in
    let small : length v ≤ most = within.0 in
    omega (arith, whole, entry_length k v, small, lines_length limits rs within.1)

text_within : (text : Option Text) → is_text_if_any text ≡ true → IsWithin 1024 text
text_within None formed = tt
text_within (Some text) formed = leb-true (length text) 1024 (and_parts (is_text text) (is_entry_value text) formed).0

digest_within : (digest : Option Digest) → option_map_or is_digest digest true ≡ true → IsWithin 64 (digest_text digest)
digest_within None formed = tt
digest_within (Some d) formed =
    let long = eqb-true (length d.0) 32 (and_parts (eqb (length d.0) 32) (list_all (λ (b : ℕ). nat_lt b 256) d.0) formed).0 in
    omega (arith, length-encode_with lower_digits d.0, long)

number_within : (n : ℕ) → n < 2 ^ 64 → length (decimal n) ≤ 20
number_within n small = length-decimal-le 20 n (omega arith) (omega (arith, small)) small

size_within : (size : Option ℕ) → option_map_or (λ n. nat_lt n (2 ^ 64)) size true ≡ true → IsWithin 20 (option_map decimal size)
size_within None fits = tt
size_within (Some n) fits = number_within n (ltb-true n (2 ^ 64) fits)

count_within : (n : ℕ) → n < 2 ^ 32 → IsWithin 20 (count_text n)
count_within n fits = go (nat_lt 0 n)
  where
    go : (b : Bool) → IsWithin 20 (cond b (Some (decimal n)) None)
    go true = number_within n (omega (arith, fits))
    go false = tt

record BundleWithin (bundle : Option BundleText) : Type 0 where
  compatible : IsWithin 1024 (option_map (λ b. b.compatible) (option_map bundle_content bundle))
  version : IsWithin 1024 (option_and_then (λ b. b.version) (option_map bundle_content bundle))
  description : IsWithin 1024 (option_and_then (λ b. b.description) (option_map bundle_content bundle))
  build : IsWithin 1024 (option_and_then (λ b. b.build) (option_map bundle_content bundle))

bundle_within : (bundle : Option BundleText) → BundleWithin bundle
bundle_within None = record { compatible = tt; version = tt; description = tt; build = tt }
bundle_within (Some b) =
    let compatible = and_parts (is_bundle_text b.compatible) _ b.formed in
    let version = and_parts (is_text_if_any b.version) _ compatible.1 in
    let others = and_parts (is_text_if_any b.description) (is_text_if_any b.build) version.1 in
    record {
      compatible = text_within (Some b.compatible) compatible.0;
      version = text_within b.version version.0;
      description = text_within b.description others.0;
      build = text_within b.build others.1;
    }

-- ---- records

-- the most bytes of each value of a record, in written order
abbrev limits : List ℕ
limits = 1024 ∷ 1024 ∷ 1024 ∷ 1024 ∷ 1024 ∷ 64 ∷ 20 ∷ 1024 ∷ 20 ∷ 1024 ∷ 20 ∷ []

record_length : (r : SlotRecord) → length (lines (rows (record_content r))) ≤ 14751
record_length r =
    let f = facts r in
    let b = bundle_within r.bundle in
    lines_length limits (rows (record_content r)) (
      b.compatible,
      (
        b.version,
        (
          b.description,
          (
            b.build,
            (
              text_within r.status f.status,
              (
                digest_within r.digest f.digest,
                (
                  size_within r.size f.size,
                  (text_within r.installed_time f.installed_time, (count_within r.installed_count f.installed_fits, (text_within r.activated_time f.activated_time, (count_within r.activated_count f.activated_fits, tt)))),
                ),
              ),
            ),
          ),
        ),
      ),
    )

-- ---- books

-- each group takes at most 16,384 bytes, with the line before it
abbrev AreShort : List Group → Type 0
AreShort [] = Unit {0}
AreShort (g ∷ gs) = (length (group_text g) + 1 ≤ 16384) × AreShort gs

more_length : (gs : List Group) → AreShort gs → length (flat_map (λ g. 10 ∷ [] ++ group_text g) gs) ≤ 16384 * length gs
more_length [] short = omega arith
more_length (g ∷ gs) short =
    let whole : length (flat_map (λ (h : Group). 10 ∷ [] ++ group_text h) (g ∷ gs)) ≡ suc (length (group_text g)) + length (flat_map (λ (h : Group). 10 ∷ [] ++ group_text h) gs) =
    length-append (10 ∷ [] ++ group_text g) (flat_map (λ (h : Group). 10 ∷ [] ++ group_text h) gs) in
    let one : length (group_text g) + 1 ≤ 16384 = short.0 in
    omega (arith, whole, one, more_length gs short.1)

canonical_length : (gs : List Group) → AreShort gs → length (canonical gs) ≤ 16384 * length gs
canonical_length [] short = omega arith
canonical_length (g ∷ gs) short =
    let whole : length (canonical (g ∷ gs)) ≡ length (group_text g) + length (flat_map (λ (h : Group). 10 ∷ [] ++ group_text h) gs) =
    length-append (group_text g) (flat_map (λ (h : Group). 10 ∷ [] ++ group_text h) gs) in
    let one : length (group_text g) + 1 ≤ 16384 = short.0 in
    omega (arith, whole, one, more_length gs short.1)

group_length : (n : Text) (r : SlotRecord) → is_slot_name n ≡ true → length (group_text (group_of (n, record_content r))) + 1 ≤ 16384
group_length n r named =
    let whole : length (group_text (group_of (n, record_content r))) ≡ suc (length (slot_group n) + suc (suc (length (lines (rows (record_content r)))))) =
    ap (λ (k : ℕ). suc k) (length-append (slot_group n) (93 ∷ 10 ∷ lines (rows (record_content r)))) in
    let name : length (slot_group n) ≡ length n + 5 = omega arith in
    omega (arith, whole, name, name_length n named, record_length r)

-- the groups of a book are short, and at most as many as its slots
groups_short : (names : List Text) (records : List SlotRecord) → list_all is_slot_name names ≡ true
    → AreShort (book_groups names (record_contents records)) × (length (book_groups names (record_contents records)) ≤ length names)
groups_short [] records named = (tt, omega arith)
groups_short (n ∷ names) [] named = (tt, omega arith)
groups_short (n ∷ names) (r ∷ records) named =
    let parts = and_parts (is_slot_name n) (list_all is_slot_name names) named in
    go (has_entry (group_of (n, record_content r))) (group_length n r parts.0) (groups_short names records parts.1)
  where
    go : (b : Bool) → length (group_text (group_of (n, record_content r))) + 1 ≤ 16384 → AreShort (book_groups names (record_contents records)) × (length (book_groups names (record_contents records)) ≤ length names)
        → AreShort (cond b (group_of (n, record_content r) ∷ book_groups names (record_contents records)) (book_groups names (record_contents records)))
        × (length (cond b (group_of (n, record_content r) ∷ book_groups names (record_contents records)) (book_groups names (record_contents records))) ≤ suc (length names))
    go true one rest = ((one, rest.0), omega (arith, rest.1))
    go false one rest = (rest.0, omega (arith, rest.1))

pub book_length : (names : List Text) (records : List SlotRecord) → list_all is_slot_name names ≡ true → length names ≤ 64 → length (book_text names (record_contents records)) ≤ 1048576
book_length names records named few =
    let short = groups_short names records named in
    omega (arith, canonical_length (book_groups names (record_contents records)) short.0, short.1, few)
