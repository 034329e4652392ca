-- The canonical text of a key file is read as that key file.
use Rattle.std.proofs.Common.{◌≡◌, ◌∙◌, ◌≤◌, ◌<◌, ◌+◌, ◌-◌, ◌==◌, ap, sym, refl, ℕ, zero, suc, Bool, true, false, not, ◌&&◌, ◌||◌, cond, List, [], ◌∷◌, ◌++◌, map, length, take, drop, get_or, position, Option, Some, None, Result, Ok, if◌then◌else◌, option_and_then, arith, append_assoc, length-append}
use Rattle.std.specs.Prelude.{nat_lt, slice_index}
use Rattle.std.specs.List.{flat_map, list_all, position_or_len, slice_split, suffix_len}
use Rattle.std.specs.Str.{IsUtf8, bytes_eq}
use Rattle.std.specs.Str.Lines.{lines, lines_of_parts, strip_carriage_return}
use Rattle.std.proofs.Math.Seq.{take-append_seam}
use Rattle.std.proofs.lemmas.Bool.{false≢true}
use Rattle.std.proofs.lemmas.Bool.Decides.{nat_tests}
use Rattle.std.proofs.lemmas.Grind.{flat_map-append}
use Rattle.std.proofs.lemmas.List.{append-nil, map-append}
use Rattle.std.proofs.lemmas.List.Folds.{list_all-append}
use Rattle.std.proofs.lemmas.List.Splits.{length-slice_split, slice_split_at}
use Rattle.keyfile.proofs.Bools.{and_true, both, not_true}
use Rattle.keyfile.proofs.Distinct.{equal_text, is_in, same_text}
use Rattle.keyfile.proofs.Escaped.{other_number, unescape-value_text, value_text-bytes, value_text-front}
use Rattle.keyfile.proofs.Keeping.{has_group-names}
use Rattle.keyfile.proofs.LineForms.{after_blanks-plain, before_blanks-none, before_blanks-plain, bracket_name-name, bracket_name-none}
use Rattle.keyfile.proofs.Maps.{with_group-new, group_place-new, put_at-last}
use Rattle.keyfile.proofs.Orders.{after, after-good, after-read_lines_of}
use Rattle.keyfile.proofs.Whole.{read_of-text}
use Rattle.keyfile.specs.Canonical.{canonical, entry_text, group_text}
use Rattle.keyfile.specs.Escapes.{value_text}
use Rattle.keyfile.specs.Groups.{Text, Entry, Group, all_distinct, has_group, is_entry, is_group, is_key, is_key_byte, is_key_file, is_line_byte, is_name, is_name_byte, is_entry_value, group_place, put_entry}
use Rattle.keyfile.specs.Lines.{Line, nothing, heading, entry, after_blanks, before_blanks, bracket_name, entry_from, entry_of, heading_of, inner, is_blank, is_silent, line_of, unindented_line, heading_or_entry}
use Rattle.keyfile.specs.Reading.{read_lines_of, read_of}
use Rattle.keyfile.specs.Steps.{after_entry, after_line}
use Rattle.keyfile.specs.declared.fault.KeyFault.{KeyFault}

-- ---- the lines of the text

line_text : Text → Text
line_text line = line ++ 10 ∷ []

entry_line : Entry → Text
entry_line e = e.0 ++ 61 ∷ value_text e.1

group_lines : Group → List Text
group_lines g = (91 ∷ g.0 ++ 93 ∷ []) ∷ map entry_line g.1

more_lines : List Group → List Text
more_lines gs = flat_map (λ g. [] ∷ group_lines g) gs

canonical_lines : List Group → List Text
canonical_lines [] = []
canonical_lines (g ∷ gs) = group_lines g ++ more_lines gs

entries-lines : (es : List Entry) → flat_map entry_text es ≡ flat_map line_text (map entry_line es)
unfolding line_text entry_line
entries-lines [] = refl
entries-lines (e ∷ es) = ap (λ (t : Text). entry_text e ++ t) (entries-lines es)

group-lines : (g : Group) → group_text g ≡ flat_map line_text (group_lines g)
unfolding line_text entry_line group_lines
group-lines g =
    ap (λ (t : Text). 91 ∷ g.0 ++ 93 ∷ 10 ∷ t) (entries-lines g.1)
    ∙ sym (append_assoc (91 ∷ g.0 ++ 93 ∷ []) (10 ∷ []) (flat_map line_text (map entry_line g.1)) ∙ append_assoc (91 ∷ g.0) (93 ∷ []) (10 ∷ flat_map line_text (map entry_line g.1)))

more-lines : (gs : List Group) → flat_map (λ y. (10 ∷ []) ++ group_text y) gs ≡ flat_map line_text (more_lines gs)
unfolding line_text more_lines
more-lines [] = refl
more-lines (g ∷ gs) =
    ap (λ (t : Text). (10 ∷ t) ++ flat_map (λ y. (10 ∷ []) ++ group_text y) gs) (group-lines g)
    ∙ (ap (λ (t : Text). (10 ∷ flat_map line_text (group_lines g)) ++ t) (more-lines gs)
    ∙ sym (flat_map-append line_text ([] ∷ group_lines g) (more_lines gs)))

canonical-lines : (gs : List Group) → canonical gs ≡ flat_map line_text (canonical_lines gs)
unfolding canonical_lines
canonical-lines [] = refl
canonical-lines (g ∷ gs) =
    ap (λ (t : Text). t ++ flat_map (λ y. (10 ∷ []) ++ group_text y) gs) (group-lines g)
    ∙ (ap (λ (t : Text). flat_map line_text (group_lines g) ++ t) (more-lines gs)
    ∙ sym (flat_map-append line_text (group_lines g) (more_lines gs)))

line_byte-other : (b : ℕ) → is_line_byte b ≡ true → (b == 10) ≡ false
line_byte-other b h = grind (arith, nat_tests)

line_byte-no_return : (b : ℕ) → is_line_byte b ≡ true → (b == 13) ≡ false
line_byte-no_return b h = grind (arith, nat_tests)

each_line_byte : (line : Text) → list_all is_line_byte line ≡ true → (k d : ℕ) → k < length line → is_line_byte (get_or line k d) ≡ true
each_line_byte [] all k d within = absurd (omega arith)
each_line_byte (b ∷ more) all zero d within = (both _ _ all).0
each_line_byte (b ∷ more) all (suc k) d within = each_line_byte more (both _ _ all).1 k d (omega arith)

no_return : (line : Text) → list_all is_line_byte line ≡ true → strip_carriage_return line ≡ line
no_return [] all = refl
no_return (b ∷ more) all =
    ap (λ (t : Bool). if t then take (length (b ∷ more) - 1) (b ∷ more) else b ∷ more)
    (line_byte-no_return (slice_index (b ∷ more) (length (b ∷ more) - 1)) (each_line_byte (b ∷ more) all (length (b ∷ more) - 1) 0 (omega arith)))

some_parts : (text : Text) → slice_split (λ b. b == 10) text ≡ [] → ⊥
some_parts text none = absurd (omega (arith, length-slice_split (λ b. b == 10) text, ap length none))

-- a line of bytes that may stand in one, and those behind it
lines-cons : (line rest : Text) → list_all is_line_byte line ≡ true → lines (line_text line ++ rest) ≡ line ∷ lines rest
unfolding line_text
lines-cons line rest all =
    ap (λ (t : Text). lines t) (append_assoc line (10 ∷ []) rest)
    ∙ (ap lines_of_parts (slice_split_at (λ b. b == 10) line 10 rest (λ k d within. line_byte-other (get_or line k d) (each_line_byte line all k d within)) refl)
    ∙ go (slice_split (λ b. b == 10) rest) refl)
  where
    go : (parts : List Text) → slice_split (λ b. b == 10) rest ≡ parts → lines_of_parts (line ∷ slice_split (λ b. b == 10) rest) ≡ line ∷ lines rest
    go [] none = absurd (some_parts rest none)
    go (x ∷ more) is =
        ap (λ (t : List Text). lines_of_parts (line ∷ t)) is
        ∙ (ap (λ (t : Text). t ∷ lines_of_parts (x ∷ more)) (no_return line all)
        ∙ ap (λ (t : List Text). line ∷ lines_of_parts t) (sym is))

lines-text : (ls : List Text) → list_all (λ l. list_all is_line_byte l) ls ≡ true → lines (flat_map line_text ls) ≡ ls
lines-text [] all = refl
lines-text (l ∷ ls) all = lines-cons l (flat_map line_text ls) (both _ _ all).0 ∙ ap (λ (t : List Text). l ∷ t) (lines-text ls (both _ _ all).1)

-- ---- their bytes

name_byte-line : (b : ℕ) → is_name_byte b ≡ true → is_line_byte b ≡ true
name_byte-line b h = (both _ _ h).0

key_byte-line : (b : ℕ) → is_key_byte b ≡ true → is_line_byte b ≡ true
key_byte-line b h = grind (arith, nat_tests)

all_from : (p q : ℕ → Bool) → ((b : ℕ) → p b ≡ true → q b ≡ true) → (bs : Text) → list_all p bs ≡ true → list_all q bs ≡ true
all_from p q each [] all = refl
all_from p q each (b ∷ more) all = and_true _ _ (each b (both _ _ all).0) (all_from p q each more (both _ _ all).1)

heading-bytes : (name : Text) → is_name name ≡ true → list_all is_line_byte (91 ∷ name ++ 93 ∷ []) ≡ true
heading-bytes name formed = list_all-append is_line_byte name (93 ∷ []) ∙ and_true _ _ (all_from is_name_byte is_line_byte name_byte-line name (both _ _ formed).1) refl

entry-bytes : (e : Entry) → is_entry e ≡ true → list_all is_line_byte (entry_line e) ≡ true
unfolding entry_line
entry-bytes e formed =
    list_all-append is_line_byte e.0 (61 ∷ value_text e.1)
    ∙ and_true _ _ (all_from is_key_byte is_line_byte key_byte-line e.0 (both _ _ (both _ _ formed).0).1) (value_text-bytes e.1 (both _ _ formed).1)

entries-bytes : (es : List Entry) → list_all is_entry es ≡ true → list_all (λ l. list_all is_line_byte l) (map entry_line es) ≡ true
entries-bytes [] all = refl
entries-bytes (e ∷ es) all = and_true _ _ (entry-bytes e (both _ _ all).0) (entries-bytes es (both _ _ all).1)

group-bytes : (g : Group) → is_group g ≡ true → list_all (λ l. list_all is_line_byte l) (group_lines g) ≡ true
unfolding group_lines
group-bytes g formed = and_true _ _ (heading-bytes g.0 (both _ _ formed).0) (entries-bytes g.1 (both _ _ (both _ _ formed).1).0)

more-bytes : (gs : List Group) → list_all is_group gs ≡ true → list_all (λ l. list_all is_line_byte l) (more_lines gs) ≡ true
unfolding more_lines
more-bytes [] all = refl
more-bytes (g ∷ gs) all = list_all-append (λ l. list_all is_line_byte l) ([] ∷ group_lines g) (more_lines gs) ∙ and_true _ _ (group-bytes g (both _ _ all).0) (more-bytes gs (both _ _ all).1)

canonical-bytes : (gs : List Group) → list_all is_group gs ≡ true → list_all (λ l. list_all is_line_byte l) (canonical_lines gs) ≡ true
unfolding canonical_lines
canonical-bytes [] all = refl
canonical-bytes (g ∷ gs) all = list_all-append (λ l. list_all is_line_byte l) (group_lines g) (more_lines gs) ∙ and_true _ _ (group-bytes g (both _ _ all).0) (more-bytes gs (both _ _ all).1)

-- ---- what they say

not_silent : (b : ℕ) (rest : Text) → (b == 35) ≡ false → is_silent (b ∷ rest) ≡ false
not_silent b rest h = ap (λ (t : Bool). t || (b == 35)) (some_bytes (length rest)) ∙ h
  where
    some_bytes : (n : ℕ) → (suc n == 0) ≡ false
    some_bytes n = grind (arith, nat_tests)

heading-said : (name : Text) → is_name name ≡ true → line_of (91 ∷ name ++ 93 ∷ []) ≡ heading name
heading-said name formed =
    ap unindented_line (after_blanks-plain 91 (name ++ 93 ∷ []) refl)
    ∙ (ap (λ (t : Bool). if t then nothing else heading_or_entry (heading_of (91 ∷ name ++ 93 ∷ [])) (entry_of (91 ∷ name ++ 93 ∷ []))) (not_silent 91 (name ++ 93 ∷ []) refl)
    ∙ ap (λ (o : Option Text). heading_or_entry o (entry_of (91 ∷ name ++ 93 ∷ []))) found)
  where
    found : heading_of (91 ∷ name ++ 93 ∷ []) ≡ Some name
    found = ap bracket_name (before_blanks-plain (91 ∷ name) 93 refl) ∙ (bracket_name-name name ∙ ap (λ (b : Bool). if b then Some name else None) formed)

-- a key begins and ends with no blank, and with no sign of another kind of line
key_byte-no : (b : ℕ) → is_key_byte b ≡ true → (is_blank b ≡ false) × ((b == 35) ≡ false) × ((b == 91) ≡ false) × ((b == 61) ≡ false)
key_byte-no b h = (grind (arith, nat_tests), grind (arith, nat_tests), grind (arith, nat_tests), grind (arith, nat_tests))

key-back : (key : Text) → list_all is_key_byte key ≡ true → before_blanks key ≡ key
key-back key formed = before_blanks-none key (λ front is. ends front 32 refl is) (λ front is. ends front 9 refl is)
  where
    ends : (front : Text) (b : ℕ) → is_key_byte b ≡ false → key ≡ front ++ b ∷ [] → ⊥
    ends front b none is =
        let all : (list_all is_key_byte front && (is_key_byte b && true)) ≡ true = sym (list_all-append is_key_byte front (b ∷ [])) ∙ (ap (list_all is_key_byte) (sym is) ∙ formed) in
        let last : (is_key_byte b && true) ≡ true = (both (list_all is_key_byte front) (is_key_byte b && true) all).1 in
        absurd (false≢true (sym none ∙ (both (is_key_byte b) true last).0))

position-key : (key rest : Text) → list_all is_key_byte key ≡ true → position_or_len (λ b. b == 61) (key ++ 61 ∷ rest) ≡ length key
position-key [] rest formed = refl
position-key (b ∷ more) rest formed =
    ap (λ (t : Bool). cond (not t) (1 + position_or_len (λ c. c == 61) (more ++ 61 ∷ rest)) 0) (key_byte-no b (both _ _ formed).0).3
    ∙ (ap (λ (n : ℕ). 1 + n) (position-key more rest (both _ _ formed).1) ∙ next)
  where
    next : 1 + length more ≡ suc (length more)
    next = omega arith

drop-key : (key rest : Text) → drop (length key + 1) (key ++ 61 ∷ rest) ≡ rest
drop-key [] rest = refl
drop-key (b ∷ more) rest = ap (λ (n : ℕ). drop n (b ∷ (more ++ 61 ∷ rest))) next ∙ drop-key more rest
  where
    next : suc (length more) + 1 ≡ suc (length more + 1)
    next = omega arith

take_first : (m b : ℕ) (rest x : Text) → take m (b ∷ rest) ≡ 91 ∷ x → b ≡ 91
take_first zero b rest x is = cc
take_first (suc m) b rest x is = cc

entry-said : (key value : Text) → is_key key ≡ true → is_entry_value value ≡ true → line_of (key ++ 61 ∷ value_text value) ≡ entry key (value_text value)
entry-said [] value formed fits = absurd (false≢true formed)
entry-said (b ∷ more) value formed fits =
    ap unindented_line (after_blanks-plain b (more ++ 61 ∷ w) signs.0)
    ∙ (ap (λ (t : Bool). if t then nothing else heading_or_entry (heading_of text) (entry_of text)) (not_silent b (more ++ 61 ∷ w) signs.1)
    ∙ (ap (λ (o : Option Text). heading_or_entry o (entry_of text)) no_heading
    ∙ ap (heading_or_entry None) found))
  where
    w : Text
    w = value_text value

    text : Text
    text = b ∷ (more ++ 61 ∷ w)

    bytes : list_all is_key_byte (b ∷ more) ≡ true
    bytes = (both (not (length (b ∷ more) == 0)) (list_all is_key_byte (b ∷ more)) formed).1

    signs : (is_blank b ≡ false) × ((b == 35) ≡ false) × ((b == 91) ≡ false) × ((b == 61) ≡ false)
    signs = key_byte-no b (both (is_key_byte b) (list_all is_key_byte more) bytes).0

    no_heading : heading_of text ≡ None
    no_heading = bracket_name-none (before_blanks text) (λ is. other_number b 91 signs.2 (take_first (length text - suffix_len is_blank text) b (more ++ 61 ∷ w) (inner (before_blanks text) ++ 93 ∷ []) is))

    place : position (λ c. c == 61) text ≡ Some (length (b ∷ more))
    place =
        ap (λ (n : ℕ). cond (nat_lt n (length text)) (Some n) None) (position-key (b ∷ more) w bytes)
        ∙ ap (λ (t : Bool). cond t (Some (length (b ∷ more))) None) within
      where
        below : (m n : ℕ) → m < n → nat_lt m n ≡ true
        below m n h = grind (arith, nat_tests)

        within : nat_lt (length (b ∷ more)) (length text) ≡ true
        within = below (length (b ∷ more)) (length text) (omega (arith, length-append more (61 ∷ w)))

    found : entry_of text ≡ Some (b ∷ more, w)
    found =
        ap (option_and_then (λ at. entry_from (before_blanks (take at text)) (after_blanks (drop (at + 1) text)))) place
        ∙ (ap (λ (t : Text). entry_from (before_blanks t) (after_blanks (drop (length (b ∷ more) + 1) text))) (take-append_seam (b ∷ more) (61 ∷ w))
        ∙ (ap (λ (t : Text). entry_from t (after_blanks (drop (length (b ∷ more) + 1) text))) (key-back (b ∷ more) bytes)
        ∙ (ap (λ (t : Text). entry_from (b ∷ more) (after_blanks t)) (drop-key (b ∷ more) w)
        ∙ (ap (entry_from (b ∷ more)) (value_text-front value)
        ∙ ap (λ (t : Bool). if t then Some (b ∷ more, w) else None) (and_true _ _ formed (value_text-bytes value fits))))))

-- ---- reading them

entry_said : Entry → Line
entry_said e = entry e.0 (value_text e.1)

group_said : Group → List Line
group_said g = heading g.0 ∷ map entry_said g.1

more_said : List Group → List Line
more_said gs = flat_map (λ g. nothing ∷ group_said g) gs

canonical_said : List Group → List Line
canonical_said [] = []
canonical_said (g ∷ gs) = group_said g ++ more_said gs

entries-said : (es : List Entry) → list_all is_entry es ≡ true → map line_of (map entry_line es) ≡ map entry_said es
unfolding entry_line entry_said
entries-said [] all = refl
entries-said (e ∷ es) all =
    let parts = both _ _ (both _ _ all).0 in
    ap (λ (l : Line). l ∷ map line_of (map entry_line es)) (entry-said e.0 e.1 parts.0 parts.1) ∙ ap (λ (t : List Line). entry_said e ∷ t) (entries-said es (both _ _ all).1)

group-said : (g : Group) → is_group g ≡ true → map line_of (group_lines g) ≡ group_said g
unfolding group_lines group_said
group-said g formed =
    ap (λ (l : Line). l ∷ map line_of (map entry_line g.1)) (heading-said g.0 (both _ _ formed).0)
    ∙ ap (λ (t : List Line). heading g.0 ∷ t) (entries-said g.1 (both _ _ (both _ _ formed).1).0)

more-said : (gs : List Group) → list_all is_group gs ≡ true → map line_of (more_lines gs) ≡ more_said gs
unfolding more_lines more_said
more-said [] all = refl
more-said (g ∷ gs) all =
    map-append line_of ([] ∷ group_lines g) (more_lines gs)
    ∙ (ap (λ (t : List Line). (nothing ∷ t) ++ map line_of (more_lines gs)) (group-said g (both _ _ all).0)
    ∙ ap (λ (t : List Line). (nothing ∷ group_said g) ++ t) (more-said gs (both _ _ all).1))

canonical-said : (gs : List Group) → list_all is_group gs ≡ true → map line_of (canonical_lines gs) ≡ canonical_said gs
unfolding canonical_lines canonical_said
canonical-said [] all = refl
canonical-said (g ∷ gs) all =
    map-append line_of (group_lines g) (more_lines gs)
    ∙ (ap (λ (t : List Line). t ++ map line_of (more_lines gs)) (group-said g (both _ _ all).0)
    ∙ ap (λ (t : List Line). group_said g ++ t) (more-said gs (both _ _ all).1))

-- a new key goes last
put_entry-push : (es : List Entry) (k v : Text) → is_in (map (λ e. e.0) es) k ≡ false → put_entry es k v ≡ es ++ (k, v) ∷ []
put_entry-push [] k v new = refl
put_entry-push (e ∷ es) k v new = go (λ h. put_entry-push es k v h) (bytes_eq k e.0) new
  where
    go : (is_in (map (λ d. d.0) es) k ≡ false → put_entry es k v ≡ es ++ (k, v) ∷ []) → (b : Bool) → (b || is_in (map (λ d. d.0) es) k) ≡ false → (if b then (e.0, v) ∷ es else e ∷ put_entry es k v) ≡ e ∷ (es ++ (k, v) ∷ [])
    go deep true h = absurd (false≢true (sym h))
    go deep false h = ap (λ (t : List Entry). e ∷ t) (deep h)

-- of distinct texts none stands among those before it
distinct-before : (xs : List Text) (x : Text) (ys : List Text) → all_distinct (xs ++ x ∷ ys) ≡ true → is_in xs x ≡ false
distinct-before [] x ys once = refl
distinct-before (y ∷ more) x ys once = go (distinct-before more x ys (both _ _ once).1) (bytes_eq x y) refl
  where
    absent : is_in (more ++ x ∷ ys) y ≡ false
    absent = not_true _ (both _ _ once).0

    among : (zs : List Text) → is_in (zs ++ x ∷ ys) x ≡ true
    among [] = ap (λ (b : Bool). b || is_in ys x) (equal_text x x refl)
    among (z ∷ zs) = ap (λ (b : Bool). bytes_eq x z || b) (among zs) ∙ or_true (bytes_eq x z)
      where
        or_true : (b : Bool) → (b || true) ≡ true
        or_true true = refl
        or_true false = refl

    go : is_in more x ≡ false → (b : Bool) → bytes_eq x y ≡ b → (b || is_in more x) ≡ false
    go deep true h = absurd (false≢true (sym absent ∙ (ap (is_in (more ++ x ∷ ys)) (sym (same_text x y h)) ∙ among more)))
    go deep false h = deep

-- the entries of the last group
entries-read : (gs : List Group) (n : Text) (es rest : List Entry) (more : List Line) (all : Result (List Group) KeyFault) → all_distinct (map (λ e. e.0) (es ++ rest)) ≡ true
    → ((c : ℕ) → after (gs ++ (n, es ++ rest) ∷ []) (Some (length gs)) c more ≡ all)
    → (c : ℕ) → after (gs ++ (n, es) ∷ []) (Some (length gs)) c (map entry_said rest ++ more) ≡ all
unfolding entry_said
entries-read gs n es [] more all once then_ c = ap (λ (t : List Entry). after (gs ++ (n, t) ∷ []) (Some (length gs)) c more) (sym (append-nil es)) ∙ then_ c
entries-read gs n es (e ∷ rest) more all once then_ c =
    after-good (gs ++ (n, es) ∷ []) (Some (length gs)) c (entry_said e) (map entry_said rest ++ more) (gs ++ (n, es ++ e ∷ []) ∷ []) (Some (length gs)) taken
    ∙ entries-read gs n (es ++ e ∷ []) rest more all
    (ap (λ (t : List Entry). all_distinct (map (λ d. d.0) t)) (append_assoc es (e ∷ []) rest) ∙ once)
    (λ d. ap (λ (t : List Entry). after (gs ++ (n, t) ∷ []) (Some (length gs)) d more) (append_assoc es (e ∷ []) rest) ∙ then_ d) (c + 1)
  where
    new : is_in (map (λ d. d.0) es) e.0 ≡ false
    new = distinct-before (map (λ d. d.0) es) e.0 (map (λ d. d.0) rest) (ap all_distinct (sym (map-append (λ (d : Entry). d.0) es (e ∷ rest))) ∙ once)

    taken : after_line (gs ++ (n, es) ∷ []) (Some (length gs)) (c + 1) (entry e.0 (value_text e.1)) ≡ Ok (gs ++ (n, es ++ e ∷ []) ∷ [], Some (length gs))
    taken =
        ap (after_entry (gs ++ (n, es) ∷ []) (length gs) (c + 1) e.0) (unescape-value_text e.1)
        ∙ ap (λ (t : List Group). Ok (t, Some (length gs))) (put_at-last gs n es e.0 e.1 ∙ ap (λ (t : List Entry). gs ++ (n, t) ∷ []) (put_entry-push es e.0 e.1 new))

-- a group
group-read : (gs : List Group) (g : Group) (at : Option ℕ) (more : List Line) (all : Result (List Group) KeyFault) → has_group gs g.0 ≡ false → all_distinct (map (λ e. e.0) g.1) ≡ true
    → ((c : ℕ) → after (gs ++ g ∷ []) (Some (length gs)) c more ≡ all)
    → (c : ℕ) → after gs at c (group_said g ++ more) ≡ all
unfolding group_said
group-read gs g at more all new once then_ c =
    after-good gs at c (heading g.0) (map entry_said g.1 ++ more) (gs ++ (g.0, []) ∷ []) (Some (length gs)) taken
    ∙ entries-read gs g.0 [] g.1 more all once then_ (c + 1)
  where
    taken : after_line gs at (c + 1) (heading g.0) ≡ Ok (gs ++ (g.0, []) ∷ [], Some (length gs))
    taken = ap (λ (t : List Group). Ok (t, Some (group_place gs g.0))) (with_group-new gs g.0 new) ∙ ap (λ (i : ℕ). Ok (gs ++ (g.0, []) ∷ [], Some i)) (group_place-new gs g.0 new)

-- the groups
more-read : (done gs : List Group) (at : Option ℕ) → list_all is_group gs ≡ true → all_distinct (map (λ g. g.0) (done ++ gs)) ≡ true → (c : ℕ) → after done at c (more_said gs) ≡ Ok (done ++ gs)
unfolding more_said
more-read done [] at all once c = ap (λ (t : List Group). Ok t) (sym (append-nil done))
more-read done (g ∷ gs) at all once c =
    group-read done g at (more_said gs) (Ok (done ++ g ∷ gs)) new (both _ _ (both _ _ (both _ _ all).0).1).1
    (λ d. more-read (done ++ g ∷ []) gs (Some (length done)) (both _ _ all).1 (ap (λ (t : List Group). all_distinct (map (λ h. h.0) t)) (append_assoc done (g ∷ []) gs) ∙ once) d
    ∙ ap (λ (t : List Group). Ok t) (append_assoc done (g ∷ []) gs)) (c + 1)
  where
    new : has_group done g.0 ≡ false
    new = has_group-names done g.0 ∙ distinct-before (map (λ h. h.0) done) g.0 (map (λ h. h.0) gs) (ap all_distinct (sym (map-append (λ (h : Group). h.0) done (g ∷ gs))) ∙ once)

canonical-read : (gs : List Group) → is_key_file gs ≡ true → after [] None 0 (canonical_said gs) ≡ Ok gs
unfolding canonical_said
canonical-read [] kept = refl
canonical-read (g ∷ gs) kept =
    group-read [] g None (more_said gs) (Ok (g ∷ gs)) refl (both _ _ (both _ _ (both _ _ (both _ _ kept).0).0).1).1
    (λ c. more-read (g ∷ []) gs (Some 0) (both _ _ (both _ _ kept).0).1 (both _ _ kept).1 c) 0

-- the whole
pub read_of-canonical : (gs : List Group) → is_key_file gs ≡ true → IsUtf8 (canonical gs) → length (canonical gs) ≤ 1048576 → read_of (canonical gs) ≡ Ok gs
read_of-canonical gs kept text small =
    read_of-text (canonical gs) small text
    ∙ (ap (λ (t : Text). read_lines_of (map line_of (lines t))) (canonical-lines gs)
    ∙ (ap (λ (ls : List Text). read_lines_of (map line_of ls)) (lines-text (canonical_lines gs) (canonical-bytes gs (both _ _ kept).0))
    ∙ (ap read_lines_of (canonical-said gs (both _ _ kept).0)
    ∙ (sym (after-read_lines_of (canonical_said gs)) ∙ canonical-read gs kept))))
