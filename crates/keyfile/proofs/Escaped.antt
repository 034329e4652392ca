-- Values as they are written, read again.
use Rattle.std.proofs.Common.{lit<, ◌≡◌, ◌∙◌, ◌≤◌, ◌<◌, ◌==◌, inl, inr, ap, sym, refl, subst, ℕ, Bool, true, false, ◌||◌, cond, List, [], ◌∷◌, ◌++◌, get_or, length, ◌+◌, ◌/◌, ◌%◌, zero, suc, Option, Some, None, option_map, if◌then◌else◌, arith}
use Rattle.std.specs.List.{flat_map, list_all}
use Rattle.std.specs.Str.{IsUtf8}
use Rattle.std.specs.Prelude.{nat_le, nat_lt}
use Rattle.std.proofs.Math.Utf8.{encode, encodes, scalar, scalars}
use Rattle.std.proofs.lemmas.Bool.{cases_lt, false≢true}
use Rattle.std.proofs.lemmas.Bool.Decides.{Decides-eqb, nat_tests}
use Rattle.std.proofs.lemmas.Grind.{flat_map-append}
use Rattle.std.proofs.lemmas.List.{append-nil}
use Rattle.std.proofs.lemmas.List.Folds.{list_all-append}
use Rattle.std.proofs.lemmas.Str.{IsUtf8-append, IsUtf8-encode, IsUtf8-from_ascii, IsUtf8-nil, char_from_byte, encode_ascii}
use Rattle.keyfile.proofs.Bools.{and_true, both}
use Rattle.keyfile.proofs.Escaping.{unescape-other}
use Rattle.keyfile.proofs.LineForms.{after_blanks-plain}
use Rattle.keyfile.specs.Escapes.{escape, cons_both, unescape, value_text}
use Rattle.keyfile.specs.Groups.{Text, is_line_byte, is_entry_value, is_value_byte}
use Rattle.keyfile.specs.Lines.{after_blanks}

pub same_number : (a b : ℕ) → (a == b) ≡ true → a ≡ b
same_number a b h = (Decides-eqb a b).0 h

pub other_number : (a b : ℕ) → (a == b) ≡ false → a ≡ b → ⊥
other_number a b h is = false≢true (sym h ∙ (Decides-eqb a b).1 is)

led_is : (b : ℕ) (u : Option Text) → cons_both (Some b) u ≡ option_map (λ text. b ∷ text) u
led_is b None = refl
led_is b (Some t) = refl

-- an escaped byte is read again
unescape-escape : (b : ℕ) (rest : Text) → unescape (escape b ++ rest) ≡ option_map (λ text. b ∷ text) (unescape rest)
unescape-escape b rest = go (b == 10) refl (b == 9) refl (b == 13) refl (b == 92) refl
  where
    by : (c : ℕ) → (b == c) ≡ true → cons_both (Some c) (unescape rest) ≡ option_map (λ text. b ∷ text) (unescape rest)
    by c h = led_is c (unescape rest) ∙ ap (λ (n : ℕ). option_map (λ (text : Text). n ∷ text) (unescape rest)) (sym (same_number b c h))

    go : (p : Bool) → (b == 10) ≡ p → (q : Bool) → (b == 9) ≡ q → (r : Bool) → (b == 13) ≡ r → (s : Bool) → (b == 92) ≡ s
        → unescape ((if p then 92 ∷ 110 ∷ [] else if q then 92 ∷ 116 ∷ [] else if r then 92 ∷ 114 ∷ [] else if s then 92 ∷ 92 ∷ [] else b ∷ []) ++ rest) ≡ option_map (λ text. b ∷ text) (unescape rest)
    go true e q f r g s h = by 10 e
    go false e true f r g s h = by 9 f
    go false e false f true g s h = by 13 g
    go false e false f false g true h = by 92 h
    go false e false f false g false h = unescape-other b rest (other_number b 92 h)

unescape-escapes : (value : Text) → unescape (flat_map escape value) ≡ Some value
unescape-escapes [] = refl
unescape-escapes (b ∷ more) = unescape-escape b (flat_map escape more) ∙ ap (option_map (λ (text : Text). b ∷ text)) (unescape-escapes more)

-- a written value is read again
pub unescape-value_text : (value : Text) → unescape (value_text value) ≡ Some value
unescape-value_text [] = refl
unescape-value_text (b ∷ more) = go (unescape-value_text more) (b == 32) refl
  where
    go : unescape (value_text more) ≡ Some more → (p : Bool) → (b == 32) ≡ p → unescape (if p then 92 ∷ 115 ∷ value_text more else escape b ++ flat_map escape more) ≡ Some (b ∷ more)
    go deep true h = ap (cons_both (Some 32)) deep ∙ ap (λ (n : ℕ). Some (n ∷ more)) (sym (same_number b 32 h))
    go deep false h = unescape-escape b (flat_map escape more) ∙ ap (option_map (λ (text : Text). b ∷ text)) (unescape-escapes more)

-- its bytes may stand in a line
escape-bytes : (b : ℕ) → is_value_byte b ≡ true → list_all is_line_byte (escape b) ≡ true
escape-bytes b formed = go (b == 10) refl (b == 9) (b == 13) refl (b == 92) formed
  where
    go : (p : Bool) → (b == 10) ≡ p → (q : Bool) → (r : Bool) → (b == 13) ≡ r → (s : Bool) → (is_line_byte b || ((b == 10) || (b == 13))) ≡ true
        → list_all is_line_byte (if p then 92 ∷ 110 ∷ [] else if q then 92 ∷ 116 ∷ [] else if r then 92 ∷ 114 ∷ [] else if s then 92 ∷ 92 ∷ [] else b ∷ []) ≡ true
    go true e q r g s h = refl
    go false e true r g s h = refl
    go false e false true g s h = refl
    go false e false false g true h = refl
    go false e false false g false h = and_true _ _ (alone (is_line_byte b) (ap (λ (t : Bool). is_line_byte b || (t || false)) (sym e) ∙ (ap (λ (t : Bool). is_line_byte b || ((b == 10) || t)) (sym g) ∙ h))) refl
      where
        alone : (t : Bool) → (t || (false || false)) ≡ true → t ≡ true
        alone true k = refl
        alone false k = k

escapes-bytes : (value : Text) → is_entry_value value ≡ true → list_all is_line_byte (flat_map escape value) ≡ true
escapes-bytes [] formed = refl
escapes-bytes (b ∷ more) formed =
    list_all-append is_line_byte (escape b) (flat_map escape more) ∙ and_true _ _ (escape-bytes b (both _ _ formed).0) (escapes-bytes more (both _ _ formed).1)

pub value_text-bytes : (value : Text) → is_entry_value value ≡ true → list_all is_line_byte (value_text value) ≡ true
value_text-bytes [] formed = refl
value_text-bytes (b ∷ more) formed = go (value_text-bytes more (both _ _ formed).1) (b == 32)
  where
    go : list_all is_line_byte (value_text more) ≡ true → (p : Bool) → list_all is_line_byte (if p then 92 ∷ 115 ∷ value_text more else escape b ++ flat_map escape more) ≡ true
    go deep true = deep
    go deep false = escapes-bytes (b ∷ more) formed

-- it begins with no blank
pub value_text-front : (value : Text) → after_blanks (value_text value) ≡ value_text value
value_text-front [] = refl
value_text-front (b ∷ more) = go (b == 32) refl
  where
    rest : Text
    rest = flat_map escape more

    behind : (p q : Bool) → (b == 9) ≡ q → (r s : Bool) → (b == 32) ≡ false
        → after_blanks ((if p then 92 ∷ 110 ∷ [] else if q then 92 ∷ 116 ∷ [] else if r then 92 ∷ 114 ∷ [] else if s then 92 ∷ 92 ∷ [] else b ∷ []) ++ rest)
        ≡ (if p then 92 ∷ 110 ∷ [] else if q then 92 ∷ 116 ∷ [] else if r then 92 ∷ 114 ∷ [] else if s then 92 ∷ 92 ∷ [] else b ∷ []) ++ rest
    behind true q f r s h = after_blanks-plain 92 (110 ∷ rest) refl
    behind false true f r s h = after_blanks-plain 92 (116 ∷ rest) refl
    behind false false f true s h = after_blanks-plain 92 (114 ∷ rest) refl
    behind false false f false true h = after_blanks-plain 92 (92 ∷ rest) refl
    behind false false f false false h = after_blanks-plain b rest (ap (λ (t : Bool). t || (b == 9)) h ∙ f)

    go : (p : Bool) → (b == 32) ≡ p → after_blanks (if p then 92 ∷ 115 ∷ value_text more else escape b ++ rest) ≡ (if p then 92 ∷ 115 ∷ value_text more else escape b ++ rest)
    go true h = after_blanks-plain 92 (115 ∷ value_text more) refl
    go false h = behind (b == 10) (b == 9) refl (b == 13) (b == 92) h

-- ---- it is text

escape-wide : (b : ℕ) → 128 ≤ b → escape b ≡ b ∷ []
escape-wide b wide = grind (arith, nat_tests)

escape-ascii : (b : ℕ) → b < 128 → IsUtf8 (escape b)
escape-ascii b narrow = IsUtf8-from_ascii (escape b) (λ i. go i (b == 10) (b == 9) (b == 13) (b == 92))
  where
    two : (x y : ℕ) → x < 128 → y < 128 → (i : ℕ) → get_or (x ∷ y ∷ []) i 0 < 128
    two x y h k zero = h
    two x y h k (suc zero) = k
    two x y h k (suc (suc i)) = lit< tt

    one : (x : ℕ) → x < 128 → (i : ℕ) → get_or (x ∷ []) i 0 < 128
    one x h zero = h
    one x h (suc i) = lit< tt

    go : (i : ℕ) → (p q r s : Bool) → get_or (if p then 92 ∷ 110 ∷ [] else if q then 92 ∷ 116 ∷ [] else if r then 92 ∷ 114 ∷ [] else if s then 92 ∷ 92 ∷ [] else b ∷ []) i 0 < 128
    go i true q r s = two 92 110 (lit< tt) (lit< tt) i
    go i false true r s = two 92 116 (lit< tt) (lit< tt) i
    go i false false true s = two 92 114 (lit< tt) (lit< tt) i
    go i false false false true = two 92 92 (lit< tt) (lit< tt) i
    go i false false false false = one b narrow i

escapes-wide : (bs : Text) → list_all (λ b. nat_le 128 b) bs ≡ true → flat_map escape bs ≡ bs
escapes-wide [] h = refl
escapes-wide (b ∷ more) h = ap (λ (t : Text). t ++ flat_map escape more) (escape-wide b (from_test 128 b (both _ _ h).0)) ∙ ap (λ (t : Text). b ∷ t) (escapes-wide more (both _ _ h).1)
  where
    from_test : (m n : ℕ) → nat_le m n ≡ true → m ≤ n
    from_test m n e = grind (arith, nat_tests)

-- the bytes of a character that is not ASCII
encode-wide : (c : ℕ) → 128 ≤ c → list_all (λ b. nat_le 128 b) (encode c) ≡ true
unfolding encode
encode-wide c wide = go (nat_lt c 128) (nat_lt c 2048) (nat_lt c 65536) refl
  where
    at_least : (n : ℕ) → 128 ≤ n → nat_le 128 n ≡ true
    at_least n h = grind (arith, nat_tests)

    apart : nat_lt c 128 ≡ true → ⊥
    apart h = absurd (false≢true (sym (not_below c wide) ∙ h))
      where
        not_below : (n : ℕ) → 128 ≤ n → nat_lt n 128 ≡ false
        not_below n k = grind (arith, nat_tests)

    two : (x y : ℕ) → 128 ≤ x → 128 ≤ y → list_all (λ b. nat_le 128 b) (x ∷ y ∷ []) ≡ true
    two x y h k = and_true _ _ (at_least x h) (and_true _ _ (at_least y k) refl)

    go : (p q r : Bool) → nat_lt c 128 ≡ p → list_all (λ b. nat_le 128 b) (cond p (c ∷ []) (cond q ((192 + c / 64) ∷ (128 + c % 64) ∷ []) (cond r ((224 + c / 4096) ∷ (128 + (c / 64) % 64) ∷ (128 + c % 64) ∷ []) ((240 + c / 262144) ∷ (128 + (c / 4096) % 64) ∷ (128 + (c / 64) % 64) ∷ (128 + c % 64) ∷ [])))) ≡ true
    go true q r h = absurd (apart h)
    go false true r h = two (192 + c / 64) (128 + c % 64) (omega arith) (omega arith)
    go false false true h = and_true _ _ (at_least (224 + c / 4096) (omega arith)) (two (128 + (c / 64) % 64) (128 + c % 64) (omega arith) (omega arith))
    go false false false h = and_true _ _ (at_least (240 + c / 262144) (omega arith)) (and_true _ _ (at_least (128 + (c / 4096) % 64) (omega arith)) (two (128 + (c / 64) % 64) (128 + c % 64) (omega arith) (omega arith)))

escapes-encode : (c : ℕ) → scalar c ≡ true → IsUtf8 (flat_map escape (encode c))
escapes-encode c valid =
    elim (cases_lt c 128) [
      | inl narrow ↦ subst IsUtf8 (sym (ap (flat_map escape) (encode_ascii c narrow) ∙ append-nil (escape c))) (escape-ascii c narrow)
      | inr wide ↦ subst IsUtf8 (sym (escapes-wide (encode c) (encode-wide c wide))) (IsUtf8-encode c valid)
    ]

escapes-encodes : (cs : List ℕ) → scalars cs ≡ true → IsUtf8 (flat_map escape (encodes cs))
escapes-encodes [] valid = IsUtf8-nil
escapes-encodes (c ∷ cs) valid =
    subst IsUtf8 (sym (flat_map-append escape (encode c) (encodes cs)))
    (IsUtf8-append (flat_map escape (encode c)) (flat_map escape (encodes cs)) (escapes-encode c (both _ _ valid).0) (escapes-encodes cs (both _ _ valid).1))

-- behind another byte than a space, all is escaped alike
value_text-other : (bs : Text) → (get_or bs 0 0 ≡ 32 → ⊥) → value_text bs ≡ flat_map escape bs
value_text-other [] apart = refl
value_text-other (b ∷ more) apart = go (b == 32) refl
  where
    go : (p : Bool) → (b == 32) ≡ p → (if p then 92 ∷ 115 ∷ value_text more else escape b ++ flat_map escape more) ≡ escape b ++ flat_map escape more
    go true h = absurd (apart (same_number b 32 h))
    go false h = refl

some_there : (bs : Text) → get_or bs 0 0 ≡ 32 → 0 < length bs
some_there [] is = absurd (omega arith)
some_there (b ∷ more) is = omega arith

value_text-encodes : (cs : List ℕ) → scalars cs ≡ true → IsUtf8 (value_text (encodes cs))
value_text-encodes [] valid = IsUtf8-nil
value_text-encodes (c ∷ cs) valid = go (value_text-encodes cs (both _ _ valid).1) (c == 32) refl
  where
    space : IsUtf8 (92 ∷ 115 ∷ [])
    space = IsUtf8-from_ascii (92 ∷ 115 ∷ []) two
      where
        two : (i : ℕ) → get_or (92 ∷ 115 ∷ []) i 0 < 128
        two zero = lit< tt
        two (suc zero) = lit< tt
        two (suc (suc i)) = lit< tt

    go : IsUtf8 (value_text (encodes cs)) → (p : Bool) → (c == 32) ≡ p → IsUtf8 (value_text (encode c ++ encodes cs))
    go deep true h = subst (λ (t : Text). IsUtf8 (value_text (t ++ encodes cs))) (sym (encode_ascii c (omega (arith, same_number c 32 h)) ∙ ap (λ (n : ℕ). n ∷ []) (same_number c 32 h))) (IsUtf8-append (92 ∷ 115 ∷ []) (value_text (encodes cs)) space deep)
    go deep false h = subst IsUtf8 (sym (value_text-other (encode c ++ encodes cs) (λ is. other_number c 32 h (char_from_byte (encode c ++ encodes cs) (encodes cs) c refl (omega (arith, is)) (some_there (encode c ++ encodes cs) is) ∙ is)))) (escapes-encodes (c ∷ cs) valid)

pub value_text-text : (value : Text) → IsUtf8 value → IsUtf8 (value_text value)
value_text-text value text = subst (λ (t : Text). IsUtf8 (value_text t)) text.1.1 (value_text-encodes text.0 text.1.0)
