-- Values as they are written, and read.
use Rattle.std.proofs.Common.{◌≡◌, ◌<◌, ◌≤◌, ◌==◌, inl, inr, ℕ, Bool, true, false, [], ◌∷◌, ◌++◌, ◌||◌, length, get_or, Option, Some, None, option_map, if◌then◌else◌, refl, sym, ap, ◌∙◌, arith, suc, append_assoc}
use Rattle.std.proofs.lemmas.Bool.{cases_lt}
use Rattle.std.proofs.lemmas.Bool.Decides.{nat_tests}
use Rattle.std.proofs.lemmas.List.{append-nil}
use Rattle.std.proofs.lemmas.Str.{lead_after_ascii}
use Rattle.std.specs.List.{list_all}
use Rattle.std.specs.Option.{option_map_or}
use Rattle.std.specs.Str.{IsCharBoundary, IsUtf8}
use Rattle.keyfile.proofs.Bools.{and_true, both}
use Rattle.keyfile.specs.Escapes.{escape_at, letter_byte, cons_both, unescape}
use Rattle.keyfile.specs.Groups.{Text, is_line_byte, is_value_byte}

some_same : (a b : Text) → Some a ≡ Some b → a ≡ b
some_same a b h = cc

-- a letter of an escape is ASCII
letter_byte-wide : (c : ℕ) → 128 ≤ c → letter_byte c ≡ None
letter_byte-wide c wide = grind (arith, nat_tests)

-- where the text may not be cut behind its first byte, no letter stands there
pub escape_at-uncut : (rest : Text) → IsUtf8 rest → (IsCharBoundary rest 1 → ⊥) → escape_at rest ≡ None
escape_at-uncut [] text apart = refl
escape_at-uncut (c ∷ more) text apart =
    elim (cases_lt c 128) [
      | inl narrow ↦ absurd (apart (omega arith, λ within wide. lead_after_ascii (c ∷ more) 0 text narrow within wide))
      | inr wide ↦ ap (option_map (λ (byte : ℕ). (byte, more))) (letter_byte-wide c wide)
    ]

-- no byte of a text is a backslash
abbrev pub IsPlain : Text → Type 0
IsPlain text = (i : ℕ) → i < length text → get_or text i 0 ≡ 92 → ⊥

not_backslash : (b : ℕ) → (b ≡ 92 → ⊥) → (b == 92) ≡ false
not_backslash b apart = grind (arith, nat_tests)

pub unescape-other : (b : ℕ) (rest : Text) → (b ≡ 92 → ⊥) → unescape (b ∷ rest) ≡ option_map (λ text. b ∷ text) (unescape rest)
unescape-other b [] apart = ap (λ (t : Bool). if t then None else Some (b ∷ [])) (not_backslash b apart)
unescape-other b (c ∷ more) apart = ap (λ (t : Bool). if t then cons_both (letter_byte c) (unescape more) else option_map (λ (text : Text). b ∷ text) (unescape (c ∷ more))) (not_backslash b apart)

onto_none : (o : Option Text) → option_map (λ (t : Text). [] ++ t) o ≡ o
onto_none None = refl
onto_none (Some t) = refl

onto_one : (b : ℕ) (front : Text) (o : Option Text) → option_map (λ (t : Text). b ∷ t) (option_map (λ (t : Text). front ++ t) o) ≡ option_map (λ (t : Text). b ∷ (front ++ t)) o
onto_one b front None = refl
onto_one b front (Some t) = refl

-- a front without backslashes stands for itself
unescape-plain : (plain rest : Text) → IsPlain plain → unescape (plain ++ rest) ≡ option_map (λ (t : Text). plain ++ t) (unescape rest)
unescape-plain [] rest none = sym (onto_none (unescape rest))
unescape-plain (b ∷ more) rest none =
    unescape-other b (more ++ rest) (none 0 (omega arith))
    ∙ (ap (option_map (λ (t : Text). b ∷ t)) (unescape-plain more rest (λ i within. none (suc i) (omega arith)))
    ∙ onto_one b more (unescape rest))

byte_in : Option (ℕ × Text) → ℕ
byte_in o = option_map_or (λ (p : ℕ × Text). p.0) o 0

rest_in : Option (ℕ × Text) → Text
rest_in o = option_map_or (λ (p : ℕ × Text). p.1) o []

same_parts : (a b : ℕ) (s t : Text) → ◌≡◌ {A = Option (ℕ × Text)} (Some (a, s)) (Some (b, t)) → (a ≡ b) × (s ≡ t)
unfolding byte_in rest_in
same_parts a b s t e = (ap byte_in e, ap rest_in e)

unescape-good : (rest after : Text) (b : ℕ) → Some (b, after) ≡ escape_at rest → unescape (92 ∷ rest) ≡ option_map (λ text. b ∷ text) (unescape after)
unescape-good [] after b is = cc
unescape-good (c ∷ more) after b is = go (letter_byte c) is (unescape more) refl
  where
    go : (o : Option ℕ) → ◌≡◌ {A = Option (ℕ × Text)} (Some (b, after)) (option_map (λ (byte : ℕ). (byte, more)) o) → (u : Option Text) → unescape more ≡ u → cons_both o (unescape more) ≡ option_map (λ (text : Text). b ∷ text) (unescape after)
    go None h u e = cc
    go (Some byte) h None e = let same : after ≡ more = (same_parts b byte after more h).1 in ap (cons_both (Some byte)) e ∙ ap (option_map (λ (text : Text). b ∷ text)) (sym (ap unescape same ∙ e))
    go (Some byte) h (Some t) e =
        let same : after ≡ more = (same_parts b byte after more h).1 in
        let byte_is : byte ≡ b = sym (same_parts b byte after more h).0 in
        ap (cons_both (Some byte)) e ∙ (ap (λ (x : ℕ). Some (x ∷ t)) byte_is ∙ ap (option_map (λ (text : Text). b ∷ text)) (sym (ap unescape same ∙ e)))

unescape-bad : (rest : Text) → None ≡ escape_at rest → unescape (92 ∷ rest) ≡ None
unescape-bad [] is = refl
unescape-bad (c ∷ more) is = go (letter_byte c) is
  where
    go : (o : Option ℕ) → ◌≡◌ {A = Option (ℕ × Text)} None (option_map (λ (byte : ℕ). (byte, more)) o) → cons_both o (unescape more) ≡ None
    go None h = refl
    go (Some byte) h = cc

-- what an escape stands for is ASCII
pub escape_at-narrow : (rest after : Text) (b : ℕ) → Some (b, after) ≡ escape_at rest → b < 128
escape_at-narrow [] after b is = cc
escape_at-narrow (c ∷ more) after b is = go (letter_byte c) refl is
  where
    narrow : (x : ℕ) → letter_byte c ≡ Some x → x < 128
    narrow x h = grind (arith, nat_tests)

    go : (o : Option ℕ) → letter_byte c ≡ o → ◌≡◌ {A = Option (ℕ × Text)} (Some (b, after)) (option_map (λ (byte : ℕ). (byte, more)) o) → b < 128
    go None e h = cc
    go (Some x) e h = omega (arith, narrow x e, (same_parts b x after more h).0)

-- what is read, and what is left, of a written value
abbrev pub read_on : Text → Text → Option Text
read_on value left = option_map (λ (t : Text). value ++ t) (unescape left)

pub read_on-start : (value written : Text) → value ≡ [] → read_on value written ≡ unescape written
read_on-start value written none = ap (λ (v : Text). read_on v written) none ∙ onto_none (unescape written)

pub read_on-turn : (value plain rest after left : Text) (b : ℕ) → left ≡ plain ++ (92 ∷ rest) → IsPlain plain → Some (b, after) ≡ escape_at rest → read_on ((value ++ plain) ++ b ∷ []) after ≡ read_on value left
read_on-turn value plain rest after left b whole none is =
    go (unescape after) ∙ ap (option_map (λ (t : Text). value ++ t)) (sym (ap unescape whole ∙ (unescape-plain plain (92 ∷ rest) none ∙ ap (option_map (λ (t : Text). plain ++ t)) (unescape-good rest after b is))))
  where
    go : (o : Option Text) → option_map (λ (t : Text). ((value ++ plain) ++ b ∷ []) ++ t) o ≡ option_map (λ (t : Text). value ++ t) (option_map (λ (t : Text). plain ++ t) (option_map (λ (t : Text). b ∷ t) o))
    go None = refl
    go (Some t) = ap (λ (x : Text). Some x) (append_assoc (value ++ plain) (b ∷ []) t ∙ append_assoc value plain (b ∷ t))

pub read_on-fault : (value plain rest left : Text) → left ≡ plain ++ (92 ∷ rest) → IsPlain plain → None ≡ escape_at rest → read_on value left ≡ None
read_on-fault value plain rest left whole none is =
    ap (option_map (λ (t : Text). value ++ t)) (ap unescape whole ∙ (unescape-plain plain (92 ∷ rest) none ∙ ap (option_map (λ (t : Text). plain ++ t)) (unescape-bad rest is)))

pub read_on-end : (value left : Text) → IsPlain left → read_on value left ≡ Some (value ++ left)
read_on-end value left none =
    ap (option_map (λ (t : Text). value ++ t)) (ap unescape (sym (append-nil left)) ∙ (unescape-plain left [] none ∙ ap (λ (x : Text). Some x) (append-nil left)))

-- ---- what is read may be a value

letter_byte-value : (c b : ℕ) → Some b ≡ letter_byte c → is_value_byte b ≡ true
letter_byte-value c b is = grind (arith, nat_tests)

line_byte-value : (b : ℕ) → is_line_byte b ≡ true → is_value_byte b ≡ true
line_byte-value b h = ap (λ (t : Bool). t || ((b == 10) || (b == 13))) h

pub unescape-value : (written value : Text) → list_all is_line_byte written ≡ true → unescape written ≡ Some value → list_all is_value_byte value ≡ true
unescape-value [] value formed is = ap (list_all is_value_byte) (sym (some_same [] value is))
unescape-value (b ∷ []) value formed is = last (b == 92) is
  where
    last : (t : Bool) → (if t then None else Some (b ∷ [])) ≡ Some value → list_all is_value_byte value ≡ true
    last true h = cc
    last false h = ap (list_all is_value_byte) (sym (some_same (b ∷ []) value h)) ∙ and_true _ _ (line_byte-value b (both _ _ formed).0) refl
unescape-value (b ∷ c ∷ more) value formed is =
    go (λ v h. unescape-value more v (both _ _ (both _ _ formed).1).1 h) (λ v h. unescape-value (c ∷ more) v (both _ _ formed).1 h) (b == 92) is
  where
    led : ((v : Text) → unescape more ≡ Some v → list_all is_value_byte v ≡ true) → (o : Option ℕ) → letter_byte c ≡ o → (u : Option Text) → unescape more ≡ u → cons_both o u ≡ Some value → list_all is_value_byte value ≡ true
    led deep None e u f h = cc
    led deep (Some byte) e None f h = cc
    led deep (Some byte) e (Some t) f h = ap (list_all is_value_byte) (sym (some_same (byte ∷ t) value h)) ∙ and_true _ _ (letter_byte-value c byte (sym e)) (deep t f)

    onto : ((v : Text) → unescape (c ∷ more) ≡ Some v → list_all is_value_byte v ≡ true) → (u : Option Text) → unescape (c ∷ more) ≡ u → option_map (λ (text : Text). b ∷ text) u ≡ Some value → list_all is_value_byte value ≡ true
    onto deep None f h = cc
    onto deep (Some t) f h = ap (list_all is_value_byte) (sym (some_same (b ∷ t) value h)) ∙ and_true _ _ (line_byte-value b (both _ _ formed).0) (deep t f)

    go : ((v : Text) → unescape more ≡ Some v → list_all is_value_byte v ≡ true) → ((v : Text) → unescape (c ∷ more) ≡ Some v → list_all is_value_byte v ≡ true)
        → (t : Bool) → (if t then cons_both (letter_byte c) (unescape more) else option_map (λ (text : Text). b ∷ text) (unescape (c ∷ more))) ≡ Some value → list_all is_value_byte value ≡ true
    go deep near true h = led deep (letter_byte c) refl (unescape more) refl h
    go deep near false h = onto near (unescape (c ∷ more)) refl h
