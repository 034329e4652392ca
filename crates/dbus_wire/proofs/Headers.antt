-- The header as bytes: four bytes, three numbers and the fields, whatever gaps are named.
use Rattle.std.proofs.Common.{◌≡◌, ℕ, suc, ◌+◌, ◌<◌, ◌≤◌, ◌^◌, max, Bool, true, false, List, [], ◌∷◌, ◌++◌, length, refl, sym, ap, subst, ◌∙◌, arith, inl}
use Rattle.std.proofs.lemmas.List.{append-nil, length-append}
use Rattle.wire_value.specs.Types.{byte, uint32, IsType, IsItemType, ty_basic, ty_variant, ty_array, ty_struct, and_kind, no_kinds, fixed}
use Rattle.wire_value.specs.Plain.{Plain, number, array, Plains, none, more, nests}
use Rattle.wire_value.specs.Spelling.{zeros, gap, word, alignment, spell, spells, IsValue, AreValues, AreOf, SpellsAll}
use Rattle.wire_value.proofs.Steps.{length-word}
use Rattle.wire_value.proofs.Growing.{word_8}
use Rattle.dbus_wire.specs.Spelling.{PlainMessage, order, field_type, header}

pub gap_1 : (n : ℕ) → gap 1 n ≡ 0
unfolding gap
gap_1 n = omega arith

pub gap_4 : gap 4 4 ≡ 0
unfolding gap
gap_4 = refl

pub gap_8 : gap 4 8 ≡ 0
unfolding gap
gap_8 = refl

pub gap_12 : gap 4 12 ≡ 0
unfolding gap
gap_12 = refl

gap_16 : gap (alignment field_type) 16 ≡ 0
unfolding gap alignment
gap_16 = refl

pub field_is : IsItemType field_type
field_is = inl (record { kind = ty_struct (ty_basic (fixed byte)) (and_kind ty_variant no_kinds); is = refl; arrays = omega arith; structs = omega arith })

pub byte_is : IsType (121 ∷ [])
byte_is = record { kind = ty_basic (fixed byte); is = refl; arrays = omega arith; structs = omega arith }

word_is : IsType (117 ∷ [])
word_is = record { kind = ty_basic (fixed uint32); is = refl; arrays = omega arith; structs = omega arith }

fields_is : IsType (97 ∷ field_type)
fields_is = record { kind = ty_array (ty_struct (ty_basic (fixed byte)) (and_kind ty_variant no_kinds)); is = refl; arrays = omega arith; structs = omega arith }

-- the values from each one on
abbrev at_fields : Plains → Plains
at_fields fs = more (array field_type fs) none

abbrev at_serial : ℕ → Plains → Plains
at_serial serial fs = more (number uint32 serial) (at_fields fs)

abbrev at_size : ℕ → ℕ → Plains → Plains
at_size size serial fs = more (number uint32 size) (at_serial serial fs)

abbrev at_version : ℕ → ℕ → Plains → Plains
at_version size serial fs = more (number byte 1) (at_size size serial fs)

abbrev at_flags : ℕ → ℕ → ℕ → Plains → Plains
at_flags f size serial fs = more (number byte f) (at_version size serial fs)

abbrev at_kind : ℕ → ℕ → ℕ → ℕ → Plains → Plains
at_kind k f size serial fs = more (number byte k) (at_flags f size serial fs)

module _ (little : Bool) where
  -- ---- one value of a header

  byte_text : (n x : ℕ) → x < 256 → spell little n (number byte x) ≡ x ∷ []
  byte_text n x lt = ap (λ (k : ℕ). zeros k ++ word little 1 x) (gap_1 n) ∙ word_8 little x lt

  pub byte_first : (n x : ℕ) (vs : Plains) → x < 256 → spells little n (more (number byte x) vs) ≡ x ∷ spells little (n + 1) vs
  byte_first n x vs lt = ap (λ (t : List ℕ). t ++ spells little (n + length t) vs) (byte_text n x lt)

  word_text : (n x : ℕ) → gap 4 n ≡ 0 → spell little n (number uint32 x) ≡ word little 4 x
  word_text n x e = ap (λ (k : ℕ). zeros k ++ word little 4 x) e

  word_first : (n x : ℕ) (vs : Plains) → gap 4 n ≡ 0 → spells little n (more (number uint32 x) vs) ≡ word little 4 x ++ spells little (n + 4) vs
  word_first n x vs e = ap (λ (t : List ℕ). t ++ spells little (n + length t) vs) (word_text n x e) ∙ ap (λ (k : ℕ). word little 4 x ++ spells little (n + k) vs) (length-word little 4 x)

  abbrev pub items : Plains → List ℕ
  items fs = spells little 16 fs

  fields_text : (fs : Plains) → spells little 12 (more (array field_type fs) none) ≡ word little 4 (length (items fs)) ++ items fs
  fields_text fs =
      append-nil (spell little 12 (array field_type fs))
      ∙ ap (λ (k : ℕ). zeros k ++ (word little 4 (length (spells little (12 + k + 4 + gap (alignment field_type) (12 + k + 4)) fs)) ++ (zeros (gap (alignment field_type) (12 + k + 4)) ++ spells little (12 + k + 4 + gap (alignment field_type) (12 + k + 4)) fs))) gap_12
      ∙ ap (λ (k : ℕ). word little 4 (length (spells little (16 + k) fs)) ++ (zeros k ++ spells little (16 + k) fs)) gap_16

  -- ---- the whole

  module _ (o k f size serial : ℕ) (fs : Plains) where
    abbrev pub flat : List ℕ
    flat = o ∷ (k ∷ (f ∷ (1 ∷ (word little 4 size ++ (word little 4 serial ++ (word little 4 (length (items fs)) ++ items fs))))))

    text_is : o < 256 → k < 256 → f < 256 → spells little 0 (more (number byte o) (at_kind k f size serial fs)) ≡ flat
    text_is a b c =
        byte_first 0 o (at_kind k f size serial fs) a
        ∙ ap (λ (t : List ℕ). o ∷ t) (byte_first 1 k (at_flags f size serial fs) b
        ∙ ap (λ (t : List ℕ). k ∷ t) (byte_first 2 f (at_version size serial fs) c
        ∙ ap (λ (t : List ℕ). f ∷ t) (byte_first 3 1 (at_size size serial fs) (omega arith)
        ∙ ap (λ (t : List ℕ). 1 ∷ t) (word_first 4 size (at_serial serial fs) gap_4
        ∙ ap (λ (t : List ℕ). word little 4 size ++ t) (word_first 8 serial (at_fields fs) gap_8
        ∙ ap (λ (t : List ℕ). word little 4 serial ++ t) (fields_text fs))))))

  -- ---- which values may stand there

  byte_may : (n x : ℕ) (vs : Plains) → x < 256 → AreValues little (n + 1) vs → AreValues little n (more (number byte x) vs)
  byte_may n x vs lt h = (byte_is, lt, subst (λ (t : List ℕ). AreValues little (n + length t) vs) (sym (byte_text n x lt)) h)

  byte_must : (n x : ℕ) (vs : Plains) → AreValues little n (more (number byte x) vs) → (x < 256) × AreValues little (n + 1) vs
  byte_must n x vs h = (h.1, subst (λ (t : List ℕ). AreValues little (n + length t) vs) (byte_text n x h.1) h.2)

  word_may : (n x : ℕ) (vs : Plains) → gap 4 n ≡ 0 → x < 2 ^ 32 → AreValues little (n + 4) vs → AreValues little n (more (number uint32 x) vs)
  word_may n x vs e lt h = (word_is, lt, subst (λ (k : ℕ). AreValues little (n + k) vs) (sym (ap length (word_text n x e) ∙ length-word little 4 x)) h)

  word_must : (n x : ℕ) (vs : Plains) → gap 4 n ≡ 0 → AreValues little n (more (number uint32 x) vs) → (x < 2 ^ 32) × AreValues little (n + 4) vs
  word_must n x vs e h = (h.1, subst (λ (k : ℕ). AreValues little (n + k) vs) (ap length (word_text n x e) ∙ length-word little 4 x) h.2)

  from_16 : 12 + gap 4 12 + 4 + gap (alignment field_type) (12 + gap 4 12 + 4) ≡ 16
  from_16 = ap (λ (k : ℕ). 12 + k + 4 + gap (alignment field_type) (12 + k + 4)) gap_12 ∙ ap (λ (k : ℕ). 16 + k) gap_16

  fields_may : (fs : Plains) → length (items fs) ≤ 2 ^ 26 → AreOf little field_type 16 fs → AreValues little 12 (more (array field_type fs) none)
  fields_may fs short are = (
    fields_is,
    (
      field_is,
      subst (λ (n : ℕ). length (spells little n fs) ≤ 2 ^ 26) (sym from_16) short,
      subst (λ (n : ℕ). AreOf little field_type n fs) (sym from_16) are,
    ),
    tt,
  )

  fields_must : (fs : Plains) → AreValues little 12 (more (array field_type fs) none) → (length (items fs) ≤ 2 ^ 26) × AreOf little field_type 16 fs
  fields_must fs h = (
    subst (λ (n : ℕ). length (spells little n fs) ≤ 2 ^ 26) from_16 h.1.1,
    subst (λ (n : ℕ). AreOf little field_type n fs) from_16 h.1.2,
  )

-- a header as the code sees it
pub record Head (m : PlainMessage) (fields : Plains) (len : ℕ) (text : List ℕ) : Type 0 where
  pub is : text ≡ flat m.little (order m.little) m.kind m.flags len m.serial fields
  pub kind : m.kind < 256
  pub flags : m.flags < 256
  pub size : len < 2 ^ 32
  pub serial : m.serial < 2 ^ 32
  pub short : length (items m.little fields) ≤ 2 ^ 26
  pub are : AreOf m.little field_type 16 fields
  pub nests : nests fields ≤ 63

order_small : (little : Bool) → order little < 256
order_small true = omega arith
order_small false = omega arith

pub head_spells : (m : PlainMessage) (fs : Plains) (size : ℕ) (text : List ℕ) → Head m fs size text → SpellsAll m.little 64 0 (header m fs size) text
head_spells m fs size text h = record {
  is = h.is ∙ sym (text_is m.little (order m.little) m.kind m.flags size m.serial fs (order_small m.little) h.kind h.flags);
  valid = byte_may m.little 0 (order m.little) (at_kind m.kind m.flags size m.serial fs) (order_small m.little)
      (byte_may m.little 1 m.kind (at_flags m.flags size m.serial fs) h.kind (byte_may m.little 2 m.flags (at_version size m.serial fs) h.flags (byte_may m.little 3 1 (at_size size m.serial fs) (omega arith)
      (word_may m.little 4 size (at_serial m.serial fs) gap_4 h.size (word_may m.little 8 m.serial (at_fields fs) gap_8 h.serial (fields_may m.little fs h.short h.are))))));
  nests = omega (arith, h.nests);
}

pub head_found : (m : PlainMessage) (fs : Plains) (size : ℕ) (text : List ℕ) → SpellsAll m.little 64 0 (header m fs size) text → Head m fs size text
head_found m fs size text h =
    let a = byte_must m.little 0 (order m.little) (at_kind m.kind m.flags size m.serial fs) h.valid in
    let b = byte_must m.little 1 m.kind (at_flags m.flags size m.serial fs) a.1 in
    let c = byte_must m.little 2 m.flags (at_version size m.serial fs) b.1 in
    let d = byte_must m.little 3 1 (at_size size m.serial fs) c.1 in
    let e = word_must m.little 4 size (at_serial m.serial fs) gap_4 d.1 in
    let f = word_must m.little 8 m.serial (at_fields fs) gap_8 e.1 in
    let g = fields_must m.little fs f.1 in
    record {
      is = h.is ∙ text_is m.little (order m.little) m.kind m.flags size m.serial fs (order_small m.little) b.0 c.0;
      kind = b.0;
      flags = c.0;
      size = e.0;
      serial = f.0;
      short = g.0;
      are = g.1;
      nests = omega (arith, h.nests);
    }

pub flat_len : (little : Bool) (o k f size serial : ℕ) (fs : Plains) → length (flat little o k f size serial fs) ≡ 16 + length (items little fs)
flat_len little o k f size serial fs =
    let a = word little 4 size in
    let b = word little 4 serial in
    let c = word little 4 (length (items little fs)) in
    omega (arith, length-append a (b ++ (c ++ items little fs)), length-append b (c ++ items little fs), length-append c (items little fs), length-word little 4 size, length-word little 4 serial, length-word little 4 (length (items little fs)))

pub head_len : (m : PlainMessage) (fs : Plains) (size : ℕ) (text : List ℕ) → Head m fs size text → length text ≡ 16 + length (items m.little fs)
head_len m fs size text h = ap length h.is ∙ flat_len m.little (order m.little) m.kind m.flags size m.serial fs
