-- A message states its length in its first 16 bytes.
use Rattle.std.proofs.Common.{◌≡◌, ℕ, suc, ◌+◌, ◌<◌, ◌≤◌, ◌^◌, Bool, true, false, List, [], ◌∷◌, ◌++◌, length, get_or, take, drop, Option, Some, refl, sym, ap, subst, ◌∙◌, append_assoc, arith}
use Rattle.std.proofs.lemmas.List.{append-nil, length-append, drop-drop}
use Rattle.wire_value.specs.Plain.{Plains}
use Rattle.wire_value.specs.Spelling.{zeros, gap, word}
use Rattle.wire_value.specs.Sizes.{aligned}
use Rattle.wire_value.specs.Reading.{from_word}
use Rattle.wire_value.proofs.Steps.{length-zeros}
use Rattle.dbus_wire.specs.Spelling.{PlainMessage, Spells, order}
use Rattle.dbus_wire.specs.Reading.{order_of, word_in, stated}
use Rattle.dbus_wire.proofs.Headers.{Head, head_found, head_len, items, flat}
use Rattle.dbus_wire.proofs.Words.{word_front, behind_word}

module _ (little : Bool) (o k f size serial : ℕ) (fs : Plains) (rest : List ℕ) where
  abbrev count : ℕ
  count = length (items little fs)

  -- a header with what stands behind it
  abbrev pub message : List ℕ
  message = o ∷ (k ∷ (f ∷ (1 ∷ (word little 4 size ++ (word little 4 serial ++ (word little 4 count ++ (items little fs ++ rest)))))))

  regroup : (a b c d e : List ℕ) → (a ++ (b ++ (c ++ d))) ++ e ≡ a ++ (b ++ (c ++ (d ++ e)))
  regroup a b c d e = simp append_assoc

  pub whole : flat little o k f size serial fs ++ rest ≡ message
  whole = ap (λ (t : List ℕ). o ∷ (k ∷ (f ∷ (1 ∷ t)))) (regroup (word little 4 size) (word little 4 serial) (word little 4 count) (items little fs) rest)

  abbrev behind_4 : List ℕ
  behind_4 = word little 4 size ++ (word little 4 serial ++ (word little 4 count ++ (items little fs ++ rest)))

  behind_8 : drop 4 behind_4 ≡ word little 4 serial ++ (word little 4 count ++ (items little fs ++ rest))
  behind_8 = behind_word little size (word little 4 serial ++ (word little 4 count ++ (items little fs ++ rest)))

  behind_12 : drop 8 behind_4 ≡ word little 4 count ++ (items little fs ++ rest)
  behind_12 = sym (drop-drop 4 4 behind_4) ∙ ap (drop 4) behind_8 ∙ behind_word little serial (word little 4 count ++ (items little fs ++ rest))

  pub behind_16 : drop 12 behind_4 ≡ items little fs ++ rest
  behind_16 = sym (drop-drop 4 8 behind_4) ∙ ap (drop 4) behind_12 ∙ behind_word little count (items little fs ++ rest)

  pub size_in : size < 2 ^ 32 → word_in little 4 message ≡ size
  unfolding word_in
  size_in lt = word_front little size (word little 4 serial ++ (word little 4 count ++ (items little fs ++ rest))) lt

  pub serial_in : serial < 2 ^ 32 → word_in little 8 message ≡ serial
  unfolding word_in
  serial_in lt = ap (λ (t : List ℕ). from_word little 4 (take 4 t)) behind_8 ∙ word_front little serial (word little 4 count ++ (items little fs ++ rest)) lt

  pub count_in : count < 2 ^ 32 → word_in little 12 message ≡ count
  unfolding word_in
  count_in lt = ap (λ (t : List ℕ). from_word little 4 (take 4 t)) behind_12 ∙ word_front little count (items little fs ++ rest) lt

pub order_again : (little : Bool) (k f : ℕ) (rest : List ℕ) → order_of (order little ∷ (k ∷ (f ∷ (1 ∷ rest)))) ≡ Some little
order_again true k f rest = refl
order_again false k f rest = refl

-- the padding and the body
abbrev pub tail_of : (text : List ℕ) (m : PlainMessage) → Spells text m → List ℕ
tail_of text m s = zeros (gap 8 (length s.head)) ++ s.body

-- a spelling, whatever follows it
pub front : (text : List ℕ) (m : PlainMessage) (rest : List ℕ) (s : Spells text m)
    → text ++ rest ≡ message m.little (order m.little) m.kind m.flags (length s.body) m.serial s.fields (tail_of text m s ++ rest)
front text m rest s =
    let h = head_found m s.fields (length s.body) s.head s.header in
    let tail = tail_of text m s in
    ap (λ (t : List ℕ). t ++ rest) (s.is ∙ ap (λ (t : List ℕ). t ++ tail) h.is) ∙ append_assoc (flat m.little (order m.little) m.kind m.flags (length s.body) m.serial s.fields) tail rest
    ∙ whole m.little (order m.little) m.kind m.flags (length s.body) m.serial s.fields (tail ++ rest)

pub text_len : (text : List ℕ) (m : PlainMessage) (s : Spells text m) → length text ≡ aligned 8 (16 + length (items m.little s.fields)) + length s.body
text_len text m s =
    let len = head_len m s.fields (length s.body) s.head (head_found m s.fields (length s.body) s.head s.header) in
    ap length s.is ∙ length-append s.head (tail_of text m s) ∙ ap (λ (n : ℕ). length s.head + n) (length-append (zeros (gap 8 (length s.head))) s.body)
    ∙ ap (λ (n : ℕ). length s.head + (n + length s.body)) (length-zeros (gap 8 (length s.head)))
    ∙ ap (λ (n : ℕ). n + (gap 8 n + length s.body)) len ∙ omega arith

pub record States (text : List ℕ) (m : PlainMessage) (rest : List ℕ) : Type 0 where
  pub long : 16 ≤ length text
  pub order : order_of (text ++ rest) ≡ Some m.little
  pub stated : stated m.little (text ++ rest) ≡ length text

pub states : (text : List ℕ) (m : PlainMessage) (rest : List ℕ) → Spells text m → States text m rest
unfolding stated
states text m rest s =
    let h = head_found m s.fields (length s.body) s.head s.header in
    let is = front text m rest s in
    let len = text_len text m s in
    let count : length (items m.little s.fields) < 2 ^ 32 = omega (arith, h.short) in
    let a = ap (word_in m.little 4) is ∙ size_in m.little (order m.little) m.kind m.flags (length s.body) m.serial s.fields (tail_of text m s ++ rest) h.size in
    let b = ap (word_in m.little 12) is ∙ count_in m.little (order m.little) m.kind m.flags (length s.body) m.serial s.fields (tail_of text m s ++ rest) count in
    record {
      long = omega (arith, len);
      order = ap order_of is ∙ order_again m.little m.kind m.flags (behind_4 m.little (order m.little) m.kind m.flags (length s.body) m.serial s.fields (tail_of text m s ++ rest));
      stated = ap (λ (n : ℕ). aligned 8 (16 + n) + word_in m.little 4 (text ++ rest)) b ∙ ap (λ (n : ℕ). aligned 8 (16 + length (items m.little s.fields)) + n) a ∙ sym len;
    }
