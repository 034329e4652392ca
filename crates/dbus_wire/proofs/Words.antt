-- Numbers of four bytes, at fixed places of a message.
use Rattle.std.proofs.Common.{◌≡◌, ℕ, suc, ◌+◌, ◌^◌, ◌<◌, ◌≤◌, Bool, true, false, List, [], ◌∷◌, ◌++◌, length, get_or, take, drop, Some, refl, sym, ap, subst, ◌∙◌, arith, inl, inr}
use Rattle.std.proofs.lemmas.Bool.{cases_lt}
use Rattle.std.proofs.lemmas.List.{append-nil, take_at, drop_at, take-append-drop, length-append, length-drop, length-take, get_or-drop, get_or-take, get_or_past, drop-drop, drop-append-le, take-append-le}
use Rattle.wire_value.specs.Types.{uint32}
use Rattle.wire_value.specs.Spelling.{zeros, gap, word}
use Rattle.wire_value.specs.Reading.{At, from_word, word_at}
use Rattle.wire_value.proofs.Steps.{IsBytes, gap_again, bytes_again, word_takes, from_word_again, length-word}
use Rattle.dbus_wire.specs.Reading.{word_in}

-- ---- what was written is read

module _ (little : Bool) where
  pub word_front : (x : ℕ) (rest : List ℕ) → x < 2 ^ 32 → from_word little 4 (take 4 (word little 4 x ++ rest)) ≡ x
  word_front x rest lt = ap (from_word little 4) (take_at (word little 4 x) rest 4 (length-word little 4 x)) ∙ from_word_again little 4 x lt

  pub behind_word : (x : ℕ) (rest : List ℕ) → drop 4 (word little 4 x ++ rest) ≡ rest
  behind_word x rest = drop_at (word little 4 x) rest 4 (length-word little 4 x)

  -- ---- what was read is written

  zero_gap : gap 4 0 ≡ 0
  unfolding gap
  zero_gap = refl

  word_whole : (bs : List ℕ) → length bs ≡ 4 → word_at little 4 (0, bs ++ []) ≡ Some (from_word little 4 bs, (4, []))
  unfolding word_at gap
  word_whole bs len = rw (gap_again 4 0 (bs ++ []), bytes_again 4 0 bs [] len) refl

  pub word_back : (bs : List ℕ) → length bs ≡ 4 → IsBytes bs → (word little 4 (from_word little 4 bs) ≡ bs) × (from_word little 4 bs < 2 ^ 32)
  word_back bs len fits =
      let t = word_takes little uint32 (0, bs ++ []) (from_word little 4 bs, (4, [])) (subst IsBytes (sym (append-nil bs)) fits) (word_whole bs len) in
      let e : bs ++ [] ≡ (zeros (gap 4 0) ++ word little 4 (from_word little 4 bs)) ++ [] = t.0.parts in
      let f = ap (λ (k : ℕ). (zeros k ++ word little 4 (from_word little 4 bs)) ++ []) zero_gap in
      (sym (append-nil (word little 4 (from_word little 4 bs))) ∙ sym f ∙ sym e ∙ append-nil bs, t.1)

  fits_in : (n : ℕ) (bytes : List ℕ) → IsBytes bytes → n + 4 ≤ length bytes → IsBytes (take 4 (drop n bytes))
  fits_in n bytes fits long i =
      elim (cases_lt i 4) [
        | inl lt ↦ rw (get_or-take 4 (drop n bytes) i 0 lt, get_or-drop) (fits (n + i))
        | inr le ↦ rw (get_or_past (take 4 (drop n bytes)) i 0 (omega (arith, length-take 4 (drop n bytes)))) (omega arith)
      ]

  -- bytes from an offset on, by the number that stands there
  pub word_there : (n : ℕ) (bytes : List ℕ) → IsBytes bytes → n + 4 ≤ length bytes → (drop n bytes ≡ word little 4 (word_in little n bytes) ++ drop (n + 4) bytes) × (word_in little n bytes < 2 ^ 32)
  unfolding word_in
  word_there n bytes fits long =
      let len : length (take 4 (drop n bytes)) ≡ 4 = omega (arith, length-take 4 (drop n bytes), length-drop n bytes) in
      let b = word_back (take 4 (drop n bytes)) len (fits_in n bytes fits long) in
      (sym (take-append-drop 4 (drop n bytes)) ∙ ap (λ (t : List ℕ). t ++ drop 4 (drop n bytes)) (sym b.0) ∙ ap (λ (t : List ℕ). word little 4 (from_word little 4 (take 4 (drop n bytes))) ++ t) (drop-drop 4 n bytes), b.1)

  -- what stands behind does not change the number
  pub word_in_front : (n : ℕ) (bytes rest : List ℕ) → n + 4 ≤ length bytes → word_in little n (bytes ++ rest) ≡ word_in little n bytes
  unfolding word_in
  word_in_front n bytes rest long =
      ap (λ (t : List ℕ). from_word little 4 (take 4 t)) (drop-append-le n bytes rest (omega arith))
      ∙ ap (from_word little 4) (take-append-le 4 (drop n bytes) rest (omega (arith, length-drop n bytes)))
