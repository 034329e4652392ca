-- What is written of a field, and of a header.
use Rattle.std.proofs.Common.{◌≡◌, ℕ, ◌+◌, ◌<◌, ◌≤◌, ◌^◌, Bool, List, [], ◌∷◌, ◌++◌, length, Option, Some, None, refl, sym, ap, subst, ◌∙◌, append_assoc, arith}
use Rattle.std.proofs.lemmas.List.{append-nil, length-append}
use Rattle.wire_value.specs.Types.{Textual, string, object_path, signature, uint32, textual_letter}
use Rattle.wire_value.specs.Plain.{Plain, number, words, variant, Plains, none, more, sig}
use Rattle.wire_value.specs.Spelling.{zeros, gap, word, text_spelling, spell, spells}
use Rattle.wire_value.specs.Sizes.{padded}
use Rattle.wire_value.proofs.Steps.{length-zeros, length-word}
use Rattle.dbus_wire.specs.Fields.{if_any}
use Rattle.dbus_wire.specs.InOrder.{field, words_field, number_field}
use Rattle.dbus_wire.specs.Writing.{code_text}
use Rattle.dbus_wire.proofs.Headers.{byte_first, gap_4, gap_8, gap_12}
use Rattle.dbus_wire.proofs.Checked.{some_if_any}

module _ (little : Bool) where
  -- a field is its beginning and its value
  field_text : (c l : ℕ) (v : Plain) (n : ℕ) → c < 256 → sig v ≡ l ∷ [] → spell little n (field c v) ≡ code_text c l n ++ spell little (n + gap 8 n + 4) v
  field_text c l v n lt is =
      let a = n + gap 8 n in
      let z = zeros (gap 8 n) in
      let first = byte_first little a c (more (variant v) none) lt ∙ ap (λ (t : List ℕ). c ∷ t) (append-nil (spell little (a + 1) (variant v))) in
      let typed = ap (λ (s : List ℕ). length s ∷ (s ++ (0 ∷ spell little (a + 1 + 1 + length s + 1) v))) is in
      ap (λ (t : List ℕ). z ++ t) (first ∙ ap (λ (t : List ℕ). c ∷ t) (typed ∙ ap (λ (k : ℕ). 1 ∷ (l ∷ (0 ∷ spell little k v))) (from a)))
      ∙ sym (append_assoc z (c ∷ (1 ∷ (l ∷ (0 ∷ [])))) (spell little (a + 4) v))
    where
      from : (a : ℕ) → a + 1 + 1 + 1 + 1 ≡ a + 4
      from a = omega arith

  written : (c l : ℕ) (v : Plain) (old mid new : List ℕ) → c < 256 → sig v ≡ l ∷ [] → mid ≡ old ++ code_text c l (length old) → new ≡ mid ++ spell little (length mid) v
      → (others : Plains) → new ++ spells little (length new) others ≡ old ++ spells little (length old) (more (field c v) others)
  written c l v old mid new lt is e f others =
      let n = length old in
      let head = code_text c l n in
      let value = spell little (n + gap 8 n + 4) v in
      let at_value : length mid ≡ n + gap 8 n + 4 = omega (arith, ap length e, length-append old head, length-append (zeros (gap 8 n)) (c ∷ (1 ∷ (l ∷ (0 ∷ [])))), length-zeros (gap 8 n)) in
      let one : new ≡ old ++ spell little n (field c v) =
      f ∙ ap (λ (k : ℕ). mid ++ spell little k v) at_value ∙ ap (λ (t : List ℕ). t ++ value) e ∙ append_assoc old head value ∙ ap (λ (t : List ℕ). old ++ t) (sym (field_text c l v n lt is)) in
      let len : length new ≡ n + length (spell little n (field c v)) = ap length one ∙ length-append old (spell little n (field c v)) in
      ap (λ (k : ℕ). new ++ spells little k others) len ∙ ap (λ (t : List ℕ). t ++ spells little (n + length (spell little n (field c v))) others) one
      ∙ append_assoc old (spell little n (field c v)) (spells little (n + length (spell little n (field c v))) others)

  pub path_written : (t old mid new : List ℕ) → mid ≡ old ++ code_text 1 111 (length old) → new ≡ mid ++ text_spelling little (length mid) string t
      → (others : Plains) → new ++ spells little (length new) others ≡ old ++ spells little (length old) (words_field 1 object_path (Some t) others)
  path_written t old mid new e f others = written 1 111 (words object_path t) old mid new (omega arith) refl e f others

  pub string_written : (c : ℕ) (t old mid new : List ℕ) → c < 256 → mid ≡ old ++ code_text c 115 (length old) → new ≡ mid ++ text_spelling little (length mid) string t
      → (others : Plains) → new ++ spells little (length new) others ≡ old ++ spells little (length old) (words_field c string (Some t) others)
  string_written c t old mid new lt e f others = written c 115 (words string t) old mid new lt refl e f others

  pub number_written : (c x : ℕ) (old mid new : List ℕ) → c < 256 → mid ≡ old ++ code_text c 117 (length old) → new ≡ mid ++ padded little 4 x (length mid)
      → (others : Plains) → new ++ spells little (length new) others ≡ old ++ spells little (length old) (number_field c (Some x) others)
  number_written c x old mid new lt e f others = written c 117 (number uint32 x) old mid new lt refl e f others

  pub signature_written : (t old mid new : List ℕ) → (length t ≡ 0 → ⊥) → mid ≡ old ++ code_text 8 103 (length old) → new ≡ mid ++ text_spelling little (length mid) signature t
      → (others : Plains) → new ++ spells little (length new) others ≡ old ++ spells little (length old) (words_field 8 signature (if_any t) others)
  signature_written [] old mid new h e f others = absurd (h refl)
  signature_written (c ∷ t) old mid new h e f others =
      written 8 103 (words signature (c ∷ t)) old mid new (omega arith) refl e f others
      ∙ ap (λ (o : Option (List ℕ)). old ++ spells little (length old) (words_field 8 signature o others)) (sym (some_if_any c t))

  pub no_signature_written : (t old : List ℕ) → length t ≡ 0 → (others : Plains) → old ++ spells little (length old) others ≡ old ++ spells little (length old) (words_field 8 signature (if_any t) others)
  no_signature_written [] old e others = refl
  no_signature_written (c ∷ t) old e others = absurd (omega arith)
