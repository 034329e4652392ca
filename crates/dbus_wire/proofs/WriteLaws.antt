-- A message that has a spelling, as it is written part by part.
use Rattle.std.proofs.Common.{◌≡◌, ℕ, ◌+◌, ◌-◌, ◌<◌, ◌≤◌, ◌^◌, Bool, true, List, [], ◌∷◌, ◌++◌, length, Option, Some, refl, sym, ap, subst, ◌∙◌, append_assoc, arith}
use Rattle.std.specs.Prelude.{IfSome}
use Rattle.std.proofs.lemmas.List.{append-nil, length-append}
use Rattle.wire_value.specs.Plain.{Plains}
use Rattle.wire_value.specs.Spelling.{zeros, gap, word, spells, AreValues}
use Rattle.wire_value.specs.Sizes.{aligned, end_all, padded}
use Rattle.wire_value.proofs.Steps.{length-zeros, length-word}
use Rattle.wire_value.proofs.Ends.{end_is}
use Rattle.dbus_wire.specs.Spelling.{PlainMessage, Spells, order}
use Rattle.dbus_wire.specs.InOrder.{in_order, fields_end, body_start, SpellsInOrder, IsSpelledIn}
use Rattle.dbus_wire.specs.Checking.{are_fields}
use Rattle.dbus_wire.specs.Writing.{head_text}
use Rattle.dbus_wire.proofs.Headers.{head_found, head_len, items, flat_len, gap_4, gap_8, gap_12}
use Rattle.dbus_wire.proofs.Stating.{text_len}
use Rattle.dbus_wire.specs.Written.{TooLong}
use Rattle.dbus_wire.specs.declared.valid.Layout.{Layout}
use Rattle.dbus_wire.proofs.OneForm.{made, body_of, made_is, one_in_order_law}
use Rattle.dbus_wire.proofs.Spelled.{passes, head_fields}

-- the body, where it begins behind the fields in order
abbrev pub body_text : PlainMessage → List ℕ
body_text m = spells m.little (body_start m) m.body

abbrev pub whole_text : PlainMessage → List ℕ
whole_text m = head_text m (length (body_text m)) ++ (zeros (gap 8 (fields_end m)) ++ body_text m)

pub record Laid (m : PlainMessage) (e : ℕ) : Type 0 where
  pub tests : are_fields m.fields ≡ true
  pub valid : AreValues m.little (body_start m) m.body
  pub ends : end_all (body_start m) m.body ≡ e
  pub size : body_start m + length (body_text m) ≡ e
  pub count : 16 + length (spells m.little 16 (in_order m.fields)) ≡ fields_end m
  pub spelled : SpellsInOrder (whole_text m) m

pub laid : (m : PlainMessage) (e : ℕ) → IsSpelledIn m e → Laid m e
laid m e x =
    let text = x.0 in
    let s = x.1.spells in
    let fs = in_order m.fields in
    let h = head_found m s.fields (length s.body) s.head s.header in
    let count : 16 + length (items m.little fs) ≡ fields_end m = end_is m.little fs 16 in
    let ended : 16 + length (items m.little s.fields) ≡ fields_end m = ap (λ (l : Plains). 16 + length (items m.little l)) x.1.fields ∙ count in
    let head : length s.head ≡ fields_end m = head_len m s.fields (length s.body) s.head h ∙ ended in
    let body : s.body ≡ body_text m = s.values.is ∙ ap (λ (n : ℕ). spells m.little (aligned 8 n) m.body) head in
    let is : text ≡ made m fs (body_of m fs) = made_is text m s ∙ ap (λ (l : Plains). made m l (body_of m l)) x.1.fields in
    let again : made m fs (body_of m fs) ≡ whole_text m =
    ap (made m fs) (ap (λ (n : ℕ). spells m.little (aligned 8 n) m.body) count) ∙ ap (λ (n : ℕ). head_text m (length (body_text m)) ++ (zeros (gap 8 n) ++ body_text m)) count in
    let size : body_start m + length (body_text m) ≡ e = sym (text_len text m s ∙ ap (λ (n : ℕ). aligned 8 n + length s.body) ended ∙ ap (λ (t : List ℕ). body_start m + length t) body) ∙ x.2 in
    record {
      tests = head_fields m (passes m (text, s)).head;
      valid = subst (λ (n : ℕ). AreValues m.little (aligned 8 n) m.body) head s.values.valid;
      ends = sym (end_is m.little m.body (body_start m)) ∙ size;
      size = size;
      count = count;
      spelled = subst (λ (t : List ℕ). SpellsInOrder t m) (is ∙ again) x.1;
    }

-- ---- the parts of a header, one behind the other

module _ (m : PlainMessage) (size count : ℕ) where
  abbrev fs : Plains
  fs = in_order m.fields

  abbrev first : List ℕ
  first = order m.little ∷ (m.kind ∷ (m.flags ∷ (1 ∷ [])))

  padded_at : (old : List ℕ) (n x : ℕ) → length old ≡ n → gap 4 n ≡ 0 → padded m.little 4 x (length old) ≡ word m.little 4 x
  padded_at old n x e z = ap (λ (k : ℕ). zeros (gap 4 k) ++ word m.little 4 x) e ∙ ap (λ (k : ℕ). zeros k ++ word m.little 4 x) z

  pub head_written : (old a b c d e : List ℕ) → old ≡ [] → a ≡ old ++ first → b ≡ a ++ padded m.little 4 size (length a) → c ≡ b ++ padded m.little 4 m.serial (length b) → d ≡ c ++ padded m.little 4 count (length c)
      → count ≡ length (spells m.little 16 fs) → e ≡ d ++ spells m.little (length d) fs → e ≡ head_text m size
  head_written old a b c d e p q r s t u v =
      let w1 = word m.little 4 size in
      let w2 = word m.little 4 m.serial in
      let w3 = word m.little 4 count in
      let a_is : a ≡ first = q ∙ ap (λ (y : List ℕ). y ++ first) p in
      let a_len : length a ≡ 4 = ap length a_is in
      let b_is : b ≡ first ++ w1 = r ∙ ap (λ (y : List ℕ). a ++ y) (padded_at a 4 size a_len gap_4) ∙ ap (λ (y : List ℕ). y ++ w1) a_is in
      let b_len : length b ≡ 8 = omega (arith, ap length b_is, length-append first w1, length-word m.little 4 size) in
      let c_is : c ≡ (first ++ w1) ++ w2 = s ∙ ap (λ (y : List ℕ). b ++ y) (padded_at b 8 m.serial b_len gap_8) ∙ ap (λ (y : List ℕ). y ++ w2) b_is in
      let c_len : length c ≡ 12 = omega (arith, ap length c_is, length-append (first ++ w1) w2, length-append first w1, length-word m.little 4 size, length-word m.little 4 m.serial) in
      let d_is : d ≡ ((first ++ w1) ++ w2) ++ w3 = t ∙ ap (λ (y : List ℕ). c ++ y) (padded_at c 12 count c_len gap_12) ∙ ap (λ (y : List ℕ). y ++ w3) c_is in
      let d_len : length d ≡ 16 = omega (arith, ap length d_is, length-append ((first ++ w1) ++ w2) w3, length-append (first ++ w1) w2, length-append first w1, length-word m.little 4 size, length-word m.little 4 m.serial, length-word m.little 4 count) in
      let f = spells m.little 16 fs in
      let e_is : e ≡ (((first ++ w1) ++ w2) ++ w3) ++ f = v ∙ ap (λ (n : ℕ). d ++ spells m.little n fs) d_len ∙ ap (λ (y : List ℕ). y ++ f) d_is in
      let flat : (((first ++ w1) ++ w2) ++ w3) ++ f ≡ first ++ (w1 ++ (w2 ++ (w3 ++ f))) = regroup first w1 w2 w3 f in
      e_is ∙ flat ∙ ap (λ (n : ℕ). first ++ (w1 ++ (w2 ++ (word m.little 4 n ++ f)))) u
    where
      regroup : (a b c d e : List ℕ) → (((a ++ b) ++ c) ++ d) ++ e ≡ a ++ (b ++ (c ++ (d ++ e)))
      regroup a b c d e = simp append_assoc

-- ---- the whole

pub head_length : (m : PlainMessage) (size e : ℕ) (out : List ℕ) → Laid m e → out ≡ head_text m size → length out ≡ fields_end m
head_length m size e out l is = ap length is ∙ flat_len m.little (order m.little) m.kind m.flags size m.serial (in_order m.fields) ∙ l.count

pub padded_length : (m : PlainMessage) (size e : ℕ) (out mid : List ℕ) → Laid m e → out ≡ head_text m size → mid ≡ out ++ zeros (gap 8 (length out)) → length mid ≡ body_start m
padded_length m size e out mid l is f =
    let len = head_length m size e out l is in
    ap length f ∙ length-append out (zeros (gap 8 (length out))) ∙ ap (λ (n : ℕ). length out + n) (length-zeros (gap 8 (length out))) ∙ ap (λ (n : ℕ). n + gap 8 n) len

pub all_written : (m : PlainMessage) (size e : ℕ) (out mid new : List ℕ) → Laid m e → size ≡ length (body_text m) → out ≡ head_text m size → mid ≡ out ++ zeros (gap 8 (length out))
    → new ≡ mid ++ spells m.little (length mid) m.body → SpellsInOrder new m
all_written m size e out mid new l sized is f g =
    let len = head_length m size e out l is in
    let at = padded_length m size e out mid l is f in
    let body = body_text m in
    let new_is : new ≡ whole_text m =
    g ∙ ap (λ (n : ℕ). mid ++ spells m.little n m.body) at ∙ ap (λ (t : List ℕ). t ++ body) f ∙ ap (λ (n : ℕ). (out ++ zeros (gap 8 n)) ++ body) len
    ∙ append_assoc out (zeros (gap 8 (fields_end m))) body
    ∙ ap (λ (t : List ℕ). t ++ (zeros (gap 8 (fields_end m)) ++ body)) (is ∙ ap (λ (n : ℕ). head_text m n) sized) in
    subst (λ (t : List ℕ). SpellsInOrder t m) (sym new_is) l.spelled

-- ---- by the layout

pub start_is : (m : PlainMessage) (end gap_is : ℕ) → end ≡ fields_end m → gap_is ≡ gap 8 end → end + gap_is ≡ body_start m
start_is m end gap_is e f = ap (λ (k : ℕ). end + k) f ∙ ap (λ (k : ℕ). k + gap 8 k) e

pub spelled_length : (m : PlainMessage) (text : List ℕ) (e : ℕ) → SpellsInOrder text m → IsSpelledIn m e → length text ≡ e
spelled_length m text e s x = ap length (one_in_order_law m text x.0 s x.1) ∙ x.2

pub too_long_is : (m : PlainMessage) (e n : ℕ) → IsSpelledIn m e → TooLong m n → e ≡ n
too_long_is m e n x t = sym (spelled_length m t.0 e t.1 x) ∙ t.2

pub spelled_by : (m : PlainMessage) (o : Option Layout) (l : Layout) → o ≡ Some l → IfSome o (λ l. IsSpelledIn m l.end) → IsSpelledIn m l.end
spelled_by m o l e h = subst (λ (o : Option Layout). IfSome o (λ l. IsSpelledIn m l.end)) e h
