-- What is read as a message is a spelling of it.
use Rattle.std.proofs.Common.{◌≡◌, ℕ, zero, suc, ◌+◌, ◌<◌, ◌≤◌, ◌^◌, Bool, true, false, ◌&&◌, not, cond, eqb, ltb, List, [], ◌∷◌, ◌++◌, length, get_or, take, drop, Option, Some, None, refl, sym, ap, subst, ◌∙◌, append_assoc, arith, inl, inr}
use Rattle.std.proofs.lemmas.Bool.{eqb-true, ltb-true}
use Rattle.std.proofs.lemmas.List.{append-nil, length-append, length-drop, nil_from_length, get_or-drop, take-append-drop}
use Rattle.wire_value.specs.Types.{IsSignature}
use Rattle.wire_value.specs.Plain.{Plains, sigs, nests}
use Rattle.wire_value.specs.Spelling.{zeros, gap, word, spells, AreOf, SpellsAll}
use Rattle.wire_value.specs.Sizes.{aligned}
use Rattle.wire_value.specs.Standing.{StandAll}
use Rattle.wire_value.specs.Reading.{◌>>=◌, At, bytes_at, gap_at, all_items_at, values_at, is_signature}
use Rattle.wire_value.proofs.Steps.{IsBytes, Takes, bind_some, if_some_is, some_is, both_true, bytes_take, gap_takes, length-zeros}
use Rattle.wire_value.proofs.TypeLaws.{chosen, none_some}
use Rattle.wire_value.proofs.Signatures.{signature_is}
use Rattle.wire_value.proofs.ReadLaws.{all_found, each_found}
use Rattle.dbus_wire.specs.Fields.{Fields, no_fields, said, settled, signature_of, has_needed}
use Rattle.dbus_wire.specs.Spelling.{PlainMessage, Spells, order, field_type}
use Rattle.dbus_wire.specs.Reading.{order_of, word_in, stated, fields_at, body_at, is_sent, message_at}
use Rattle.dbus_wire.proofs.Headers.{Head, head_spells, head_len, flat_len, field_is, items, flat}
use Rattle.dbus_wire.proofs.Words.{word_there}
use Rattle.dbus_wire.proofs.Stating.{message, whole}
use Rattle.dbus_wire.proofs.ReadAgain.{same_signature}

bytes_drop : (n : ℕ) (bytes : List ℕ) → IsBytes bytes → IsBytes (drop n bytes)
bytes_drop n bytes h i = rw get_or-drop (h (n + i))

-- ---- the parts

record FoundFields (kind : ℕ) (little : Bool) (size : ℕ) (bytes : List ℕ) (x : Fields × At) : Type 0 where
  pub list : Plains
  pub takes : Takes (16, drop 16 bytes) (items little list) x.1
  pub len : length (items little list) ≡ size
  pub are : AreOf little field_type 16 list
  pub nests : nests list ≤ 63
  pub says : said no_fields list ≡ Some x.0
  pub needed : has_needed kind x.0 ≡ true

fields_found : (kind : ℕ) (little : Bool) (size : ℕ) (bytes : List ℕ) (x : Fields × At) → IsBytes bytes → fields_at kind little size bytes ≡ Some x → FoundFields kind little size bytes x
unfolding fields_at
fields_found kind little size bytes x fits e =
    let a = bind_some (bytes_at size (16, drop 16 bytes)) (λ f. all_items_at 63 little field_type (16, f.0) >>= λ fs. said no_fields fs >>= λ h. cond (has_needed kind h) (Some (h, f.1)) None) x e in
    let b = bind_some (all_items_at 63 little field_type (16, a.0.0)) (λ fs. said no_fields fs >>= λ h. cond (has_needed kind h) (Some (h, a.0.1)) None) x a.2 in
    let c = bind_some (said no_fields b.0) (λ h. cond (has_needed kind h) (Some (h, a.0.1)) None) x b.2 in
    let g = if_some_is (has_needed kind c.0) (c.0, a.0.1) x c.2 in
    let t = bytes_take size (16, drop 16 bytes) a.0 (bytes_drop 16 bytes fits) a.1 in
    let each = each_found little 63 field_type (16, a.0.0) field_is t.bytes b.0 b.1 in
    subst (FoundFields kind little size bytes) g.1 (record {
      list = b.0;
      takes = subst (λ (y : List ℕ). Takes (16, drop 16 bytes) y a.0.1) each.whole t.takes;
      len = sym (ap length each.whole) ∙ t.len;
      are = each.valid;
      nests = each.nests;
      says = c.1;
      needed = g.0;
    })

record FoundBody (little : Bool) (s : List ℕ) (p : At) (vs : Plains) : Type 0 where
  pub body : List ℕ
  pub is : p.1 ≡ zeros (gap 8 p.0) ++ body
  pub values : SpellsAll little 64 (aligned 8 p.0) vs body
  pub typed : sigs vs ≡ s
  pub signature : IsSignature s

body_join : (little : Bool) (s : List ℕ) (p q : At) (x : Plains × At) → Takes p (zeros (gap 8 p.0)) q → IsSignature s → StandAll little 64 s q x.0 x.1 → length x.1.1 ≡ 0 → FoundBody little s p x.0
body_join little s p q x t good stand nothing =
    let from : q.0 ≡ aligned 8 p.0 = t.moves ∙ ap (λ (n : ℕ). p.0 + n) (length-zeros (gap 8 p.0)) in
    record {
      body = stand.text;
      is = t.parts ∙ ap (λ (y : List ℕ). zeros (gap 8 p.0) ++ y) (stand.front ∙ ap (λ (y : List ℕ). stand.text ++ y) (nil_from_length x.1.1 nothing) ∙ append-nil stand.text);
      values = subst (λ (n : ℕ). SpellsAll little 64 n x.0 stand.text) from stand.spells;
      typed = stand.typed;
      signature = good;
    }

body_found : (little : Bool) (s : List ℕ) (p : At) (vs : Plains) → IsBytes p.1 → body_at little s p ≡ Some vs → FoundBody little s p vs
unfolding body_at
body_found little s p vs fits e =
    let a = bind_some (gap_at 8 p) (λ q. cond (is_signature s) (values_at 64 little s q) None >>= λ x. cond (eqb (length x.1.1) 0) (Some x.0) None) vs e in
    let b = bind_some (cond (is_signature s) (values_at 64 little s a.0) None) (λ x. cond (eqb (length x.1.1) 0) (Some x.0) None) vs a.2 in
    let g = if_some_is (eqb (length b.0.1.1) 0) b.0.0 vs b.2 in
    let t = gap_takes 8 p a.0 fits a.1 in
    elim (chosen (is_signature s) (values_at 64 little s a.0) None b.0 b.1) [
      | inr h ↦ absurd (none_some b.0 h.1)
      | inl h ↦
          let good = signature_is s h.0 in
          subst (FoundBody little s p) g.1 (body_join little s p a.0 b.0 t good (all_found little 64 s a.0 good t.fits b.0 h.1) (eqb-true _ _ g.0))
    ]

-- ---- the first 16 bytes

four : (bytes : List ℕ) → 4 ≤ length bytes → bytes ≡ get_or bytes 0 0 ∷ (get_or bytes 1 0 ∷ (get_or bytes 2 0 ∷ (get_or bytes 3 0 ∷ drop 4 bytes)))
four [] h = absurd (omega arith)
four (a ∷ []) h = absurd (omega arith)
four (a ∷ b ∷ []) h = absurd (omega arith)
four (a ∷ b ∷ c ∷ []) h = absurd (omega arith)
four (a ∷ b ∷ c ∷ d ∷ s) h = refl

pub order_is : (bytes : List ℕ) (little : Bool) → order_of bytes ≡ Some little → (get_or bytes 0 0 ≡ order little) × (get_or bytes 3 0 ≡ 1)
order_is bytes little e =
    elim (chosen (not (eqb (get_or bytes 3 0) 1)) None (cond (eqb (get_or bytes 0 0) 108) (Some true) (cond (eqb (get_or bytes 0 0) 66) (Some false) None)) little e) [
      | inl h ↦ absurd (none_some little h.1)
      | inr h ↦
          let one : get_or bytes 3 0 ≡ 1 = eqb-true _ _ (undo (eqb (get_or bytes 3 0) 1) h.0) in
          elim (chosen (eqb (get_or bytes 0 0) 108) (Some true) (cond (eqb (get_or bytes 0 0) 66) (Some false) None) little h.1) [
            | inl i ↦ (eqb-true _ _ i.0 ∙ ap order (some_is true little i.1), one)
            | inr i ↦ elim (chosen (eqb (get_or bytes 0 0) 66) (Some false) None little i.1) [
              | inl j ↦ (eqb-true _ _ j.0 ∙ ap order (some_is false little j.1), one)
              | inr j ↦ absurd (none_some little j.1)
            ]
          ]
    ]
  where
    undo : (b : Bool) → not b ≡ false → b ≡ true
    undo true e = refl
    undo false e = sym e

-- bytes that state as many as they are
pub record Complete (little : Bool) (bytes : List ℕ) : Type 0 where
  pub fits : IsBytes bytes
  pub order : order_of bytes ≡ Some little
  pub long : 16 ≤ length bytes
  pub short : length bytes ≤ 1048576
  pub stated : stated little bytes ≡ length bytes

sixteen : (little : Bool) (bytes : List ℕ) → Complete little bytes
    → bytes ≡ order little ∷ (get_or bytes 1 0 ∷ (get_or bytes 2 0 ∷ (1 ∷ (word little 4 (word_in little 4 bytes) ++ (word little 4 (word_in little 8 bytes) ++ (word little 4 (word_in little 12 bytes) ++ drop 16 bytes))))))
sixteen little bytes c =
    let long = c.long in
    let a = order_is bytes little c.order in
    let w = word_there little 4 bytes c.fits (omega arith) in
    let x = word_there little 8 bytes c.fits (omega arith) in
    let y = word_there little 12 bytes c.fits long in
    let rest = w.0 ∙ ap (λ (t : List ℕ). word little 4 (word_in little 4 bytes) ++ t) (x.0 ∙ ap (λ (t : List ℕ). word little 4 (word_in little 8 bytes) ++ t) y.0) in
    four bytes (omega arith)
    ∙ ap (λ (n : ℕ). n ∷ (get_or bytes 1 0 ∷ (get_or bytes 2 0 ∷ (get_or bytes 3 0 ∷ drop 4 bytes)))) a.0
    ∙ ap (λ (n : ℕ). order little ∷ (get_or bytes 1 0 ∷ (get_or bytes 2 0 ∷ (n ∷ drop 4 bytes)))) a.1
    ∙ ap (λ (t : List ℕ). order little ∷ (get_or bytes 1 0 ∷ (get_or bytes 2 0 ∷ (1 ∷ t)))) rest

-- ---- the whole

module _ (little : Bool) (bytes : List ℕ) (c : Complete little bytes) (h : Fields × At) (vs : Plains) where
  abbrev k : ℕ
  k = get_or bytes 1 0

  abbrev fl : ℕ
  fl = get_or bytes 2 0

  abbrev size : ℕ
  size = word_in little 4 bytes

  abbrev serial : ℕ
  serial = word_in little 8 bytes

  abbrev read : PlainMessage
  read = record { little = little; kind = k; flags = fl; serial = serial; fields = settled h.0; body = vs }

  tail_len : (text head body : List ℕ) (n : ℕ) → text ≡ head ++ (zeros (gap 8 n) ++ body) → length head ≡ n → length text ≡ aligned 8 n + length body
  tail_len text head body n e len = omega (arith, ap length e, length-append head (zeros (gap 8 n) ++ body), length-append (zeros (gap 8 n)) body, length-zeros (gap 8 n), len)

  size_by : (start a b total : ℕ) → start + a ≡ total → total ≡ start + b → a ≡ b
  size_by start a b total e f = omega arith

  few : (n b total : ℕ) → total ≡ 16 + n + gap 8 (16 + n) + b → total ≤ 1048576 → n ≤ 2 ^ 26
  few n b total e h = omega arith

  stated_by : (n : ℕ) → word_in little 12 bytes ≡ n → stated little bytes ≡ aligned 8 (16 + n) + size
  unfolding stated
  stated_by n e = ap (λ (m : ℕ). aligned 8 (16 + m) + size) e

  join : 0 < k → 0 < serial → FoundFields k little (word_in little 12 bytes) bytes h → FoundBody little (signature_of h.0) h.1 vs → Spells bytes read
  join some sent f b =
      let fs = f.list in
      let n = length (items little fs) in
      let head = flat little (order little) k fl (length b.body) serial fs in
      let from : h.1.0 ≡ 16 + n = f.takes.moves in
      let tail = zeros (gap 8 (16 + n)) ++ b.body in
      let left : drop 16 bytes ≡ items little fs ++ tail = f.takes.parts ∙ ap (λ (t : List ℕ). items little fs ++ t) (b.is ∙ ap (λ (m : ℕ). zeros (gap 8 m) ++ b.body) from) in
      let count : word_in little 12 bytes ≡ n = sym f.len in
      let is' : bytes ≡ flat little (order little) k fl size serial fs ++ tail = sixteen little bytes c
      ∙ ap (λ (m : ℕ). order little ∷ (k ∷ (fl ∷ (1 ∷ (word little 4 size ++ (word little 4 serial ++ (word little 4 m ++ drop 16 bytes))))))) count
      ∙ ap (λ (t : List ℕ). order little ∷ (k ∷ (fl ∷ (1 ∷ (word little 4 size ++ (word little 4 serial ++ (word little 4 n ++ t))))))) left
      ∙ sym (whole little (order little) k fl size serial fs tail) in
      let total : length bytes ≡ aligned 8 (16 + n) + length b.body = tail_len bytes (flat little (order little) k fl size serial fs) b.body (16 + n) is' (flat_len little (order little) k fl size serial fs) in
      let size_is : size ≡ length b.body = size_by (aligned 8 (16 + n)) size (length b.body) (length bytes) (sym (stated_by n count) ∙ c.stated) total in
      let is : bytes ≡ head ++ tail = is' ∙ ap (λ (m : ℕ). flat little (order little) k fl m serial fs ++ tail) size_is in
      let small = word_there little 4 bytes c.fits (omega (arith, c.long)) in
      let lots = word_there little 8 bytes c.fits (omega (arith, c.long)) in
      let top : Head read fs (length b.body) head = record {
        is = refl;
        kind = c.fits 1;
        flags = c.fits 2;
        size = subst (λ (m : ℕ). m < 2 ^ 32) size_is small.1;
        serial = lots.1;
        short = few n (length b.body) (length bytes) total c.short;
        are = f.are;
        nests = f.nests;
      } in
      let len : length head ≡ 16 + n = head_len read fs (length b.body) head top in
      record {
        fields = fs;
        head = head;
        body = b.body;
        is = is ∙ ap (λ (m : ℕ). head ++ (zeros (gap 8 m) ++ b.body)) (sym len);
        header = head_spells read fs (length b.body) head top;
        values = subst (λ (m : ℕ). SpellsAll little 64 (aligned 8 m) vs b.body) (from ∙ sym len) b.values;
        found = h.0;
        says = f.says;
        settled = refl;
        signature = subst IsSignature (sym (same_signature h.0)) b.signature;
        typed = b.typed ∙ sym (same_signature h.0);
        kind = some;
        serial = sent;
        needed = f.needed;
      }

pub message_found : (little : Bool) (bytes : List ℕ) (m : PlainMessage) → Complete little bytes → message_at little bytes ≡ Some m → Spells bytes m
unfolding message_at
message_found little bytes m c e =
    elim (chosen (is_sent little bytes) (fields_at (get_or bytes 1 0) little (word_in little 12 bytes) bytes >>= λ h. body_at little (signature_of h.0) h.1 >>= λ vs. Some (read little bytes c h vs)) None m e) [
      | inr h ↦ absurd (none_some m h.1)
      | inl h ↦
          let sent = both_true _ _ h.0 in
          let a = bind_some (fields_at (get_or bytes 1 0) little (word_in little 12 bytes) bytes) (λ h. body_at little (signature_of h.0) h.1 >>= λ vs. Some (read little bytes c h vs)) m h.1 in
          let b = bind_some (body_at little (signature_of a.0.0) a.0.1) (λ vs. Some (read little bytes c a.0 vs)) m a.2 in
          let f = fields_found (get_or bytes 1 0) little (word_in little 12 bytes) bytes a.0 c.fits a.1 in
          let g = body_found little (signature_of a.0.0) a.0.1 b.0 f.takes.fits b.1 in
          subst (Spells bytes) (some_is (read little bytes c a.0 b.0) m b.2) (join little bytes c a.0 b.0 (ltb-true _ _ sent.0) (ltb-true _ _ sent.1) f g)
    ]
