-- A spelling of a message is read as that message.
use Rattle.std.proofs.Common.{◌≡◌, ℕ, suc, ◌+◌, ◌<◌, ◌≤◌, ◌^◌, Bool, true, false, ◌&&◌, eqb, ltb, List, [], ◌∷◌, ◌++◌, length, drop, Option, Some, None, refl, sym, ap, subst, ◌∙◌, append_assoc, arith}
use Rattle.std.proofs.lemmas.Bool.Decides.{nat_tests}
use Rattle.std.proofs.lemmas.List.{append-nil}
use Rattle.wire_value.specs.Types.{IsSignature}
use Rattle.wire_value.specs.Plain.{Plains, sigs, nests}
use Rattle.wire_value.specs.Spelling.{zeros, gap, word, spells, AreOf, AreValues, SpellsAll}
use Rattle.wire_value.specs.Sizes.{aligned}
use Rattle.wire_value.specs.Standing.{StandAll, StandItems}
use Rattle.wire_value.specs.Reading.{At, all_items_at, values_at}
use Rattle.wire_value.proofs.Steps.{suc_is_not, bytes_again, gap_again}
use Rattle.wire_value.proofs.Signatures.{signature_again}
use Rattle.wire_value.proofs.ReadLaws.{all_read, each_read}
use Rattle.dbus_wire.specs.Fields.{Fields, no_fields, said, settled, text_of, if_any, signature_of, has_needed}
use Rattle.dbus_wire.specs.Spelling.{PlainMessage, Spells, order, field_type}
use Rattle.dbus_wire.specs.Reading.{word_in, fields_at, body_at, is_sent, message_at}
use Rattle.dbus_wire.proofs.Headers.{Head, head_found, head_len, items}
use Rattle.dbus_wire.proofs.Stating.{message, front, tail_of, behind_16, serial_in, count_in}

pub same_text : (s : List ℕ) → text_of (if_any s) ≡ s
same_text [] = refl
same_text (c ∷ s) = rw suc_is_not refl

pub same_signature : (h : Fields) → signature_of (settled h) ≡ signature_of h
same_signature h = same_text (signature_of h)

fields_again : (kind : ℕ) (little : Bool) (fs : Plains) (h : Fields) (bytes rest : List ℕ) → drop 16 bytes ≡ items little fs ++ rest → AreOf little field_type 16 fs → nests fs ≤ 63 → said no_fields fs ≡ Some h → has_needed kind h ≡ true
    → fields_at kind little (length (items little fs)) bytes ≡ Some (h, (16 + length (items little fs), rest))
unfolding fields_at
fields_again kind little fs h bytes rest is are deep says needed =
    let f = items little fs in
    let each = each_read little 63 field_type (16, f) fs (record { whole = refl; valid = are; nests = deep }) in
    rw (is, bytes_again (length f) 16 f rest refl, each, says, needed) refl

body_again : (little : Bool) (n : ℕ) (s : List ℕ) (vs : Plains) (body : List ℕ) → IsSignature s → SpellsAll little 64 (aligned 8 n) vs body → sigs vs ≡ s → body_at little s (n, zeros (gap 8 n) ++ body) ≡ Some vs
unfolding body_at
body_again little n s vs body good is typed =
    let stand : StandAll little 64 s (aligned 8 n, body) vs (aligned 8 n + length body, []) = record { text = body; spells = is; typed = typed; front = sym (append-nil body); behind = refl } in
    rw (gap_again 8 n body, signature_again s good, all_read little 64 s (aligned 8 n, body) vs (aligned 8 n + length body, []) stand) refl

module _ (little : Bool) (o k f size serial : ℕ) (fs : Plains) (h : Fields) (vs : Plains) (body : List ℕ) where
  abbrev from : ℕ
  from = 16 + length (items little fs)

  abbrev bytes : List ℕ
  bytes = message little o k f size serial fs (zeros (gap 8 from) ++ body)

  join : 0 < k → 0 < serial → serial < 2 ^ 32 → length (items little fs) < 2 ^ 32
      → fields_at k little (length (items little fs)) bytes ≡ Some (h, (from, zeros (gap 8 from) ++ body)) → body_at little (signature_of h) (from, zeros (gap 8 from) ++ body) ≡ Some vs
      → message_at little bytes ≡ Some (record { little = little; kind = k; flags = f; serial = serial; fields = settled h; body = vs })
  unfolding message_at
  join some sent small few a b =
      let e = serial_in little o k f size serial fs (zeros (gap 8 from) ++ body) small in
      let c = count_in little o k f size serial fs (zeros (gap 8 from) ++ body) few in
      let test : (ltb 0 k && ltb 0 serial) ≡ true = grind (arith, nat_tests) in
      rw (e, c, test, a, b) refl

pub message_again : (text : List ℕ) (m : PlainMessage) → Spells text m → message_at m.little text ≡ Some m
message_again text m s =
    let little = m.little in
    let head = head_found m s.fields (length s.body) s.head s.header in
    let len : length s.head ≡ 16 + length (items little s.fields) = head_len m s.fields (length s.body) s.head head in
    let tail = zeros (gap 8 (16 + length (items little s.fields))) ++ s.body in
    let o = order little in
    let is : text ≡ message little o m.kind m.flags (length s.body) m.serial s.fields tail =
    sym (append-nil text) ∙ front text m [] s ∙ ap (message little o m.kind m.flags (length s.body) m.serial s.fields) (append-nil (tail_of text m s) ∙ ap (λ (n : ℕ). zeros (gap 8 n) ++ s.body) len) in
    let needed : has_needed m.kind s.found ≡ true = subst (λ (h : Fields). has_needed m.kind h ≡ true) s.settled s.needed in
    let same : signature_of m.fields ≡ signature_of s.found = ap signature_of s.settled ∙ same_signature s.found in
    let a = fields_again m.kind little s.fields s.found (message little o m.kind m.flags (length s.body) m.serial s.fields tail) tail (behind_16 little o m.kind m.flags (length s.body) m.serial s.fields tail) head.are head.nests s.says needed in
    let values = subst (λ (n : ℕ). SpellsAll little 64 (aligned 8 n) m.body s.body) len s.values in
    let b = body_again little (16 + length (items little s.fields)) (signature_of s.found) m.body s.body (subst IsSignature same s.signature) values (s.typed ∙ same) in
    let few : length (items little s.fields) < 2 ^ 32 = omega (arith, head.short) in
    ap (message_at little) is
    ∙ join little o m.kind m.flags (length s.body) m.serial s.fields s.found m.body s.body s.kind s.serial head.serial few a b
    ∙ ap (λ (h : Fields). Some (record { little = little; kind = m.kind; flags = m.flags; serial = m.serial; fields = h; body = m.body })) (sym s.settled)
