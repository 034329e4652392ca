-- Which messages have a spelling, and that they have one with its fields in order.
use Rattle.std.proofs.Common.{◌≡◌, ℕ, ◌+◌, ◌-◌, ◌%◌, ◌<◌, ◌≤◌, ◌^◌, Bool, true, false, ◌&&◌, leb, ltb, List, [], ◌∷◌, ◌++◌, length, Option, Some, None, refl, sym, ap, subst, ◌∙◌, arith}
use Rattle.std.proofs.lemmas.Bool.{ltb-true, lt-ltb, le-leb}
use Rattle.wire_value.specs.Types.{IsSignature, no_kinds}
use Rattle.wire_value.specs.Plain.{Plains, sigs, nests}
use Rattle.wire_value.specs.Spelling.{zeros, gap, spells, IsString, AreValues, SpellsAll, is_path}
use Rattle.wire_value.specs.Sizes.{aligned, end_all}
use Rattle.std.specs.Prelude.{IfSome}
use Rattle.wire_value.specs.Standing.{MayStandAll, AllEndAt, AllEndOnlyAt}
use Rattle.wire_value.specs.Reading.{is_string, is_signature}
use Rattle.wire_value.proofs.Steps.{both_true, suc_is_not, string_is}
use Rattle.wire_value.proofs.TypeLaws.{none_some}
use Rattle.wire_value.proofs.Signatures.{signature_again}
use Rattle.wire_value.proofs.Ends.{end_is, end_grows}
use Rattle.dbus_wire.specs.Names.{is_interface, is_member}
use Rattle.dbus_wire.specs.Fields.{Fields, no_fields, text_of, if_any, settled, signature_of, has_needed}
use Rattle.dbus_wire.specs.Spelling.{PlainMessage, Spells, order}
use Rattle.dbus_wire.specs.InOrder.{in_order, fields_end, body_start, SpellsInOrder, IsSpelledIn, HasSpelling}
use Rattle.dbus_wire.specs.Checking.{if_there, is_short_string, is_path_text, is_interface_text, is_member_text, are_names, are_others, are_fields, text_end, number_end, signature_end, has_head}
use Rattle.dbus_wire.proofs.Headers.{Head, head_spells, head_found, head_len, items, flat}
use Rattle.dbus_wire.proofs.Stating.{text_len}
use Rattle.dbus_wire.proofs.ReadAgain.{same_text}
use Rattle.dbus_wire.proofs.Checked.{to_error, to_sender, all_end}
use Rattle.dbus_wire.proofs.Moved.{moved_spells, moved_values}
use Rattle.dbus_wire.proofs.Folded.{Of, Good, none_good, size, text_size, number_size, signature_size, text_sized, number_sized, signature_sized, aligned_most, said_grows}
use Rattle.dbus_wire.proofs.Ordered.{said_in_order, are_in_order, nest_in_order, good_of}

-- ---- a message that has one

pub record Facts (m : PlainMessage) (e : ℕ) : Type 0 where
  pub head : has_head m ≡ true
  pub kind : m.kind < 256
  pub flags : m.flags < 256
  pub serial : m.serial < 2 ^ 32
  pub reply : Of (λ x. x < 2 ^ 32) m.fields.reply_serial
  pub fds : Of (λ x. x < 2 ^ 32) m.fields.fds
  pub normal : m.fields ≡ settled m.fields
  pub few : fields_end m ≤ 67108880
  pub signature : IsSignature (signature_of m.fields)
  pub stand : MayStandAll m.little 64 (signature_of m.fields) (body_start m) m.body e
  pub near : e < body_start m + 2 ^ 32

pub facts_spell : (m : PlainMessage) (e : ℕ) → Facts m e → IsSpelledIn m e
facts_spell m e f =
    let little = m.little in
    let fs = in_order m.fields in
    let tests = both_true _ _ f.head in
    let sent = both_true _ _ tests.0 in
    let formed = both_true _ _ tests.1 in
    let good = good_of m.fields formed.0 in
    let n : 16 + length (items little fs) ≡ fields_end m = end_is little fs 16 in
    let body = spells little (body_start m) m.body in
    let ends : body_start m + length body ≡ e = end_is little m.body (body_start m) ∙ f.stand.ends in
    let front = flat little (order little) m.kind m.flags (length body) m.serial fs in
    let small = f.near in
    let most = f.few in
    let deep = nest_in_order m.fields in
    let top : Head m fs (length body) front = record {
      is = refl;
      kind = f.kind;
      flags = f.flags;
      size = omega arith;
      serial = f.serial;
      short = omega arith;
      are = are_in_order little m.fields good f.reply f.fds 16;
      nests = omega arith;
    } in
    let len : length front ≡ fields_end m = head_len m fs (length body) front top ∙ n in
    let values : SpellsAll little 64 (body_start m) m.body body = record { is = refl; valid = f.stand.valid; nests = f.stand.nests } in
    let spelled : Spells (front ++ (zeros (gap 8 (length front)) ++ body)) m = record {
      fields = fs;
      head = front;
      body = body;
      is = refl;
      header = head_spells m fs (length body) front top;
      values = subst (λ (k : ℕ). SpellsAll little 64 (aligned 8 k) m.body body) (sym len) values;
      found = m.fields;
      says = said_in_order m.fields good;
      settled = f.normal;
      signature = f.signature;
      typed = f.stand.typed;
      kind = ltb-true _ _ sent.0;
      serial = ltb-true _ _ sent.1;
      needed = formed.1;
    } in (
      front ++ (zeros (gap 8 (length front)) ++ body),
      record { spells = spelled; fields = refl },
      text_len (front ++ (zeros (gap 8 (length front)) ++ body)) m spelled ∙ ap (λ (k : ℕ). aligned 8 k + length body) n ∙ ends,
    )

-- ---- one that passes

at_16 : aligned 8 16 ≡ 16
unfolding gap
at_16 = refl

settled_size : (s : Option (List ℕ)) → signature_size (if_any (text_of s)) ≤ signature_size s
settled_size None = omega arith
settled_size (Some []) = omega arith
settled_size (Some (c ∷ s)) = rw suc_is_not (omega arith)

settled_good : (s : Option (List ℕ)) → Of (λ t. IsSignature t) s → Of (λ t. IsSignature t) (if_any (text_of s))
settled_good None ok = tt
settled_good (Some []) ok = tt
settled_good (Some (c ∷ s)) ok = rw suc_is_not ok

record Fitting (h : Fields) : Type 0 where
  pub good : Good h
  pub size : size h ≤ 2 ^ 26

fitting : (text : List ℕ) (m : PlainMessage) → Spells text m → Fitting m.fields
fitting text m s =
    let h = head_found m s.fields (length s.body) s.head s.header in
    let grown = said_grows m.little s.fields 16 no_fields s.found h.are s.says in
    let good = grown.good none_good in
    let ends : 16 + length (items m.little s.fields) ≡ end_all 16 s.fields = end_is m.little s.fields 16 in
    let few = h.short in
    let most : aligned 8 (end_all 16 s.fields) ≤ 16 + 2 ^ 26 = aligned_most (end_all 16 s.fields) (omega arith) in
    let lots : size s.found ≤ 2 ^ 26 = omega (arith, grown.sized, most, at_16) in
    let less = settled_size s.found.signature in
    subst Fitting (sym s.settled) (record {
      good = record {
        path = good.path;
        interface = good.interface;
        member = good.member;
        error_name = good.error_name;
        reply_serial = good.reply_serial;
        destination = good.destination;
        sender = good.sender;
        signature = settled_good s.found.signature good.signature;
      };
      size = omega (arith, lots, less);
    })

sized_in_order : (h : Fields) → aligned 8 (end_all 16 (in_order h)) ≡ 16 + size h
sized_in_order h =
    let a = text_end h.path 16 in
    let b = text_end h.interface a in
    let c = text_end h.member b in
    let d = to_error h 16 in
    let e = number_end h.reply_serial d in
    let f = text_end h.destination e in
    let g = to_sender h 16 in
    let i = signature_end h.signature g in
    ap (aligned 8) (sym (all_end h 16))
    ∙ omega (arith, text_sized h.path 16, text_sized h.interface a, text_sized h.member b, text_sized h.error_name c, number_sized h.reply_serial d, text_sized h.destination e, text_sized h.sender f, signature_sized h.signature g, number_sized h.fds i, at_16)

-- ---- each test

below_size : (t : List ℕ) (k : ℕ) → text_size (Some t) ≤ k → length t ≤ k
below_size t k h = omega arith

string_short : (t : List ℕ) → IsString t → length t ≤ 2 ^ 26 → is_short_string t ≡ true
string_short t is le = rw (le-leb _ _ le) (string_is t is)

both : (a b : Bool) → a ≡ true → b ≡ true → (a && b) ≡ true
both a b e f = rw (e, f) refl

text_test : (t : Option (List ℕ)) → Of (λ x. IsString x) t → text_size t ≤ 2 ^ 26 → if_there is_short_string t ≡ true
text_test None ok le = refl
text_test (Some t) ok le = string_short t ok (below_size t (2 ^ 26) le)

path_test : (t : Option (List ℕ)) → Of (λ x. IsString x × (is_path x ≡ true)) t → text_size t ≤ 2 ^ 26 → if_there is_path_text t ≡ true
path_test None ok le = refl
path_test (Some t) ok le = both _ _ (string_short t ok.0 (below_size t (2 ^ 26) le)) ok.1

interface_test : (t : Option (List ℕ)) → Of (λ x. IsString x × (is_interface x ≡ true)) t → text_size t ≤ 2 ^ 26 → if_there is_interface_text t ≡ true
interface_test None ok le = refl
interface_test (Some t) ok le = both _ _ (string_short t ok.0 (below_size t (2 ^ 26) le)) ok.1

member_test : (t : Option (List ℕ)) → Of (λ x. IsString x × (is_member x ≡ true)) t → text_size t ≤ 2 ^ 26 → if_there is_member_text t ≡ true
member_test None ok le = refl
member_test (Some t) ok le = both _ _ (string_short t ok.0 (below_size t (2 ^ 26) le)) ok.1

serial_test : (x : Option ℕ) → Of (λ n. 0 < n) x → if_there (λ n. ltb 0 n) x ≡ true
serial_test None ok = refl
serial_test (Some x) ok = lt-ltb 0 x ok

signature_test : (t : Option (List ℕ)) → Of (λ x. IsSignature x) t → if_there is_signature t ≡ true
signature_test None ok = refl
signature_test (Some t) ok = signature_again t ok

names_test : (h : Fields) → Fitting h → are_names h ≡ true
names_test h f =
    let most = f.size in
    both _ _
    (both _ _ (path_test h.path f.good.path (omega arith)) (interface_test h.interface f.good.interface (omega arith)))
    (both _ _ (member_test h.member f.good.member (omega arith)) (interface_test h.error_name f.good.error_name (omega arith)))

others_test : (h : Fields) → Fitting h → are_others h ≡ true
others_test h f =
    let most = f.size in
    both _ _
    (both _ _ (serial_test h.reply_serial f.good.reply_serial) (text_test h.destination f.good.destination (omega arith)))
    (both _ _ (text_test h.sender f.good.sender (omega arith)) (signature_test h.signature f.good.signature))

pub record Passes (m : PlainMessage) : Type 0 where
  pub head : has_head m ≡ true
  pub few : fields_end m ≤ 67108880
  pub signature : IsSignature (signature_of m.fields)
  pub stand : MayStandAll m.little 64 (signature_of m.fields) (body_start m) m.body (end_all (body_start m) m.body)
  pub near : end_all (body_start m) m.body < body_start m + 2 ^ 32

same_aligned : (a b : ℕ) → aligned 8 a % 8 ≡ aligned 8 b % 8
unfolding gap
same_aligned a b = omega arith

pub passes : (m : PlainMessage) → HasSpelling m → Passes m
passes m x =
    let s = x.1 in
    let h = head_found m s.fields (length s.body) s.head s.header in
    let f = fitting x.0 m s in
    let lots = f.size in
    let same = same_aligned (length s.head) (fields_end m) in
    let body : length (spells m.little (body_start m) m.body) ≡ length s.body = ap length (sym (moved_spells m.little m.body (aligned 8 (length s.head)) (body_start m) same)) ∙ sym (ap length s.values.is) in
    let small = h.size in
    record {
      head = both _ _ (both _ _ (lt-ltb _ _ s.kind) (lt-ltb _ _ s.serial)) (both _ _ (both _ _ (names_test m.fields f) (others_test m.fields f)) s.needed);
      few = omega (arith, sized_in_order m.fields, lots);
      signature = s.signature;
      stand = record { valid = moved_values m.little m.body (aligned 8 (length s.head)) (body_start m) same s.values.valid; typed = s.typed; nests = s.values.nests; ends = refl };
      near = omega (arith, sym (end_is m.little m.body (body_start m)), body, small);
    }

-- ---- what the code finds out

pub head_fields : (m : PlainMessage) → has_head m ≡ true → are_fields m.fields ≡ true
head_fields m e = (both_true _ _ (both_true _ _ e).1).0

signature_by : (s : List ℕ) → Of (λ t. IsSignature t) (if_any s) → IsSignature s
signature_by [] ok = record { kinds = no_kinds; is = refl; short = omega arith; arrays = omega arith; structs = omega arith }
signature_by (c ∷ s) ok = rw suc_is_not at ok

pub head_signature : (m : PlainMessage) (s : List ℕ) → m.fields.signature ≡ if_any s → has_head m ≡ true → IsSignature s
head_signature m s is e = signature_by s (subst (Of (λ t. IsSignature t)) is (good_of m.fields (head_fields m e)).signature)

same_signature_text : (h : Fields) (s : List ℕ) → h.signature ≡ if_any s → signature_of h ≡ s
same_signature_text h s is = ap text_of is ∙ same_text s

normal : (h : Fields) (s : List ℕ) → h.signature ≡ if_any s → h ≡ settled h
normal h s is = ap (λ (t : Option (List ℕ)). record h { signature = t }) (is ∙ ap if_any (sym (same_signature_text h s is)))

of_number : (o : Option ℕ) → IfSome o (λ x. x < 2 ^ 32) → Of (λ x. x < 2 ^ 32) o
of_number None h = tt
of_number (Some x) h = h

module _ (m : PlainMessage) (s : List ℕ) (is : m.fields.signature ≡ if_any s) (fe st : ℕ) (at_fields : fe ≡ fields_end m) (at_start : st ≡ fe + gap 8 fe) where
  begins : st ≡ body_start m
  begins = at_start ∙ ap (λ (k : ℕ). k + gap 8 k) at_fields

  pub layout_found : (e : ℕ) → has_head m ≡ true → (m.kind < 256) × (m.flags < 256) × (m.serial < 2 ^ 32) → (IfSome m.fields.reply_serial (λ x. x < 2 ^ 32)) × (IfSome m.fields.fds (λ x. x < 2 ^ 32))
      → fe ≤ 67108880 → AllEndAt (st + 4294967295) 64 s st m.body (Some e) → IsSpelledIn m e
  layout_found e head fits numbers few ends =
      let found = ends m.little in
      let same = same_signature_text m.fields s is in
      let stand = subst (λ (k : ℕ). MayStandAll m.little 64 s k m.body e) begins found.0 in
      let most = found.1 in
      facts_spell m e (record {
        head = head;
        kind = fits.0;
        flags = fits.1;
        serial = fits.2;
        reply = of_number m.fields.reply_serial numbers.0;
        fds = of_number m.fields.fds numbers.1;
        normal = normal m.fields s is;
        few = omega arith;
        signature = subst IsSignature (sym same) (head_signature m s is head);
        stand = subst (λ (t : List ℕ). MayStandAll m.little 64 t (body_start m) m.body e) (sym same) stand;
        near = omega (arith, most, begins);
      })

  pub layout_only : (o : Option ℕ) → HasSpelling m → AllEndOnlyAt (st + 4294967295) 64 s st m.body o → (e : ℕ) × (o ≡ Some e)
  layout_only o x only =
      let p = passes m x in
      let e = end_all (body_start m) m.body in
      let same = same_signature_text m.fields s is in
      let stand = subst (λ (k : ℕ). MayStandAll m.little 64 s k m.body e) (sym begins) (subst (λ (t : List ℕ). MayStandAll m.little 64 t (body_start m) m.body e) same p.stand) in
      (e, only m.little e stand (omega (arith, p.near, begins)))

pub no_layout : (o : Option ℕ) → o ≡ None → (e : ℕ) × (o ≡ Some e) → ⊥
no_layout o e x = none_some x.0 (sym e ∙ x.1)
