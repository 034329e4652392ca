-- The fields in the order of their codes say what they were made of.
use Rattle.std.proofs.Common.{◌≡◌, ℕ, suc, ◌+◌, ◌<◌, ◌≤◌, ◌^◌, max, Bool, true, false, cond, eqb, ltb, List, [], ◌∷◌, ◌++◌, length, Option, Some, None, refl, sym, ap, subst, ◌∙◌, arith, inl}
use Rattle.std.proofs.lemmas.Bool.{ltb-true, lt-ltb}
use Rattle.wire_value.specs.Types.{byte, uint32, Textual, string, object_path, signature, textual, fixed, textual_letter, IsType, IsSignature, ty_basic, ty_variant}
use Rattle.wire_value.specs.Plain.{Plain, number, words, array, struct, entry, variant, Plains, none, more, nests}
use Rattle.wire_value.specs.Spelling.{gap, spell, IsString, IsTextual, IsValue, AreOf, is_path}
use Rattle.wire_value.specs.Reading.{◌>>=◌, is_string, is_signature}
use Rattle.wire_value.proofs.Steps.{string_takes, both_true}
use Rattle.wire_value.proofs.Signatures.{signature_is}
use Rattle.dbus_wire.specs.Names.{is_interface, is_member}
use Rattle.dbus_wire.specs.Fields.{Fields, no_fields, with_field, said}
use Rattle.dbus_wire.specs.Spelling.{field_type}
use Rattle.dbus_wire.specs.InOrder.{field, words_field, number_field, in_order}
use Rattle.dbus_wire.specs.Checking.{if_there, is_short_string, is_path_text, is_interface_text, is_member_text, are_fields}
use Rattle.dbus_wire.proofs.Headers.{byte_is}
use Rattle.dbus_wire.proofs.Checked.{from_fds, from_signature, from_sender, from_destination, from_reply, from_error, from_member, from_interface, Formed, formed, short_is}
use Rattle.dbus_wire.proofs.Folded.{Of, Good}

-- ---- one after the other

path_said : (h : Fields) (t : Option (List ℕ)) (others : Plains) → h.path ≡ None → Of (λ x. IsString x × (is_path x ≡ true)) t → said h (words_field 1 object_path t others) ≡ said (record h { path = t }) others
unfolding said with_field
path_said h None others e ok = ap (λ (x : Option (List ℕ)). said (record h { path = x }) others) e
path_said h (Some x) others e ok = rw e refl

interface_said : (h : Fields) (t : Option (List ℕ)) (others : Plains) → h.interface ≡ None → Of (λ x. IsString x × (is_interface x ≡ true)) t → said h (words_field 2 string t others) ≡ said (record h { interface = t }) others
unfolding said with_field
interface_said h None others e ok = ap (λ (x : Option (List ℕ)). said (record h { interface = x }) others) e
interface_said h (Some x) others e ok = rw (e, ok.1) refl

member_said : (h : Fields) (t : Option (List ℕ)) (others : Plains) → h.member ≡ None → Of (λ x. IsString x × (is_member x ≡ true)) t → said h (words_field 3 string t others) ≡ said (record h { member = t }) others
unfolding said with_field
member_said h None others e ok = ap (λ (x : Option (List ℕ)). said (record h { member = x }) others) e
member_said h (Some x) others e ok = rw (e, ok.1) refl

error_name_said : (h : Fields) (t : Option (List ℕ)) (others : Plains) → h.error_name ≡ None → Of (λ x. IsString x × (is_interface x ≡ true)) t → said h (words_field 4 string t others) ≡ said (record h { error_name = t }) others
unfolding said with_field
error_name_said h None others e ok = ap (λ (x : Option (List ℕ)). said (record h { error_name = x }) others) e
error_name_said h (Some x) others e ok = rw (e, ok.1) refl

reply_serial_said : (h : Fields) (t : Option ℕ) (others : Plains) → h.reply_serial ≡ None → Of (λ x. 0 < x) t → said h (number_field 5 t others) ≡ said (record h { reply_serial = t }) others
unfolding said with_field
reply_serial_said h None others e ok = ap (λ (x : Option ℕ). said (record h { reply_serial = x }) others) e
reply_serial_said h (Some x) others e ok = rw (e, lt-ltb 0 x ok) refl

destination_said : (h : Fields) (t : Option (List ℕ)) (others : Plains) → h.destination ≡ None → Of (λ x. IsString x) t → said h (words_field 6 string t others) ≡ said (record h { destination = t }) others
unfolding said with_field
destination_said h None others e ok = ap (λ (x : Option (List ℕ)). said (record h { destination = x }) others) e
destination_said h (Some x) others e ok = rw e refl

sender_said : (h : Fields) (t : Option (List ℕ)) (others : Plains) → h.sender ≡ None → Of (λ x. IsString x) t → said h (words_field 7 string t others) ≡ said (record h { sender = t }) others
unfolding said with_field
sender_said h None others e ok = ap (λ (x : Option (List ℕ)). said (record h { sender = x }) others) e
sender_said h (Some x) others e ok = rw e refl

signature_said : (h : Fields) (t : Option (List ℕ)) (others : Plains) → h.signature ≡ None → Of (λ x. IsSignature x) t → said h (words_field 8 signature t others) ≡ said (record h { signature = t }) others
unfolding said with_field
signature_said h None others e ok = ap (λ (x : Option (List ℕ)). said (record h { signature = x }) others) e
signature_said h (Some x) others e ok = rw e refl

fds_said : (h : Fields) (t : Option ℕ) → h.fds ≡ None → said h (number_field 9 t none) ≡ Some (record h { fds = t })
unfolding said with_field
fds_said h None e = ap (λ (x : Option ℕ). Some (record h { fds = x })) e
fds_said h (Some x) e = rw e refl

module _ (h : Fields) (good : Good h) where
  abbrev to_path : Fields
  to_path = record no_fields { path = h.path }

  abbrev to_interface : Fields
  to_interface = record to_path { interface = h.interface }

  abbrev to_member : Fields
  to_member = record to_interface { member = h.member }

  abbrev to_error_name : Fields
  to_error_name = record to_member { error_name = h.error_name }

  abbrev to_reply_serial : Fields
  to_reply_serial = record to_error_name { reply_serial = h.reply_serial }

  abbrev to_destination : Fields
  to_destination = record to_reply_serial { destination = h.destination }

  abbrev to_sender : Fields
  to_sender = record to_destination { sender = h.sender }

  abbrev to_signature : Fields
  to_signature = record to_sender { signature = h.signature }

  pub said_in_order : said no_fields (in_order h) ≡ Some h
  said_in_order =
      path_said no_fields h.path (from_interface h) refl good.path
      ∙ interface_said to_path h.interface (from_member h) refl good.interface
      ∙ member_said to_interface h.member (from_error h) refl good.member
      ∙ error_name_said to_member h.error_name (from_reply h) refl good.error_name
      ∙ reply_serial_said to_error_name h.reply_serial (from_destination h) refl good.reply_serial
      ∙ destination_said to_reply_serial h.destination (from_sender h) refl good.destination
      ∙ sender_said to_destination h.sender (from_signature h) refl good.sender
      ∙ signature_said to_sender h.signature (from_fds h) refl good.signature
      ∙ fds_said to_signature h.fds refl

-- ---- each is a field

variant_is : IsType (118 ∷ [])
variant_is = record { kind = ty_variant; is = refl; arrays = omega arith; structs = omega arith }

letter_is : (k : Textual) → IsType (textual_letter k ∷ [])
letter_is k = record { kind = ty_basic (textual k); is = refl; arrays = omega arith; structs = omega arith }

number_letter_is : IsType (117 ∷ [])
number_letter_is = record { kind = ty_basic (fixed uint32); is = refl; arrays = omega arith; structs = omega arith }

module _ (little : Bool) where
  abbrev Are : Plains → Type 0
  Are fs = (n : ℕ) → AreOf little field_type n fs

  words_are : (c : ℕ) (k : Textual) (t : Option (List ℕ)) (others : Plains) → c < 256 → Of (IsTextual k) t → Are others → Are (words_field c k t others)
  words_are c k None others lt ok rest n = rest n
  words_are c k (Some t) others lt ok rest n = (refl, (byte_is, lt, (variant_is, (letter_is k, omega arith, ok), tt)), rest (n + length (spell little n (field c (words k t)))))

  number_are : (c : ℕ) (x : Option ℕ) (others : Plains) → c < 256 → Of (λ y. y < 2 ^ 32) x → Are others → Are (number_field c x others)
  number_are c None others lt ok rest n = rest n
  number_are c (Some x) others lt ok rest n = (refl, (byte_is, lt, (variant_is, (number_letter_is, omega arith, ok), tt)), rest (n + length (spell little n (field c (number uint32 x)))))

  first : (P : List ℕ → Type 0) (t : Option (List ℕ)) → Of (λ x. IsString x × P x) t → Of (λ x. IsString x) t
  first P None ok = tt
  first P (Some x) ok = ok.0

  path_of : (t : Option (List ℕ)) → Of (λ x. IsString x × (is_path x ≡ true)) t → Of (IsTextual object_path) t
  path_of None ok = tt
  path_of (Some x) ok = ok

  string_of : (t : Option (List ℕ)) → Of (λ x. IsString x) t → Of (IsTextual string) t
  string_of None ok = tt
  string_of (Some x) ok = ok

  signature_of : (t : Option (List ℕ)) → Of (λ x. IsSignature x) t → Of (IsTextual signature) t
  signature_of None ok = tt
  signature_of (Some x) ok = ok

  none_are : Are none
  none_are n = tt

  pub are_in_order : (h : Fields) → Good h → Of (λ x. x < 2 ^ 32) h.reply_serial → Of (λ x. x < 2 ^ 32) h.fds → Are (in_order h)
  are_in_order h good reply fds =
      words_are 1 object_path h.path (from_interface h) (omega arith) (path_of h.path good.path)
      (words_are 2 string h.interface (from_member h) (omega arith) (string_of h.interface (first (λ x. is_interface x ≡ true) h.interface good.interface))
      (words_are 3 string h.member (from_error h) (omega arith) (string_of h.member (first (λ x. is_member x ≡ true) h.member good.member))
      (words_are 4 string h.error_name (from_reply h) (omega arith) (string_of h.error_name (first (λ x. is_interface x ≡ true) h.error_name good.error_name))
      (number_are 5 h.reply_serial (from_destination h) (omega arith) reply
      (words_are 6 string h.destination (from_sender h) (omega arith) (string_of h.destination good.destination)
      (words_are 7 string h.sender (from_signature h) (omega arith) (string_of h.sender good.sender)
      (words_are 8 signature h.signature (from_fds h) (omega arith) (signature_of h.signature good.signature)
      (number_are 9 h.fds none (omega arith) fds none_are))))))))

-- ---- two containers nest in each

words_nest : (c : ℕ) (k : Textual) (t : Option (List ℕ)) (others : Plains) → nests others ≤ 2 → nests (words_field c k t others) ≤ 2
words_nest c k None others h = h
words_nest c k (Some t) others h = omega arith

number_nest : (c : ℕ) (x : Option ℕ) (others : Plains) → nests others ≤ 2 → nests (number_field c x others) ≤ 2
number_nest c None others h = h
number_nest c (Some x) others h = omega arith

none_nest : nests none ≤ 2
none_nest = omega arith

pub nest_in_order : (h : Fields) → nests (in_order h) ≤ 2
nest_in_order h =
    words_nest 1 object_path h.path (from_interface h) (words_nest 2 string h.interface (from_member h) (words_nest 3 string h.member (from_error h) (words_nest 4 string h.error_name (from_reply h)
    (number_nest 5 h.reply_serial (from_destination h) (words_nest 6 string h.destination (from_sender h) (words_nest 7 string h.sender (from_signature h) (words_nest 8 signature h.signature (from_fds h)
    (number_nest 9 h.fds none none_nest))))))))

-- ---- what the tests say

string_is : (t : List ℕ) → is_short_string t ≡ true → IsString t
string_is t e = let short = short_is t e in string_takes t (omega arith) (both_true _ _ e).1

good_text : (t : Option (List ℕ)) → if_there is_short_string t ≡ true → Of (λ x. IsString x) t
good_text None e = tt
good_text (Some t) e = string_is t e

good_path : (t : Option (List ℕ)) → if_there is_path_text t ≡ true → Of (λ x. IsString x × (is_path x ≡ true)) t
good_path None e = tt
good_path (Some t) e = let b = both_true _ _ e in (string_is t b.0, b.1)

good_interface : (t : Option (List ℕ)) → if_there is_interface_text t ≡ true → Of (λ x. IsString x × (is_interface x ≡ true)) t
good_interface None e = tt
good_interface (Some t) e = let b = both_true _ _ e in (string_is t b.0, b.1)

good_member : (t : Option (List ℕ)) → if_there is_member_text t ≡ true → Of (λ x. IsString x × (is_member x ≡ true)) t
good_member None e = tt
good_member (Some t) e = let b = both_true _ _ e in (string_is t b.0, b.1)

good_serial : (x : Option ℕ) → if_there (λ n. ltb 0 n) x ≡ true → Of (λ n. 0 < n) x
good_serial None e = tt
good_serial (Some x) e = ltb-true _ _ e

good_signature : (t : Option (List ℕ)) → if_there is_signature t ≡ true → Of (λ x. IsSignature x) t
good_signature None e = tt
good_signature (Some t) e = signature_is t e

pub good_of : (h : Fields) → are_fields h ≡ true → Good h
good_of h e =
    let f = formed h e in
    record {
      path = good_path h.path f.path;
      interface = good_interface h.interface f.interface;
      member = good_member h.member f.member;
      error_name = good_interface h.error_name f.error_name;
      reply_serial = good_serial h.reply_serial f.reply_serial;
      destination = good_text h.destination f.destination;
      sender = good_text h.sender f.sender;
      signature = good_signature h.signature f.signature;
    }
