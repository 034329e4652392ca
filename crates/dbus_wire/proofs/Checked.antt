-- Where the fields end in the order of their codes, one after the other.
use Rattle.std.proofs.Common.{◌≡◌, ℕ, ◌+◌, ◌<◌, ◌≤◌, ◌^◌, Bool, true, false, ◌&&◌, List, [], ◌∷◌, length, Option, Some, None, refl, sym, ap, ◌∙◌, arith}
use Rattle.std.specs.Prelude.{IfSome, nat_lt}
use Rattle.std.proofs.lemmas.Bool.{leb-true}
use Rattle.wire_value.specs.Types.{string, object_path, signature}
use Rattle.wire_value.specs.Plain.{Plains, none}
use Rattle.wire_value.specs.Spelling.{gap}
use Rattle.wire_value.specs.Sizes.{end_all}
use Rattle.wire_value.specs.Reading.{is_signature, are_types}
use Rattle.wire_value.proofs.Steps.{suc_is_not, both_true}
use Rattle.dbus_wire.specs.Fields.{Fields, if_any}
use Rattle.dbus_wire.specs.InOrder.{words_field, number_field, in_order}
use Rattle.dbus_wire.specs.Checking.{if_there, is_short_string, is_path_text, is_interface_text, is_member_text, are_fields, value_start, text_end, number_end, signature_end}
use Rattle.dbus_wire.proofs.Headers.{gap_1}

pub some_if_any : (c : ℕ) (s : List ℕ) → if_any (c ∷ s) ≡ Some (c ∷ s)
some_if_any c s = rw suc_is_not refl

no_types : is_signature [] ≡ true
unfolding are_types
no_types = refl

pub signature_field : (s : List ℕ) → if_there is_signature (if_any s) ≡ is_signature s
signature_field [] = sym no_types
signature_field (c ∷ s) = ap (if_there is_signature) (some_if_any c s)

-- a byte has no padding, so a value begins four bytes behind that of its field
pub value_from : (n : ℕ) → n + gap 8 n + gap 1 (n + gap 8 n) + 1 + 1 + 1 + 1 ≡ value_start n
value_from n = omega (arith, gap_1 (n + gap 8 n))

pub text_is : (t : List ℕ) (n : ℕ) → text_end (Some t) n ≡ value_start n + gap 4 (value_start n) + 4 + length t + 1
text_is t n = ap (λ (k : ℕ). k + gap 4 k + 4 + length t + 1) (value_from n)

pub number_is : (x n : ℕ) → number_end (Some x) n ≡ value_start n + gap 4 (value_start n) + 4
number_is x n = ap (λ (k : ℕ). k + gap 4 k + 4) (value_from n)

pub no_signature : (s : List ℕ) (n : ℕ) → length s ≡ 0 → signature_end (if_any s) n ≡ n
no_signature [] n e = refl
no_signature (c ∷ s) n e = absurd (omega arith)

pub some_signature : (s : List ℕ) (n : ℕ) → (length s ≡ 0 → ⊥) → signature_end (if_any s) n ≡ value_start n + 1 + length s + 1
some_signature [] n h = absurd (h refl)
some_signature (c ∷ s) n h = ap (λ (t : Option (List ℕ)). signature_end t n) (some_if_any c s) ∙ ap (λ (k : ℕ). k + 1 + length (c ∷ s) + 1) (value_from n)

-- ---- the fields from each one on

abbrev pub from_fds : Fields → Plains
from_fds h = number_field 9 h.fds none

abbrev pub from_signature : Fields → Plains
from_signature h = words_field 8 signature h.signature (from_fds h)

abbrev pub from_sender : Fields → Plains
from_sender h = words_field 7 string h.sender (from_signature h)

abbrev pub from_destination : Fields → Plains
from_destination h = words_field 6 string h.destination (from_sender h)

abbrev pub from_reply : Fields → Plains
from_reply h = number_field 5 h.reply_serial (from_destination h)

abbrev pub from_error : Fields → Plains
from_error h = words_field 4 string h.error_name (from_reply h)

abbrev pub from_member : Fields → Plains
from_member h = words_field 3 string h.member (from_error h)

abbrev pub from_interface : Fields → Plains
from_interface h = words_field 2 string h.interface (from_member h)

-- ---- one after the other

path_step : (t : Option (List ℕ)) (n : ℕ) (others : Plains) → end_all n (words_field 1 object_path t others) ≡ end_all (text_end t n) others
path_step None n others = refl
path_step (Some t) n others = refl

text_step : (c : ℕ) (t : Option (List ℕ)) (n : ℕ) (others : Plains) → end_all n (words_field c string t others) ≡ end_all (text_end t n) others
text_step c None n others = refl
text_step c (Some t) n others = refl

number_step : (c : ℕ) (x : Option ℕ) (n : ℕ) (others : Plains) → end_all n (number_field c x others) ≡ end_all (number_end x n) others
number_step c None n others = refl
number_step c (Some x) n others = refl

signature_step : (t : Option (List ℕ)) (n : ℕ) (others : Plains) → end_all n (words_field 8 signature t others) ≡ end_all (signature_end t n) others
signature_step None n others = refl
signature_step (Some t) n others = refl

module _ (h : Fields) (n : ℕ) where
  abbrev pub to_error : ℕ
  to_error = text_end h.error_name (text_end h.member (text_end h.interface (text_end h.path n)))

  abbrev pub to_sender : ℕ
  to_sender = text_end h.sender (text_end h.destination (number_end h.reply_serial to_error))

  to_error_is : end_all n (in_order h) ≡ end_all to_error (from_reply h)
  to_error_is =
      path_step h.path n (from_interface h)
      ∙ text_step 2 h.interface (text_end h.path n) (from_member h)
      ∙ text_step 3 h.member (text_end h.interface (text_end h.path n)) (from_error h)
      ∙ text_step 4 h.error_name (text_end h.member (text_end h.interface (text_end h.path n))) (from_reply h)

  to_sender_is : end_all to_error (from_reply h) ≡ end_all to_sender (from_signature h)
  to_sender_is =
      number_step 5 h.reply_serial to_error (from_destination h)
      ∙ text_step 6 h.destination (number_end h.reply_serial to_error) (from_sender h)
      ∙ text_step 7 h.sender (text_end h.destination (number_end h.reply_serial to_error)) (from_signature h)

  pub all_end : number_end h.fds (signature_end h.signature to_sender) ≡ end_all n (in_order h)
  all_end = sym (to_error_is ∙ to_sender_is ∙ signature_step h.signature to_sender (from_fds h) ∙ number_step 9 h.fds (signature_end h.signature to_sender) none)

-- ---- no text is too long

pub short_is : (t : List ℕ) → is_short_string t ≡ true → length t ≤ 2 ^ 26
short_is t e = leb-true _ _ (both_true _ _ e).0

short_text : (t : Option (List ℕ)) → if_there is_short_string t ≡ true → IfSome t (λ t. length t ≤ 2 ^ 26)
short_text None e = tt
short_text (Some t) e = short_is t e

short_path : (t : Option (List ℕ)) → if_there is_path_text t ≡ true → IfSome t (λ t. length t ≤ 2 ^ 26)
short_path None e = tt
short_path (Some t) e = short_is t (both_true _ _ e).0

short_interface : (t : Option (List ℕ)) → if_there is_interface_text t ≡ true → IfSome t (λ t. length t ≤ 2 ^ 26)
short_interface None e = tt
short_interface (Some t) e = short_is t (both_true _ _ e).0

short_member : (t : Option (List ℕ)) → if_there is_member_text t ≡ true → IfSome t (λ t. length t ≤ 2 ^ 26)
short_member None e = tt
short_member (Some t) e = short_is t (both_true _ _ e).0

-- the tests of the fields, each by itself
pub record Formed (h : Fields) : Type 0 where
  pub path : if_there is_path_text h.path ≡ true
  pub interface : if_there is_interface_text h.interface ≡ true
  pub member : if_there is_member_text h.member ≡ true
  pub error_name : if_there is_interface_text h.error_name ≡ true
  pub reply_serial : if_there (λ n. nat_lt 0 n) h.reply_serial ≡ true
  pub destination : if_there is_short_string h.destination ≡ true
  pub sender : if_there is_short_string h.sender ≡ true
  pub signature : if_there is_signature h.signature ≡ true

pub formed : (h : Fields) → are_fields h ≡ true → Formed h
formed h e =
    let a = both_true _ _ e in
    let names = both_true _ _ a.0 in
    let first = both_true _ _ names.0 in
    let second = both_true _ _ names.1 in
    let others = both_true _ _ a.1 in
    let third = both_true _ _ others.0 in
    let fourth = both_true _ _ others.1 in
    record { path = first.0; interface = first.1; member = second.0; error_name = second.1; reply_serial = third.0; destination = third.1; sender = fourth.0; signature = fourth.1 }

pub path_fits : (h : Fields) → are_fields h ≡ true → IfSome h.path (λ t. length t ≤ 2 ^ 26)
path_fits h e = short_path h.path (formed h e).path

pub interface_fits : (h : Fields) → are_fields h ≡ true → IfSome h.interface (λ t. length t ≤ 2 ^ 26)
interface_fits h e = short_interface h.interface (formed h e).interface

pub member_fits : (h : Fields) → are_fields h ≡ true → IfSome h.member (λ t. length t ≤ 2 ^ 26)
member_fits h e = short_member h.member (formed h e).member

pub error_fits : (h : Fields) → are_fields h ≡ true → IfSome h.error_name (λ t. length t ≤ 2 ^ 26)
error_fits h e = short_interface h.error_name (formed h e).error_name

pub destination_fits : (h : Fields) → are_fields h ≡ true → IfSome h.destination (λ t. length t ≤ 2 ^ 26)
destination_fits h e = short_text h.destination (formed h e).destination

pub sender_fits : (h : Fields) → are_fields h ≡ true → IfSome h.sender (λ t. length t ≤ 2 ^ 26)
sender_fits h e = short_text h.sender (formed h e).sender

signature_short : (s : List ℕ) → if_there is_signature (if_any s) ≡ true → length s ≤ 255
signature_short s e = leb-true _ _ (both_true _ _ (sym (signature_field s) ∙ e)).0

pub signature_fits : (h : Fields) (s : List ℕ) → h.signature ≡ if_any s → are_fields h ≡ true → length s ≤ 255
signature_fits h s is e = signature_short s (sym (ap (if_there is_signature) is) ∙ (formed h e).signature)
