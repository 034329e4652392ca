-- Which fields the grammar spells, and where they end in the order of their codes.
use Rattle.std.specs.Prelude.{ℕ, ◌+◌, ◌<◌, ◌^◌, Bool, true, ◌&&◌, nat_lt, nat_le, List, length, Option, Some, None, IfSome}
use Rattle.wire_value.specs.Types.{string, signature}
use Rattle.wire_value.specs.Plain.{Plains, none}
use Rattle.wire_value.specs.Spelling.{gap, is_path}
use Rattle.wire_value.specs.Sizes.{end_all}
use Rattle.wire_value.specs.Reading.{is_string, is_signature}
use Rattle.dbus_wire.specs.Names.{is_interface, is_member}
use Rattle.dbus_wire.specs.Fields.{Fields, has_needed}
use Rattle.dbus_wire.specs.Spelling.{PlainMessage}
use Rattle.dbus_wire.specs.InOrder.{words_field, number_field}

abbrev pub if_there : {A : Type 0} → (A → Bool) → Option A → Bool
if_there p None = true
if_there p (Some x) = p x

-- no longer than the fields together may be
abbrev pub is_short_string : List ℕ → Bool
is_short_string t = nat_le (length t) (2 ^ 26) && is_string t

abbrev pub is_path_text : List ℕ → Bool
is_path_text t = is_short_string t && is_path t

abbrev pub is_interface_text : List ℕ → Bool
is_interface_text t = is_short_string t && is_interface t

abbrev pub is_member_text : List ℕ → Bool
is_member_text t = is_short_string t && is_member t

-- each field that is there has its form
abbrev pub are_names : Fields → Bool
are_names h =
    (if_there is_path_text h.path && if_there is_interface_text h.interface)
    && (if_there is_member_text h.member && if_there is_interface_text h.error_name)

abbrev pub are_others : Fields → Bool
are_others h =
    (if_there (λ n. nat_lt 0 n) h.reply_serial && if_there is_short_string h.destination)
    && (if_there is_short_string h.sender && if_there is_signature h.signature)

abbrev pub are_fields : Fields → Bool
are_fields h = are_names h && are_others h

-- where the value of a field at an offset begins: behind its padding, its code and its type
abbrev pub value_start : ℕ → ℕ
value_start n = n + gap 8 n + 4

-- where the field of a text at an offset ends, of a string or a path and of any code
abbrev pub text_end : Option (List ℕ) → ℕ → ℕ
text_end t n = end_all n (words_field 2 string t none)

abbrev pub number_end : Option ℕ → ℕ → ℕ
number_end x n = end_all n (number_field 5 x none)

abbrev pub signature_end : Option (List ℕ) → ℕ → ℕ
signature_end t n = end_all n (words_field 8 signature t none)

-- kind, serial and fields are such that the grammar may spell them
abbrev pub has_head : PlainMessage → Bool
has_head m =
    (nat_lt 0 m.kind && nat_lt 0 m.serial) && (are_fields m.fields && has_needed m.kind m.fields)

-- the numbers of a header have their lengths
abbrev pub HeadFits : ℕ → ℕ → ℕ → Type 0
HeadFits kind flags serial = (kind < 256) × (flags < 256) × (serial < 2 ^ 32)

abbrev pub NumbersFit : Option ℕ → Option ℕ → Type 0
NumbersFit reply fds = IfSome reply (λ x. x < 2 ^ 32) × IfSome fds (λ x. x < 2 ^ 32)
