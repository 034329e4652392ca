-- What the fields of a header say (D-Bus specification, "Header Fields").
use Rattle.std.specs.Prelude.{ℕ, Bool, true, false, ◌&&◌, ◌==◌, nat_lt, if◌then◌else◌, List, [], length, Option, Some, None, is_some, option_map}
use Rattle.wire_value.specs.Types.{byte, uint32, string, object_path, signature}
use Rattle.wire_value.specs.Plain.{Plain, number, words, struct, variant, Plains, none, more}
use Rattle.wire_value.specs.Reading.{◌>>=◌}
use Rattle.dbus_wire.specs.Names.{is_interface, is_member}

-- a field that is left out is None
pub record Fields : Type 0 where
  pub path : Option (List ℕ)
  pub interface : Option (List ℕ)
  pub member : Option (List ℕ)
  pub error_name : Option (List ℕ)
  pub reply_serial : Option ℕ
  pub destination : Option (List ℕ)
  pub sender : Option (List ℕ)
  pub signature : Option (List ℕ)
  pub fds : Option ℕ

abbrev pub no_fields : Fields
no_fields = record {
  path = None;
  interface = None;
  member = None;
  error_name = None;
  reply_serial = None;
  destination = None;
  sender = None;
  signature = None;
  fds = None;
}

-- ---- the value of a field

abbrev pub only_if : {A : Type 0} → Bool → A → Option A
only_if b x = if b then Some x else None

abbrev pub path_in : Plain → Option (List ℕ)
path_in (words object_path t) = Some t
path_in _ = None

abbrev pub string_in : Plain → Option (List ℕ)
string_in (words string t) = Some t
string_in _ = None

abbrev pub signature_in : Plain → Option (List ℕ)
signature_in (words signature t) = Some t
signature_in _ = None

abbrev pub number_in : Plain → Option ℕ
number_in (number uint32 x) = Some x
number_in _ = None

abbrev pub interface_in : Plain → Option (List ℕ)
interface_in v = string_in v >>= λ t. only_if (is_interface t) t

abbrev pub member_in : Plain → Option (List ℕ)
member_in v = string_in v >>= λ t. only_if (is_member t) t

-- the serial that is replied to
abbrev pub serial_in : Plain → Option ℕ
serial_in v = number_in v >>= λ x. only_if (nat_lt 0 x) x

-- ---- the fields, one after the other

-- a field stands once at most: what it said before, and what it says now
abbrev pub once : {A : Type 0} → Option A → Option A → Option (Option A)
once None (Some x) = Some (Some x)
once _ _ = None

-- The field of a code: 0 is bad, and those above 9 are dropped.
unfoldable pub with_field : Fields → ℕ → Plain → Option Fields
with_field h c v =
    if c == 0 then None
    else if c == 1 then option_map (λ x. record h { path = x }) (once h.path (path_in v))
    else if c == 2 then
    option_map (λ x. record h { interface = x }) (once h.interface (interface_in v))
    else if c == 3 then option_map (λ x. record h { member = x }) (once h.member (member_in v))
    else if c == 4 then
    option_map (λ x. record h { error_name = x }) (once h.error_name (interface_in v))
    else if c == 5 then
    option_map (λ x. record h { reply_serial = x }) (once h.reply_serial (serial_in v))
    else if c == 6 then
    option_map (λ x. record h { destination = x }) (once h.destination (string_in v))
    else if c == 7 then option_map (λ x. record h { sender = x }) (once h.sender (string_in v))
    else if c == 8 then
    option_map (λ x. record h { signature = x }) (once h.signature (signature_in v))
    else if c == 9 then option_map (λ x. record h { fds = x }) (once h.fds (number_in v))
    else Some h

-- the code and the value of a field, which is a struct of both
abbrev pub coded : Plain → Plain → Option (ℕ × Plain)
coded (number byte c) (variant v) = Some (c, v)
coded _ _ = None

abbrev pub coded_in : Plains → Option (ℕ × Plain)
coded_in (more c (more v none)) = coded c v
coded_in _ = None

abbrev pub field_in : Plain → Option (ℕ × Plain)
field_in (struct vs) = coded_in vs
field_in _ = None

-- what fields say after what was said before them; None where they may not stand so
unfoldable pub said : Fields → Plains → Option Fields
said h none = Some h
said h (more f fs) = field_in f >>= λ x. with_field h x.0 x.1 >>= λ g. said g fs

-- ---- the whole

abbrev pub text_of : Option (List ℕ) → List ℕ
text_of None = []
text_of (Some s) = s

-- the signature of the body; none is the empty one
abbrev pub signature_of : Fields → List ℕ
signature_of h = text_of h.signature

-- a signature, where it is not empty
abbrev pub if_any : List ℕ → Option (List ℕ)
if_any s = if length s == 0 then None else Some s

-- the same fields, without one of an empty signature
abbrev pub settled : Fields → Fields
settled h = record h { signature = if_any (signature_of h) }

-- the fields that a kind of message has to have: a call, a return, an error and a signal
abbrev pub has_those : (kind : ℕ) (path interface member error_name : Option (List ℕ))
    → (reply : Option ℕ) → Bool
has_those kind path interface member error_name reply =
    if kind == 1 then is_some path && is_some member
    else if kind == 2 then is_some reply
    else if kind == 3 then is_some error_name && is_some reply
    else if kind == 4 then is_some path && (is_some interface && is_some member)
    else true

abbrev pub has_needed : ℕ → Fields → Bool
has_needed kind h = has_those kind h.path h.interface h.member h.error_name h.reply_serial
