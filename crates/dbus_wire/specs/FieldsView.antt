-- The fields of a header, as contracts see those of the code.
use Rattle.std.specs.Prelude.{List, ℕ, Option, option_map, Result}
use Rattle.std.specs.Borrow.{Bor}
use Rattle.wire_value.specs.Plain.{Plain}
use Rattle.wire_value.specs.Reading.{At}
use Rattle.wire_value.specs.Gives.{Gives, at}
use Rattle.wire_value.specs.View.{view}
use Rattle.wire_value.specs.declared.error.ReadError.{ReadError}
use Rattle.wire_value.specs.declared.place.Place.{Place}
use Rattle.wire_value.specs.declared.value.Value.{Value}
use Rattle.dbus_wire.specs.Fields as plain
use Rattle.dbus_wire.specs.declared.fields.Fields.{Fields}

-- the text that was lent, if any
abbrev pub lent : Option (Bor (List ℕ)) → Option (List ℕ)
lent found = option_map (λ r. r.now) found

abbrev pub plain_fields : Fields → plain.Fields
plain_fields h = record {
  path = h.path;
  interface = h.interface;
  member = h.member;
  error_name = h.error_name;
  reply_serial = h.reply_serial;
  destination = h.destination;
  sender = h.sender;
  signature = h.signature;
  fds = h.fds;
}

-- the code and the value of a field, which was lent
abbrev pub lent_field : Option (ℕ × Bor Value) → Option (ℕ × Plain)
lent_field found = option_map (λ x. (x.0, view x.1.now)) found

-- what was said with the field that was read
abbrev pub GivesSaid : {X : Type 0} → Fields → Result X ReadError → Option plain.Fields → Type 0
GivesSaid said result read = Gives (λ _. plain_fields said) result read

-- what the fields that were read say, and the place behind them
abbrev pub GivesFields : Result (Fields × Place) ReadError → Option (plain.Fields × At) → Type 0
GivesFields result read = Gives (λ x. (plain_fields x.0, at x.1)) result read
