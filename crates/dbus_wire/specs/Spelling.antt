-- A message, and its spellings (D-Bus specification, "Message Format").
use Rattle.std.specs.Prelude.{◌≡◌, ℕ, ◌+◌, ◌<◌, Bool, true, false, List, [], ◌∷◌, ◌++◌, length, Option, Some}
use Rattle.wire_value.specs.Types.{byte, uint32, IsSignature}
use Rattle.wire_value.specs.Plain.{number, array, Plains, none, more, sigs}
use Rattle.wire_value.specs.Spelling.{zeros, gap, SpellsAll}
use Rattle.wire_value.specs.Sizes.{aligned}
use Rattle.dbus_wire.specs.Fields.{Fields, no_fields, said, settled, signature_of, has_needed}

-- a message without where it lies in memory
pub record PlainMessage : Type 0 where
  pub little : Bool
  pub kind : ℕ
  pub flags : ℕ
  pub serial : ℕ
  pub fields : Fields
  pub body : Plains

-- l or B
abbrev pub order : Bool → ℕ
order true = 108
order false = 66

-- (yv)
abbrev pub field_type : List ℕ
field_type = 40 ∷ 121 ∷ 118 ∷ 41 ∷ []

-- the values of a header, of the signature yyyyuua(yv), by its fields and the length of the body
abbrev pub header : PlainMessage → Plains → ℕ → Plains
header m fields size =
    more (number byte (order m.little)) (more (number byte m.kind) (more (number byte m.flags)
    (more (number byte 1) (more (number uint32 size) (more (number uint32 m.serial)
    (more (array field_type fields) none))))))

-- The text is a spelling of the message.
pub record Spells (text : List ℕ) (m : PlainMessage) : Type 0 where
  -- the fields of its header in any order, and others among them
  pub fields : Plains
  pub head : List ℕ
  pub body : List ℕ
  pub is : text ≡ head ++ (zeros (gap 8 (length head)) ++ body)
  pub header : SpellsAll m.little 64 0 (header m fields (length body)) head
  pub values : SpellsAll m.little 64 (aligned 8 (length head)) m.body body
  pub found : Fields
  pub says : said no_fields fields ≡ Some found
  pub settled : m.fields ≡ settled found
  pub signature : IsSignature (signature_of m.fields)
  pub typed : sigs m.body ≡ signature_of m.fields
  pub kind : 0 < m.kind
  pub serial : 0 < m.serial
  pub needed : has_needed m.kind m.fields ≡ true
