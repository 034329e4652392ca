-- The spelling whose fields stand in the order of their codes.
use Rattle.std.specs.Prelude.{◌≡◌, ℕ, ◌<◌, ◌≤◌, ⊤, List, length, Option, Some, None, Result, Ok, Err}
use Rattle.wire_value.specs.Types.{byte, uint32, Textual, string, object_path, signature}
use Rattle.wire_value.specs.Plain.{Plain, number, words, struct, variant, Plains, none, more}
use Rattle.wire_value.specs.Sizes.{aligned, end_all}
use Rattle.dbus_wire.specs.Fields.{Fields}
use Rattle.dbus_wire.specs.Spelling.{PlainMessage, Spells}

-- a field: its code and its value
abbrev pub field : ℕ → Plain → Plain
field c v = struct (more (number byte c) (more (variant v) none))

-- a field that is there, and those behind it
abbrev pub words_field : ℕ → Textual → Option (List ℕ) → Plains → Plains
words_field c k None others = others
words_field c k (Some t) others = more (field c (words k t)) others

abbrev pub number_field : ℕ → Option ℕ → Plains → Plains
number_field c None others = others
number_field c (Some x) others = more (field c (number uint32 x)) others

-- the fields that are there
abbrev pub in_order : Fields → Plains
in_order h =
    words_field 1 object_path h.path (words_field 2 string h.interface
    (words_field 3 string h.member (words_field 4 string h.error_name
    (number_field 5 h.reply_serial (words_field 6 string h.destination
    (words_field 7 string h.sender (words_field 8 signature h.signature
    (number_field 9 h.fds none))))))))

-- where they end, and where the body begins
abbrev pub fields_end : PlainMessage → ℕ
fields_end m = end_all 16 (in_order m.fields)

abbrev pub body_start : PlainMessage → ℕ
body_start m = aligned 8 (fields_end m)

-- The text is the spelling of the message whose fields stand in that order.
pub record SpellsInOrder (text : List ℕ) (m : PlainMessage) : Type 0 where
  pub spells : Spells text m
  pub fields : spells.fields ≡ in_order m.fields

-- that spelling has so many bytes
abbrev pub IsSpelledIn : PlainMessage → ℕ → Type 0
IsSpelledIn m n = (text : List ℕ) × SpellsInOrder text m × (length text ≡ n)

-- the grammar has a spelling of the message
abbrev pub HasSpelling : PlainMessage → Type 0
HasSpelling m = (text : List ℕ) × Spells text m
