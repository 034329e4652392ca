-- A message as it is written, part by part.
use Rattle.std.specs.Prelude.{◌≡◌, ℕ, Bool, List, [], ◌∷◌, ◌++◌, length, Result, OnOk, Vec}
use Rattle.std.specs.Global.{Global}
use Rattle.wire_value.specs.Plain.{Plains}
use Rattle.wire_value.specs.Spelling.{zeros, gap, word, spells}
use Rattle.dbus_wire.specs.Spelling.{PlainMessage, order}
use Rattle.dbus_wire.specs.InOrder.{in_order}

-- the beginning of a field at an offset: its padding, its code and the type of its value
abbrev pub code_text : ℕ → ℕ → ℕ → List ℕ
code_text code letter n = zeros (gap 8 n) ++ (code ∷ (1 ∷ (letter ∷ (0 ∷ []))))

-- with memory, the bytes grew by a field: those that belong behind it now belong at the end
abbrev pub PutsField : {X E : Type 0} → Bool → Result X E → Vec ℕ Global → Vec ℕ Global
    → (Plains → Plains) → Type 0
PutsField little result old new and_others =
    OnOk result ((others : Plains) → new.items ++ spells little (length new.items) others
    ≡ old.items ++ spells little (length old.items) (and_others others))

-- the fields in the order of their codes, from an offset on
abbrev pub fields_text : PlainMessage → ℕ → List ℕ
fields_text m n = spells m.little n (in_order m.fields)

-- byte order, kind, flags and version
abbrev pub start_text : PlainMessage → List ℕ
start_text m = order m.little ∷ (m.kind ∷ (m.flags ∷ (1 ∷ [])))

-- a header with its fields in order, by the length of the body
abbrev pub head_text : PlainMessage → ℕ → List ℕ
head_text m size =
    start_text m ++ (word m.little 4 size ++ (word m.little 4 m.serial
    ++ (word m.little 4 (length (fields_text m 16)) ++ fields_text m 16)))
