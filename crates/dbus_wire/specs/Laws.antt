-- What the grammar of messages promises.
use Rattle.std.specs.Prelude.{◌≡◌, List, ℕ, [], ◌++◌}
use Rattle.dbus_wire.specs.Spelling.{PlainMessage, Spells}
use Rattle.dbus_wire.specs.InOrder.{SpellsInOrder}

-- One text is a spelling of at most one message.
abbrev pub OneMessage : Type 0
OneMessage = (text : List ℕ) (m k : PlainMessage) → Spells text m → Spells text k → m ≡ k

-- No spelling begins another.
abbrev pub NoPrefix : Type 0
NoPrefix = (m k : PlainMessage) (short long rest : List ℕ) → Spells short m → Spells long k
    → long ≡ short ++ rest → rest ≡ []

-- A message has one spelling at most whose fields stand in the order of their codes.
abbrev pub OneInOrder : Type 0
OneInOrder = (m : PlainMessage) (text other : List ℕ) → SpellsInOrder text m
    → SpellsInOrder other m → text ≡ other
