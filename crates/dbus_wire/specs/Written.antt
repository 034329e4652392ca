-- What write_message answers.
use Rattle.std.specs.Prelude.{◌≡◌, ℕ, ◌<◌, List, length, Result, Err, Vec}
use Rattle.std.specs.Global.{Global}
use Rattle.updater_text.specs.declared.stops.Lack.{Lack}
use Rattle.updater_text.specs.declared.stops.Lack.TheVariants as lack
use Rattle.dbus_wire.specs.Spelling.{PlainMessage}
use Rattle.dbus_wire.specs.InOrder.{SpellsInOrder}
use Rattle.dbus_wire.specs.declared.refusal.WriteRefusal.{WriteRefusal}
use Rattle.dbus_wire.specs.declared.refusal.WriteRefusal.TheVariants as refusal

-- the spelling with the fields in order has so many bytes, which are more than 1 MiB
abbrev pub TooLong : PlainMessage → ℕ → Type 0
TooLong m n = (text : List ℕ) × SpellsInOrder text m × (length text ≡ n) × (1048576 < n)

-- refused, by the length that the spelling has
abbrev pub RefusesLength : Result (Vec ℕ Global) (Lack WriteRefusal) → ℕ → Type 0
RefusesLength result n = result ≡ Err (lack.Refused (refusal.TooLarge n))
