-- What calls that only compute answer.
use Rattle.std.specs.Prelude.{◌≡◌, Result, Ok, Err}
use Rattle.updater_text.specs.declared.stops.Lack.{Lack}
use Rattle.updater_text.specs.declared.stops.Lack.TheVariants.{Refused, NoMemory}

-- the answer is this one, or out of memory
abbrev pub Gives : {T R : Type 0} → Result T (Lack R) → Result T R → Type 0
Gives (Ok x) expected = expected ≡ Ok x
Gives (Err (Refused r)) expected = expected ≡ Err r
Gives (Err NoMemory) expected = Unit {0}
