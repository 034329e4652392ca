-- What a function of the code read, beside what reading gives.
use Rattle.std.specs.Prelude.{◌≡◌, ⊤, Option, Some, None, Result, Ok, Err, Vec, ℕ, Bool, List, IfOk}
use Rattle.wire_value.specs.declared.place.Place.{Place}
use Rattle.wire_value.specs.declared.error.ReadError.{ReadError}
use Rattle.wire_value.specs.declared.error.ReadError.TheVariants as errors
use Rattle.std.specs.Global.{Global}
use Rattle.wire_value.specs.Standing.{Stands, StandAll, StandItems}
use Rattle.wire_value.specs.Plain.{Plain, Plains}
use Rattle.wire_value.specs.Reading.{At}
use Rattle.wire_value.specs.View.{view, views}
use Rattle.wire_value.specs.declared.value.Value.{Value}

abbrev pub at : Place → At
at p = (p.offset, p.bytes.now)

-- nothing is read only where memory runs out, or where reading gives nothing
abbrev pub Fails : {Y : Type 0} → ReadError → Option Y → Type 0
Fails errors.NoMemory read = ⊤
Fails errors.Malformed read = read ≡ None

abbrev pub Gives : {X Y : Type 0} → (X → Y) → Result X ReadError → Option Y → Type 0
Gives view (Ok x) read = read ≡ Some (view x)
Gives view (Err e) read = Fails e read

-- the value that was read, and the place behind it
abbrev pub GivesValue : Result (Value × Place) ReadError → Option (Plain × At) → Type 0
GivesValue result read = Gives (λ x. (view x.0, at x.1)) result read

-- the values that were read, and the place behind them
abbrev pub GivesValues : Result (Vec Value Global × Place) ReadError → Option (Plains × At) → Type 0
GivesValues result read = Gives (λ x. (views x.0.items, at x.1)) result read

-- the items that were read
abbrev pub GivesItems : Result (Vec Value Global) ReadError → Option Plains → Type 0
GivesItems result read = Gives (λ x. views x.items) result read

-- What was read stands there, and whatever stands there was read unless memory ran out.
module _ (little : Bool) (depth : ℕ) (kind : List ℕ) (p : At) where
  abbrev pub ValueIsThere : Result (Value × Place) ReadError → Type 0
  ValueIsThere result = IfOk result (λ x. Stands little depth kind p (view x.0) (at x.1))

  abbrev pub NoValueMissed : Result (Value × Place) ReadError → Type 0
  NoValueMissed result = (v : Plain) (q : At) → Stands little depth kind p v q → GivesValue result (Some (v, q))

  abbrev pub ValuesAreThere : Result (Vec Value Global × Place) ReadError → Type 0
  ValuesAreThere result = IfOk result (λ x. StandAll little depth kind p (views x.0.items) (at x.1))

  abbrev pub NoValuesMissed : Result (Vec Value Global × Place) ReadError → Type 0
  NoValuesMissed result = (vs : Plains) (q : At) → StandAll little depth kind p vs q → GivesValues result (Some (vs, q))

  abbrev pub ItemsAreThere : Result (Vec Value Global) ReadError → Type 0
  ItemsAreThere result = IfOk result (λ x. StandItems little depth kind p (views x.items))

  abbrev pub NoItemsMissed : Result (Vec Value Global) ReadError → Type 0
  NoItemsMissed result = (vs : Plains) → StandItems little depth kind p vs → GivesItems result (Some vs)
