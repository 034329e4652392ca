-- What stands at a place: an offset from the message's first byte, and the bytes from there on.
use Rattle.std.specs.Prelude.{◌≡◌, ℕ, ◌+◌, ◌≤◌, Bool, List, ◌++◌, length, Option, Some, IfSome}
use Rattle.wire_value.specs.Plain.{Plain, Plains, sig, sigs, nest, nests}
use Rattle.wire_value.specs.Spelling.{Spells, SpellsAll, spells, IsValue, AreValues, AreOf}
use Rattle.wire_value.specs.Sizes.{ends, end_all}
use Rattle.wire_value.specs.Reading.{At}

-- a value of the type stands at the place p, and q is the place behind it
pub record Stands (little : Bool) (depth : ℕ) (kind : List ℕ) (p : At) (v : Plain) (q : At) : Type 0 where
  pub text : List ℕ
  pub spells : Spells little depth p.0 v text
  pub typed : sig v ≡ kind
  pub front : p.1 ≡ text ++ q.1
  pub behind : q.0 ≡ p.0 + length text

-- values of the types stand there, one after the other
pub record StandAll (little : Bool) (depth : ℕ) (types : List ℕ) (p : At) (vs : Plains) (q : At) : Type 0 where
  pub text : List ℕ
  pub spells : SpellsAll little depth p.0 vs text
  pub typed : sigs vs ≡ types
  pub front : p.1 ≡ text ++ q.1
  pub behind : q.0 ≡ p.0 + length text

-- all bytes of the place are values of one type, one after the other
pub record StandItems (little : Bool) (depth : ℕ) (item : List ℕ) (p : At) (vs : Plains) : Type 0 where
  pub whole : p.1 ≡ spells little p.0 vs
  pub valid : AreOf little item p.0 vs
  pub nests : nests vs ≤ depth

-- the grammar spells the value as one of the type at the offset n, and it ends at e
pub record MayStand (little : Bool) (depth : ℕ) (kind : List ℕ) (n : ℕ) (v : Plain) (e : ℕ) : Type 0 where
  pub valid : IsValue little n v
  pub typed : sig v ≡ kind
  pub nests : nest v ≤ depth
  pub ends : ends n v ≡ e

-- the same of values of the types, one after the other
pub record MayStandAll (little : Bool) (depth : ℕ) (types : List ℕ) (n : ℕ) (vs : Plains) (e : ℕ) : Type 0 where
  pub valid : AreValues little n vs
  pub typed : sigs vs ≡ types
  pub nests : nests vs ≤ depth
  pub ends : end_all n vs ≡ e

-- where the value ends was found: it may stand there, and it ends within the limit
abbrev pub EndsAt : ℕ → ℕ → List ℕ → ℕ → Plain → Option ℕ → Type 0
EndsAt limit depth kind n v found = (little : Bool) → IfSome found (λ e. MayStand little depth kind n v e × (e ≤ limit))

-- nothing else was found where it may stand there and ends within the limit
abbrev pub EndsOnlyAt : ℕ → ℕ → List ℕ → ℕ → Plain → Option ℕ → Type 0
EndsOnlyAt limit depth kind n v found = (little : Bool) (e : ℕ) → MayStand little depth kind n v e → e ≤ limit → found ≡ Some e

-- the same of values one after the other
abbrev pub AllEndAt : ℕ → ℕ → List ℕ → ℕ → Plains → Option ℕ → Type 0
AllEndAt limit depth types n vs found = (little : Bool) → IfSome found (λ e. MayStandAll little depth types n vs e × (e ≤ limit))

abbrev pub AllEndOnlyAt : ℕ → ℕ → List ℕ → ℕ → Plains → Option ℕ → Type 0
AllEndOnlyAt limit depth types n vs found = (little : Bool) (e : ℕ) → MayStandAll little depth types n vs e → e ≤ limit → found ≡ Some e
