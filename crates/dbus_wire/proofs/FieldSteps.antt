-- What the code for fields does at each turn.
use Rattle.std.proofs.Common.{◌≡◌, ℕ, ◌+◌, ◌<◌, ◌≤◌, List, [], ◌∷◌, length, get_or, drop, Some, None, refl, sym, ap, ◌∙◌, arith}
use Rattle.std.proofs.lemmas.List.{nil_from_length, length-drop}
use Rattle.wire_value.specs.Plain.{Plain}
use Rattle.wire_value.specs.Reading.{◌>>=◌}
use Rattle.wire_value.specs.Gives.{Fails}
use Rattle.wire_value.specs.View.{view, views}
use Rattle.wire_value.specs.declared.error.ReadError.{ReadError}
use Rattle.wire_value.specs.declared.error.ReadError.TheVariants as errors
use Rattle.wire_value.specs.declared.value.Value.{Value}
use Rattle.wire_value.proofs.Views.{views_more}
use Rattle.dbus_wire.specs.Fields.{Fields, with_field, coded_in, field_in, said}

-- a list of another length than 2 is no field
pub no_pair : (vs : List Value) → (length vs ≡ 2 → ⊥) → coded_in (views vs) ≡ None
no_pair [] h = refl
no_pair (a ∷ []) h = refl
no_pair (a ∷ b ∷ []) h = absurd (h refl)
no_pair (a ∷ b ∷ c ∷ vs) h = refl

pub said_goes_on : (vs : List Value) (i : ℕ) (f : Value) (h g : Fields) (c : ℕ) (v : Plain) → i < length vs → f ≡ get_or vs i f → Some (c, v) ≡ field_in (view f) → with_field h c v ≡ Some g
    → said h (views (drop i vs)) ≡ said g (views (drop (i + 1) vs))
unfolding said
said_goes_on vs i f h g c v lt is e k = ap (said h) (views_more vs i f lt is) ∙ rw (sym e, k) refl

pub said_no_field : (vs : List Value) (i : ℕ) (f : Value) (h : Fields) → i < length vs → f ≡ get_or vs i f → None ≡ field_in (view f) → said h (views (drop i vs)) ≡ None
unfolding said
said_no_field vs i f h lt is e = ap (said h) (views_more vs i f lt is) ∙ rw (sym e) refl

said_stops : (vs : List Value) (i : ℕ) (f : Value) (h : Fields) (c : ℕ) (v : Plain) → i < length vs → f ≡ get_or vs i f → Some (c, v) ≡ field_in (view f) → with_field h c v ≡ None → said h (views (drop i vs)) ≡ None
unfolding said
said_stops vs i f h c v lt is e k = ap (said h) (views_more vs i f lt is) ∙ rw (sym e, k) refl

pub said_fails : (e : ReadError) (vs : List Value) (i : ℕ) (f : Value) (h : Fields) (c : ℕ) (v : Plain) → i < length vs → f ≡ get_or vs i f → Some (c, v) ≡ field_in (view f) → Fails e (with_field h c v) → Fails e (said h (views (drop i vs)))
said_fails errors.NoMemory vs i f h c v lt is e k = tt
said_fails errors.Malformed vs i f h c v lt is e k = said_stops vs i f h c v lt is e k

pub said_done : (vs : List Value) (i : ℕ) (h : Fields) → length vs ≤ i → said h (views (drop i vs)) ≡ Some h
unfolding said
said_done vs i h le = let e : drop i vs ≡ [] = nil_from_length (drop i vs) (omega (arith, length-drop i vs)) in ap (λ (xs : List Value). said h (views xs)) e
