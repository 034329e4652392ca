-- The slot with a name that was found among the bootnames.
use Rattle.std.proofs.Common.{◌≡◌, ◌<◌, ℕ, ◌+◌, Bool, true, false, cond, List, [], ◌∷◌, length, get_or, Option, Some, None, refl, sym, ◌∙◌, ap, subst, arith}
use Rattle.std.specs.Prelude.{bytes_eq, nat_lt, not, option_and_then, position, slice_get}
use Rattle.std.specs.List.{cons_option, position_or_len}
use Rattle.std.specs.Option.{option_map_or}
use Rattle.std.proofs.lemmas.Bool.{ltb-true}
use Rattle.std.proofs.lemmas.Bool.Decides.{nat_tests}
use Rattle.std.proofs.lemmas.List.Quantifiers.{position-Some}
use Rattle.std.proofs.lemmas.Option.{slice_get-get_or}
use Rattle.std.proofs.lemmas.Slice.Eq.{bytes_eq-Decides}
use Rattle.boot_model.specs.Vars.{Variables}
use Rattle.boot_model.specs.declared.boot_kind.BootKind.{BootKind}
use Rattle.boot_state.specs.States.{primary, primary_at}
use Rattle.system_conf.specs.declared.slot.Slot.{Slot}
use Rattle.boot_backends.specs.Marked.{has_boot_name, names_of, primary_slot}

-- where none of the names is this, no slot has it
one_more : (name : List ℕ) (bootname : Option (List ℕ)) (names : List (List ℕ)) (place : ℕ) (s : Slot) (slots : List Slot) → ((position_or_len (λ other. bytes_eq other name) names < length names → ⊥) → place < length slots → ⊥) → (position_or_len (λ other. bytes_eq other name) (cons_option bootname names) < length (cons_option bootname names) → ⊥) → cond (not (option_map_or (λ other. bytes_eq other name) bootname false)) (1 + place) 0 < length (s ∷ slots) → ⊥
one_more name None names place s slots rest none h = rest none (omega (arith, h))
one_more name (Some other) names place s slots rest none h =
    elim (bytes_eq other name) as (λ b. (cond (not b) (1 + position_or_len (λ o. bytes_eq o name) names) 0 < length (other ∷ names) → ⊥) → cond (not b) (1 + place) 0 < length (s ∷ slots) → ⊥) [
      | true ↦ λ no yes. no (omega arith)
      | false ↦ λ no yes. rest (λ e. no (omega (arith, e))) (omega (arith, yes))
    ] none h

none_has : (name : List ℕ) (slots : List Slot) → (position_or_len (λ other. bytes_eq other name) (names_of slots) < length (names_of slots) → ⊥) → position_or_len (has_boot_name name) slots < length slots → ⊥
none_has name [] none h = omega (arith, h)
none_has name (s ∷ slots) none h =
    one_more name s.bootname (names_of slots) (position_or_len (has_boot_name name) slots) s slots (none_has name slots) none h

is_none : {X : Type 0} (p : X → Bool) (xs : List X) → (position_or_len p xs < length xs → ⊥) → position p xs ≡ None
is_none p xs none =
    elim (nat_lt (position_or_len p xs) (length xs)) as (λ b. nat_lt (position_or_len p xs) (length xs) ≡ b → cond b (Some (position_or_len p xs)) None ≡ None) [
      | true ↦ λ e. absurd (none (ltb-true (position_or_len p xs) (length xs) e))
      | false ↦ λ e. refl
    ] refl

none_of : {X : Type 0} (p : X → Bool) (xs : List X) → position p xs ≡ None → position_or_len p xs < length xs → ⊥
none_of p xs none h =
    let yes : nat_lt (position_or_len p xs) (length xs) ≡ true = grind (arith, nat_tests, h) in
    let some : position p xs ≡ Some (position_or_len p xs) = rw yes refl in
    no (position_or_len p xs) (sym some ∙ none)
  where
    no : (i : ℕ) → Some i ≡ None → ⊥
    no i e = cc

-- the name at the place is the one that was looked for
name_at : (name : List ℕ) (names : List (List ℕ)) (at : ℕ) → position (λ other. bytes_eq other name) names ≡ Some at → slice_get names at ≡ Some name
name_at name names at found =
    let h = position-Some (λ other. bytes_eq other name) names at [] found in
    slice_get-get_or names at [] h.0 ∙ ap (λ (n : List ℕ). Some n) ((bytes_eq-Decides (get_or names at []) name).0 h.1)

-- the slot of the name at the primary place
slot_of_primary : (kind : BootKind) (vars : Variables) (names : List (List ℕ)) (slots : List Slot) → names ≡ names_of slots → option_and_then (λ i. option_and_then (λ name. position (has_boot_name name) slots) (slice_get names i)) (primary_at kind vars names) ≡ primary_slot kind vars slots
slot_of_primary kind vars names slots are =
    subst (λ (ns : List (List ℕ)). option_and_then (λ i. option_and_then (λ name. position (has_boot_name name) slots) (slice_get ns i)) (primary_at kind vars ns) ≡ primary_slot kind vars slots) (sym are) (of (primary kind vars (names_of slots)))
  where
    place : (name : List ℕ) (at : Option ℕ) → position (λ other. bytes_eq other name) (names_of slots) ≡ at → option_and_then (λ i. option_and_then (λ n. position (has_boot_name n) slots) (slice_get (names_of slots) i)) at ≡ position (has_boot_name name) slots
    place name None e = sym (is_none (has_boot_name name) slots (none_has name slots (none_of (λ other. bytes_eq other name) (names_of slots) e)))
    place name (Some i) e = ap (λ (o : Option (List ℕ)). option_and_then (λ n. position (has_boot_name n) slots) o) (name_at name (names_of slots) i e)

    of : (o : Option (List ℕ)) → option_and_then (λ i. option_and_then (λ name. position (has_boot_name name) slots) (slice_get (names_of slots) i)) (option_and_then (λ name. position (λ other. bytes_eq other name) (names_of slots)) o) ≡ option_and_then (λ name. position (has_boot_name name) slots) o
    of None = refl
    of (Some name) = place name (position (λ other. bytes_eq other name) (names_of slots)) refl

pub slot_none : (kind : BootKind) (vars : Variables) (names : List (List ℕ)) (slots : List Slot) → names ≡ names_of slots → primary_at kind vars names ≡ None → None ≡ primary_slot kind vars slots
slot_none kind vars names slots are none =
    ap (λ (o : Option ℕ). option_and_then (λ i. option_and_then (λ name. position (has_boot_name name) slots) (slice_get names i)) o) (sym none) ∙ slot_of_primary kind vars names slots are

pub slot_some : (kind : BootKind) (vars : Variables) (names : List (List ℕ)) (slots : List Slot) (at : ℕ) (name : List ℕ) → names ≡ names_of slots → primary_at kind vars names ≡ Some at → slice_get names at ≡ Some name → position (has_boot_name name) slots ≡ primary_slot kind vars slots
slot_some kind vars names slots at name are some here =
    ap (λ (o : Option (List ℕ)). option_and_then (λ n. position (has_boot_name n) slots) o) (sym here)
    ∙ ap (λ (o : Option ℕ). option_and_then (λ i. option_and_then (λ n. position (has_boot_name n) slots) (slice_get names i)) o) (sym some)
    ∙ slot_of_primary kind vars names slots are
