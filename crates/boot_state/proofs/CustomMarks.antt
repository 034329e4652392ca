-- What the marks do to the variables of a program of the system's own.
use Rattle.std.proofs.Common.{◌≡◌, ◌≢◌, ℕ, Bool, true, false, cond, not, ◌&&◌, List, [], ◌∷◌, Option, Some, None, codes, refl, sym, ◌∙◌, ap, subst}
use Rattle.std.specs.Prelude.{option_and_then}
use Rattle.std.specs.FinMap as fin
use Rattle.std.specs.Option.{option_map_or}
use Rattle.std.specs.Str.{bytes_eq}
use Rattle.std.proofs.lemmas.Bool.{and_from, and_parts}
use Rattle.std.proofs.lemmas.List.{append_cancel_left}
use Rattle.std.proofs.lemmas.Option.{cond_some, option_and_then_some}
use Rattle.boot_model.specs.Vars.{Variables}
use Rattle.boot_state.specs.Orders.{has_word, value}
use Rattle.boot_state.specs.Custom.{is_down, is_good, made_primary, marked_bad, primary, primary_name, state_name, with_state}
use Rattle.boot_state.proofs.Values.{both_true, numbers_differ, value-insert_other, value-insert_same}

abbrev first_byte : List ℕ → ℕ
first_byte [] = 0
first_byte (byte ∷ more) = byte

state_not_primary : (name : List ℕ) → state_name name ≢ primary_name
state_not_primary name e = numbers_differ 115 112 refl (ap first_byte e)

down_alike : (name : List ℕ) (v w : Variables) → value v (state_name name) ≡ value w (state_name name) → is_down v name ≡ is_down w name
down_alike name v w same = ap (λ (o : Option (List ℕ)). option_map_or (λ state. bytes_eq state (codes "bad")) o false) same

-- a state of another name
pub state_keeps : (state name other : List ℕ) (vars : Variables) → other ≢ name → is_down (with_state state name vars) other ≡ is_down vars other
state_keeps state name other vars ne =
    down_alike other (with_state state name vars) vars (value-insert_other vars (state_name name) state (state_name other) (λ e. ne (append_cancel_left (codes "state.") other name e)))

pub primary_keeps : (name other : List ℕ) (vars : Variables) → other ≢ name → is_down (made_primary name vars) other ≡ is_down vars other
primary_keeps name other vars ne =
    state_keeps (codes "good") name other (fin.insert vars primary_name name) ne
    ∙ down_alike other (fin.insert vars primary_name name) vars (value-insert_other vars primary_name name (state_name other) (state_not_primary other))

pub bad_down : (name : List ℕ) (vars : Variables) → is_down (marked_bad name vars) name ≡ true
bad_down name vars = ap (λ (o : Option (List ℕ)). option_map_or (λ state. bytes_eq state (codes "bad")) o false) (value-insert_same vars (state_name name) (codes "bad"))

pub primary_good : (name : List ℕ) (vars : Variables) → is_good (made_primary name vars) name ≡ true
primary_good name vars =
    ap (λ (o : Option (List ℕ)). not (option_map_or (λ state. bytes_eq state (codes "bad")) o false)) (value-insert_same (fin.insert vars primary_name name) (state_name name) (codes "good"))

pub not_primary : (vars : Variables) (names : List (List ℕ)) (name : List ℕ) → is_down vars name ≡ true → primary vars names ≢ Some name
not_primary vars names name down is =
    option_and_then_some (λ n. cond (has_word names n && is_good vars n) (Some n) None) (value vars primary_name) name is
    (λ n found s.
    let parts = cond_some (has_word names n && is_good vars n) n name s in
    let fine = (and_parts (has_word names n) (is_good vars n) parts.0).1 in
    both_true (is_down vars n) (subst (λ (x : List ℕ). is_down vars x ≡ true) (sym parts.1) down) fine)

pub is_primary : (names : List (List ℕ)) (name : List ℕ) (vars : Variables) → has_word names name ≡ true → primary (made_primary name vars) names ≡ Some name
is_primary names name vars has =
    let first = fin.insert vars primary_name name in
    let w = made_primary name vars in
    let told = value-insert_other first (state_name name) (codes "good") primary_name (λ e. state_not_primary name (sym e)) ∙ value-insert_same vars primary_name name in
    ap (option_and_then (λ (n : List ℕ). cond (has_word names n && is_good w n) (Some n) None)) told
    ∙ ap (λ (b : Bool). cond b (Some name) None) (and_from (has_word names name) (is_good w name) has (primary_good name vars))
