-- The variables that are read, by their names.
use Rattle.std.proofs.Common.{◌≡◌, ℕ, Bool, true, false, cond, T, ◌&&◌, List, [], ◌∷◌, ◌++◌, Option, Some, None, refl, sym, ◌∙◌, ap}
use Rattle.std.specs.FinMap as fin
use Rattle.std.specs.FinMap.{entries, entries_sorted, find, get-empty, get-entries, get-insert, is_sorted, nat_cmp-IsAntisymmetric, same_map, slice_cmp-IsAntisymmetric}
use Rattle.std.specs.FinMap.Entries.{below_all, find_tied}
use Rattle.std.specs.Cmp.Lexicographic.{nat_list_cmp_total, slice_cmp}
use Rattle.std.specs.List.{list_all}
use Rattle.std.specs.Option.{option_or}
use Rattle.std.specs.Ordering.{eq_by_cmp, is_eq, is_lt, nat_cmp}
use Rattle.std.specs.declared.cmp.Ordering.{Ordering}
use Rattle.std.specs.declared.cmp.Ordering.TheVariants.{Equal, Greater, Less}
use Rattle.std.proofs.lemmas.Bool.{and_parts, true≢false}
use Rattle.std.proofs.lemmas.Option.{same_Some}
use Rattle.boot_model.specs.Vars.{Variables}
use Rattle.boot_state.specs.Orders.{value}
use Rattle.boot_outputs.specs.Texts.{with_all}

-- names and values
abbrev pub Pairs : Type 0
Pairs = List (List ℕ × List ℕ)

-- the order of names
abbrev pub by_name : List ℕ → List ℕ → Ordering
by_name = slice_cmp nat_cmp

pub with_all-append : (vars : Variables) (xs ys : Pairs) → with_all vars (xs ++ ys) ≡ with_all (with_all vars xs) ys
with_all-append vars [] ys = refl
with_all-append vars (pair ∷ xs) ys = with_all-append (fin.insert vars pair.0 pair.1) xs ys

both : (a b : Bool) → T (a && b) → T a × T b
both true b h = (tt, h)
both false b h = absurd h

less : (r : Ordering) → T (is_lt r) → r ≡ Less
less Less h = refl
less Equal h = absurd h
less Greater h = absurd h

tied : (r : Ordering) → is_eq r ≡ true → r ≡ Equal
tied Less h = absurd (true≢false (sym h))
tied Equal h = refl
tied Greater h = absurd (true≢false (sym h))

pub same_name : (q name : List ℕ) → by_name q name ≡ Equal → q ≡ name
same_name q name e = slice_cmp-IsAntisymmetric nat_cmp-IsAntisymmetric q name e

find_below : (q : List ℕ) (es : Pairs) → T (below_all by_name q es) → find by_name q es ≡ None
find_below q [] h = refl
find_below q (e ∷ es) h =
    let parts = both (is_lt (by_name q e.0)) (below_all by_name q es) h in
    ap (λ (r : Ordering). cond (is_eq r) (Some e.1) (find by_name q es)) (less (by_name q e.0) parts.0) ∙ find_below q es parts.1

-- of variables in order each counts
pub value-with_all : (vars : Variables) (es : Pairs) (q : List ℕ) → T (is_sorted by_name es) → value (with_all vars es) q ≡ option_or (find by_name q es) (value vars q)
value-with_all vars [] q sorted = refl
value-with_all vars (e ∷ es) q sorted =
    let parts = both (below_all by_name e.0 es) (is_sorted by_name es) sorted in
    value-with_all (fin.insert vars e.0 e.1) es q parts.1
    ∙ ap (option_or (find by_name q es)) (get-insert nat_list_cmp_total vars e.0 e.1 q)
    ∙ elim (eq_by_cmp by_name q e.0) as (λ b. eq_by_cmp by_name q e.0 ≡ b → option_or (find by_name q es) (cond b (Some e.1) (value vars q)) ≡ option_or (cond b (Some e.1) (find by_name q es)) (value vars q)) [
      | true ↦ λ same.
          let none : find by_name q es ≡ None = sym (find_tied by_name nat_list_cmp_total q e.0 (tied (by_name q e.0) same) es) ∙ find_below e.0 es parts.0 in
          ap (λ (o : Option (List ℕ)). option_or o (Some e.1)) none
      | false ↦ λ other. refl
    ] refl

pub option_or-none : (o : Option (List ℕ)) → option_or o None ≡ o
option_or-none None = refl
option_or-none (Some x) = refl

-- all of a map's make the map
pub with_all-entries : (vars : Variables) → with_all fin.empty (entries vars) ≡ vars
with_all-entries vars =
    same_map nat_list_cmp_total (slice_cmp-IsAntisymmetric nat_cmp-IsAntisymmetric) _ _
    (λ q. value-with_all fin.empty (entries vars) q (entries_sorted vars)
    ∙ ap (option_or (find by_name q (entries vars))) (get-empty by_name q)
    ∙ option_or-none (find by_name q (entries vars))
    ∙ sym (get-entries vars q))

found_passes : (p : List ℕ × List ℕ → Bool) (q : List ℕ) (es : Pairs) (text : List ℕ) → list_all p es ≡ true → find by_name q es ≡ Some text → p (q, text) ≡ true
found_passes p q [] text all there = cc
found_passes p q (e ∷ es) text all there =
    let parts = and_parts (p e) (list_all p es) all in
    elim (eq_by_cmp by_name q e.0) as (λ b. eq_by_cmp by_name q e.0 ≡ b → cond b (Some e.1) (find by_name q es) ≡ Some text → p (q, text) ≡ true) [
      | true ↦ λ same s. (λ i. p (same_name q e.0 (tied (by_name q e.0) same) i, sym (same_Some e.1 text s) i)) ∙ parts.0
      | false ↦ λ other s. found_passes p q es text parts.1 s
    ] refl there

-- what holds of all variables holds of one
pub value_passes : (p : List ℕ × List ℕ → Bool) (vars : Variables) (q text : List ℕ) → list_all p (entries vars) ≡ true → value vars q ≡ Some text → p (q, text) ≡ true
value_passes p vars q text all there = found_passes p q (entries vars) text all (sym (get-entries vars q) ∙ there)
