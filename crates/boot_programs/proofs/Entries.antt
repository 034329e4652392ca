-- The entries of a map, by their places.
use Rattle.std.proofs.Common.{◌≡◌, ℕ, ◌+◌, ◌<◌, ◌≤◌, zero, suc, length, append_assoc, add-one, Bool, true, false, cond, T, ◌&&◌, List, [], ◌∷◌, ◌++◌, drop, slice_get, Option, Some, None, refl, sym, ◌∙◌, ap, subst}
use Rattle.std.specs.Option.{option_map}
use Rattle.std.specs.List.{flat_map}
use Rattle.std.specs.Ordering.{nat_cmp, is_eq, is_lt, ordering_reverse}
use Rattle.std.specs.Cmp.{tied_itself}
use Rattle.std.specs.Cmp.Lexicographic.{slice_cmp, nat_list_cmp_total}
use Rattle.std.specs.declared.cmp.Ordering.{Ordering}
use Rattle.std.specs.declared.cmp.Ordering.TheVariants.{Less, Equal, Greater}
use Rattle.std.specs.FinMap.{entries, entries_sorted, find, get, get-entries, is_sorted, keys}
use Rattle.std.specs.FinMap.Entries.{below_all}
use Rattle.std.proofs.lemmas.List.{append-nil, drop_all}
use Rattle.std.proofs.lemmas.Option.{slice_get-map, slice_get-get_or}
use Rattle.boot_model.specs.Vars.{Variables}

abbrev R : List ℕ → List ℕ → Ordering
R = slice_cmp nat_cmp

both : (a b : Bool) → T (a && b) → T a × T b
both true b h = (tt, h)
both false b h = absurd h

less : (r : Ordering) → T (is_lt r) → r ≡ Less
less Less h = refl
less Equal h = absurd h
less Greater h = absurd h

below_place : (name : List ℕ) (es : List (List ℕ × List ℕ)) (at : ℕ) (e : List ℕ × List ℕ) → T (below_all R name es) → slice_get es at ≡ Some e → R name e.0 ≡ Less
below_place name [] at e h is = cc
below_place name (x ∷ es) zero e h is =
    let same : x ≡ e = cc in
    subst (λ (y : List ℕ × List ℕ). R name y.0 ≡ Less) same (less (R name x.0) (both (is_lt (R name x.0)) (below_all R name es) h).0)
below_place name (x ∷ es) (suc at) e h is = below_place name es at e (both (is_lt (R name x.0)) (below_all R name es) h).1 is

-- the entry at a place is the one that a look-up of its name finds
find_place : (es : List (List ℕ × List ℕ)) (at : ℕ) (e : List ℕ × List ℕ) → T (is_sorted R es) → slice_get es at ≡ Some e → find R e.0 es ≡ Some e.1
find_place [] at e h is = cc
find_place (x ∷ es) zero e h is =
    let same : x ≡ e = cc in
    subst (λ (y : List ℕ × List ℕ). find R y.0 (x ∷ es) ≡ Some y.1) same
    (ap (λ (r : Ordering). cond (is_eq r) (Some x.1) (find R x.0 es)) (tied_itself nat_list_cmp_total x.0))
find_place (x ∷ es) (suc at) e h is =
    let parts = both (below_all R x.0 es) (is_sorted R es) h in
    let above : R e.0 x.0 ≡ Greater = nat_list_cmp_total.antisymm e.0 x.0 ∙ ap ordering_reverse (below_place x.0 es at e parts.0 is) in
    ap (λ (r : Ordering). cond (is_eq r) (Some x.1) (find R e.0 es)) above ∙ find_place es at e parts.1 is

-- the name at a place, with its value, is the entry there
pub entry_found : (vars : Variables) (at : ℕ) (name : List ℕ) → slice_get (keys vars) at ≡ Some name → option_map (λ (text : List ℕ). (name, text)) (get vars name) ≡ slice_get (entries vars) at
entry_found vars at name is = cases (slice_get (entries vars) at) refl
  where
    cases : (o : Option (List ℕ × List ℕ)) → slice_get (entries vars) at ≡ o → option_map (λ (text : List ℕ). (name, text)) (get vars name) ≡ slice_get (entries vars) at
    cases None h =
        let none : slice_get (keys vars) at ≡ None = slice_get-map (λ (e : List ℕ × List ℕ). e.0) (entries vars) at ∙ ap (option_map (λ (e : List ℕ × List ℕ). e.0)) h in
        cc
    cases (Some e) h =
        let some : slice_get (keys vars) at ≡ Some e.0 = slice_get-map (λ (e : List ℕ × List ℕ). e.0) (entries vars) at ∙ ap (option_map (λ (e : List ℕ × List ℕ). e.0)) h in
        let same : e.0 ≡ name = cc in
        let found : get vars e.0 ≡ Some e.1 = get-entries vars e.0 ∙ find_place (entries vars) at e (entries_sorted vars) h in
        subst (λ (q : List ℕ). option_map (λ (text : List ℕ). (q, text)) (get vars q) ≡ slice_get (entries vars) at) same
        (ap (option_map (λ (text : List ℕ). (e.0, text))) found ∙ sym h)

-- the text of the entries from a place on begins with that of the entry there
flat_map-drop_at : (f : List ℕ × List ℕ → List ℕ) (es : List (List ℕ × List ℕ)) (at : ℕ) (e : List ℕ × List ℕ) → slice_get es at ≡ Some e → flat_map f (drop at es) ≡ f e ++ flat_map f (drop (suc at) es)
flat_map-drop_at f [] at e is = cc
flat_map-drop_at f (x ∷ es) zero e is = let same : x ≡ e = cc in ap (λ (y : List ℕ × List ℕ). f y ++ flat_map f es) same
flat_map-drop_at f (x ∷ es) (suc at) e is = flat_map-drop_at f es at e is

-- and past the end there is none
flat_map-drop_past : (f : List ℕ × List ℕ → List ℕ) (es : List (List ℕ × List ℕ)) (at : ℕ) → length es ≤ at → flat_map f (drop at es) ≡ []
flat_map-drop_past f es at h = ap (flat_map f) (drop_all at es h)

module _ (f : List ℕ × List ℕ → List ℕ) (es : List (List ℕ × List ℕ)) (at : ℕ) (out whole : List ℕ) (so_far : out ++ flat_map f (drop at es) ≡ whole) where
  -- where an entry is written, what is written and what is left still make the whole
  pub entry_written : (more : List ℕ) (e : List ℕ × List ℕ) → slice_get es at ≡ Some e → more ≡ out ++ f e → more ++ flat_map f (drop (at + 1) es) ≡ whole
  entry_written more e is written =
      ap (λ (t : List ℕ). t ++ flat_map f (drop (at + 1) es)) written ∙ append_assoc out (f e) _
      ∙ ap (λ (n : ℕ). out ++ (f e ++ flat_map f (drop n es))) (add-one at)
      ∙ ap (λ (t : List ℕ). out ++ t) (sym (flat_map-drop_at f es at e is)) ∙ so_far

  -- at the end it is written
  pub all_written : length es ≤ at → out ≡ whole
  all_written h = sym (append-nil out) ∙ ap (λ (t : List ℕ). out ++ t) (sym (flat_map-drop_past f es at h)) ∙ so_far

  -- there is no place without an entry
  pub none_left : at < length es → slice_get es at ≡ None → ⊥
  none_left h is = let there = slice_get-get_or es at ([], []) h in cc
