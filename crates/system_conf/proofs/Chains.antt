-- Chains of parents end exactly where there is a root.
use Rattle.std.proofs.Common.{◌≡◌, ◌<◌, ◌≤◌, ℕ, zero, suc, Bool, true, false, ◌||◌, nat_lt, List, [], ◌∷◌, length, Option, Some, None, slice_get, option_map, option_and_then, eqb, refl, sym, ◌∙◌, ap, subst, arith, ltb-true}
use Rattle.std.specs.Prelude.{is_none}
use Rattle.std.specs.Option.{option_map_or}
use Rattle.std.specs.List.{IsDistinct, AllByRecursion, list_any, list_all}
use Rattle.std.proofs.lemmas.Bool.{eqb-true, and_parts, true≢false}
use Rattle.std.proofs.lemmas.Option.{slice_get_within, slice_get-get_or}
use Rattle.std.proofs.lemmas.Map.Steps.{length-le_from_distinct_below}
use Rattle.system_conf.specs.Slots.{parent_at, climb, root_over, chain_ends}
use Rattle.system_conf.specs.Parents.{LeadsTo, Under, IsRoot, IsRootOf, HasRoot, HasOneRoot, ChainsEndAtRoots}
use Rattle.system_conf.specs.Sound.{parents_stand}
use Rattle.system_conf.specs.declared.slot.Slot.{Slot}

-- ---- roots and parents are slots

root_ends : (slots : List Slot) (r : ℕ) → IsRoot slots r → parent_at slots r ≡ None
root_ends slots r = go (slice_get slots r)
  where
    go : (o : Option Slot) → option_map (λ (s : Slot). s.parent) o ≡ Some None → option_and_then (λ (s : Slot). s.parent) o ≡ None
    go (Some s) h = cc
    go None h = absurd (cc)

root_within : (slots : List Slot) (r : ℕ) → IsRoot slots r → r < length slots
root_within slots r h = go (slice_get slots r) refl h
  where
    go : (o : Option Slot) → slice_get slots r ≡ o → option_map (λ (s : Slot). s.parent) o ≡ Some None → r < length slots
    go (Some s) e h = slice_get_within slots r s e
    go None e h = absurd (cc)

parent_within : (slots : List Slot) (s p : ℕ) → parent_at slots s ≡ Some p → s < length slots
parent_within slots s p h = go (slice_get slots s) refl h
  where
    go : (o : Option Slot) → slice_get slots s ≡ o → option_and_then (λ (t : Slot). t.parent) o ≡ Some p → s < length slots
    go (Some t) e h = slice_get_within slots s t e
    go None e h = absurd (cc)

way_within : (slots : List Slot) (s : ℕ) (way : List ℕ) (r : ℕ) → LeadsTo slots s way r → IsRoot slots r → s < length slots
way_within slots s [] r h root = subst (λ (k : ℕ). k < length slots) (sym h) (root_within slots r root)
way_within slots s (p ∷ way) r h root = parent_within slots s p h.0

-- ---- there is one way to a root at most

root_without : (slots : List Slot) (s r p : ℕ) → s ≡ r → IsRoot slots r → parent_at slots s ≡ Some p → ⊥
root_without slots s r p same root up = let none = ap (parent_at slots) same ∙ root_ends slots r root in cc

one_parent : (o : Option ℕ) (p q : ℕ) → o ≡ Some p → o ≡ Some q → q ≡ p
one_parent o p q a b = cc

one_way : (slots : List Slot) (s : ℕ) (way other : List ℕ) (r q : ℕ) → LeadsTo slots s way r → IsRoot slots r → LeadsTo slots s other q → IsRoot slots q → (length way ≡ length other) × (q ≡ r)
one_way slots s [] [] r q a root b end = (refl, sym b ∙ a)
one_way slots s [] (p ∷ other) r q a root b end = absurd (root_without slots s r p a root b.0)
one_way slots s (p ∷ way) [] r q a root b end = absurd (root_without slots s q p b end a.0)
one_way slots s (p ∷ way) (p' ∷ other) r q a root b end =
    let rest = one_way slots p way other r q a.1 root (subst (λ (k : ℕ). LeadsTo slots k other q) (one_parent (parent_at slots s) p p' a.0 b.0) b.1) end in
    (ap suc rest.0, rest.1)

-- ---- the slots on it differ

from_there : (slots : List Slot) (s : ℕ) (way : List ℕ) (r q : ℕ) → LeadsTo slots s way r → list_any (eqb q) way ≡ true → (rest : List ℕ) × LeadsTo slots q rest r × (length rest < length way)
from_there slots s [] r q h any = absurd (true≢false (sym any))
from_there slots s (p ∷ way) r q h any = go (eqb q p) refl any (λ later. from_there slots p way r q h.1 later)
  where
    go : (b : Bool) → eqb q p ≡ b → (b || list_any (eqb q) way) ≡ true → (list_any (eqb q) way ≡ true → (rest : List ℕ) × LeadsTo slots q rest r × (length rest < length way)) → (rest : List ℕ) × LeadsTo slots q rest r × (length rest < length (p ∷ way))
    go true e any more = (way, subst (λ (k : ℕ). LeadsTo slots k way r) (sym (eqb-true q p e)) h.1, omega arith)
    go false e any more = let x = more any in (x.0, x.1, omega (arith, x.2))

apart : (s : ℕ) (xs : List ℕ) → (list_any (eqb s) xs ≡ true → ⊥) → AllByRecursion (λ (y : ℕ). eqb s y ≡ false) xs
apart s [] n = tt
apart s (x ∷ xs) n = go (eqb s x) refl (λ m. apart s xs m)
  where
    go : (b : Bool) → eqb s x ≡ b → ((list_any (eqb s) xs ≡ true → ⊥) → AllByRecursion (λ (y : ℕ). eqb s y ≡ false) xs) → (eqb s x ≡ false) × AllByRecursion (λ (y : ℕ). eqb s y ≡ false) xs
    go true e more = absurd (n (ap (λ b. b || list_any (eqb s) xs) e))
    go false e more = (e, more (λ any. n (ap (λ b. b || list_any (eqb s) xs) e ∙ any)))

way_distinct : (slots : List Slot) (s : ℕ) (way : List ℕ) (r : ℕ) → LeadsTo slots s way r → IsRoot slots r → IsDistinct eqb (s ∷ way)
unfolding IsDistinct
way_distinct slots s [] r h root = (tt, tt)
way_distinct slots s (p ∷ way) r h root = (apart s (p ∷ way) back, way_distinct slots p way r h.1 root)
  where
    back : list_any (eqb s) (p ∷ way) ≡ true → ⊥
    back any =
        let x = from_there slots s (p ∷ way) r s h any in
        let same = one_way slots s (p ∷ way) x.0 r r h root x.1 root in
        omega (arith, x.2, same.0)

-- so they are no more than there are
way_short : (slots : List Slot) (s : ℕ) (way : List ℕ) (r : ℕ) → LeadsTo slots s way r → IsRoot slots r → length way < length slots
way_short slots s way r h root = let few = length-le_from_distinct_below (s ∷ way) (length slots) (way_distinct slots s way r h root) below in omega (arith, few)
  where
    below : (q : ℕ) → list_any (eqb q) (s ∷ way) ≡ true → q < length slots
    below q any = go (eqb q s) refl any
      where
        go : (b : Bool) → eqb q s ≡ b → (b || list_any (eqb q) way) ≡ true → q < length slots
        go true e any = subst (λ (k : ℕ). k < length slots) (sym (eqb-true q s e)) (way_within slots s way r h root)
        go false e any = let x = from_there slots s way r q h any in way_within slots q x.0 r x.1 root

-- ---- from a root to the end of the chain

reaches_root : (slots : List Slot) (s : ℕ) (way : List ℕ) (r steps : ℕ) → LeadsTo slots s way r → IsRoot slots r → length way ≤ steps → climb slots steps s ≡ r
reaches_root slots s [] r zero h root few = h
reaches_root slots s [] r (suc steps) h root few = ap (λ (o : Option ℕ). option_map_or (climb slots steps) o s) (ap (parent_at slots) h ∙ root_ends slots r root) ∙ h
reaches_root slots s (p ∷ way) r zero h root few = absurd (omega (arith, few))
reaches_root slots s (p ∷ way) r (suc steps) h root few = ap (λ (o : Option ℕ). option_map_or (climb slots steps) o s) h.0 ∙ reaches_root slots p way r steps h.1 root (omega (arith, few))

end_is_root : (slots : List Slot) (at : ℕ) (h : HasRoot slots at) → root_over slots at ≡ h.0
end_is_root slots at h =
    let short = way_short slots at h.1.1.0 h.0 h.1.1.1 h.1.0 in
    reaches_root slots at h.1.1.0 h.0 (length slots) h.1.1.1 h.1.0 (omega (arith, short))

ends_from_root : (slots : List Slot) (at : ℕ) → HasRoot slots at → chain_ends slots at ≡ true
ends_from_root slots at h = ap is_none (ap (parent_at slots) (end_is_root slots at h) ∙ root_ends slots h.0 h.1.0)

-- what lies at the end is the root, where there is one
pub root_of_chain : (slots : List Slot) (at r : ℕ) → r ≡ root_over slots at → HasRoot slots at → IsRootOf slots at r
root_of_chain slots at r is h = subst (IsRootOf slots at) (sym (is ∙ end_is_root slots at h)) h.1

-- ---- and back

slot_stands : (n : ℕ) (xs : List Slot) → list_all (λ (s : Slot). option_map_or (λ p. nat_lt p n) s.parent true) xs ≡ true → (at : ℕ) (s : Slot) → slice_get xs at ≡ Some s → option_map_or (λ p. nat_lt p n) s.parent true ≡ true
slot_stands n [] h at s e = absurd (cc)
slot_stands n (x ∷ xs) h zero s e = let same : x ≡ s = cc in subst (λ (t : Slot). option_map_or (λ p. nat_lt p n) t.parent true ≡ true) same (and_parts (option_map_or (λ p. nat_lt p n) x.parent true) _ h).0
slot_stands n (x ∷ xs) h (suc at) s e = slot_stands n xs (and_parts (option_map_or (λ p. nat_lt p n) x.parent true) _ h).1 at s e

pub parent_stands : (slots : List Slot) → parents_stand slots ≡ true → (at : ℕ) (s : Slot) (p : ℕ) → slice_get slots at ≡ Some s → s.parent ≡ Some p → p < length slots
parent_stands slots stand at s p e up = ltb-true p (length slots) (sym (ap (λ (o : Option ℕ). option_map_or (λ q. nat_lt q (length slots)) o true) up) ∙ slot_stands (length slots) slots stand at s e)

climb_once : (slots : List Slot) (steps at : ℕ) (o : Option ℕ) → parent_at slots at ≡ o → climb slots (suc steps) at ≡ option_map_or (climb slots steps) o at
climb_once slots steps at o e = ap (λ p. option_map_or (climb slots steps) p at) e

-- the end lies over the slot
climb_under : (slots : List Slot) (steps at : ℕ) → Under slots at (climb slots steps at)
climb_under slots zero at = ([], refl)
climb_under slots (suc steps) at = go (parent_at slots at) refl (climb_under slots steps)
  where
    go : (o : Option ℕ) → parent_at slots at ≡ o → ((p : ℕ) → Under slots p (climb slots steps p)) → Under slots at (climb slots (suc steps) at)
    go None e more = ([], sym (climb_once slots steps at None e))
    go (Some p) e more = let way = more p in (p ∷ way.0, (e, subst (LeadsTo slots p way.0) (sym (climb_once slots steps at (Some p) e)) way.1))

-- it is a slot
climb_within : (slots : List Slot) (steps at : ℕ) → parents_stand slots ≡ true → at < length slots → climb slots steps at < length slots
climb_within slots zero at stand within = within
climb_within slots (suc steps) at stand within = go (parent_at slots at) refl (climb_within slots steps)
  where
    up : (o : Option Slot) (p : ℕ) → slice_get slots at ≡ o → option_and_then (λ (s : Slot). s.parent) o ≡ Some p → p < length slots
    up (Some s) p e h = parent_stands slots stand at s p e h
    up None p e h = absurd (cc)

    go : (o : Option ℕ) → parent_at slots at ≡ o → ((p : ℕ) → parents_stand slots ≡ true → p < length slots → climb slots steps p < length slots) → climb slots (suc steps) at < length slots
    go None e more = subst (λ k. k < length slots) (sym (climb_once slots steps at None e)) within
    go (Some p) e more = subst (λ k. k < length slots) (sym (climb_once slots steps at (Some p) e)) (more p stand (up (slice_get slots at) p refl e))

root_at : (slots : List Slot) (r : ℕ) → r < length slots → parent_at slots r ≡ None → IsRoot slots r
root_at slots r within none = go (slice_get slots r) refl none
  where
    there : (xs : List Slot) → r < length xs → Slot
    there [] w = absurd (omega (arith, w))
    there (x ∷ xs) w = x

    go : (o : Option Slot) → slice_get slots r ≡ o → option_and_then (λ (s : Slot). s.parent) o ≡ None → IsRoot slots r
    go (Some s) e h = ap (option_map (λ (t : Slot). t.parent)) e ∙ ap (λ (p : Option ℕ). Some p) h
    go None e h = let x = slice_get-get_or slots r (there slots within) within in absurd (cc)

pub none_is : {A : Type 0} (o : Option A) → is_none o ≡ true → o ≡ None
none_is (Some x) h = absurd (true≢false (sym h))
none_is None h = refl

root_from_end : (slots : List Slot) (at : ℕ) → parents_stand slots ≡ true → at < length slots → chain_ends slots at ≡ true → HasRoot slots at
root_from_end slots at stand within ends =
    (root_over slots at, (root_at slots (root_over slots at) (climb_within slots (length slots) at stand within) (none_is (parent_at slots (root_over slots at)) ends), climb_under slots (length slots) at))

pub chains_end : (slots : List Slot) → parents_stand slots ≡ true → ChainsEndAtRoots slots
chains_end slots stand at within = ((λ ends. root_from_end slots at stand within ends), ends_from_root slots at)

-- a root is the only one
pub one_root : (slots : List Slot) (at : ℕ) → HasRoot slots at → HasOneRoot slots at
one_root slots at h = (h.0, h.1, λ other o. (one_way slots at h.1.1.0 o.1.0 h.0 other h.1.1.1 h.1.0 o.1.1 o.0).1)
