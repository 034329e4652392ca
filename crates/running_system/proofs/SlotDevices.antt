-- Each slot has a device of its own, so a write to a slot that is not in use touches none that is.
use Rattle.std.proofs.Common.{◌≡◌, ◌<◌, ◌+◌, ◌⊎◌, inl, inr, ⊎_elim, ℕ, zero, suc, Bool, true, false, cond, List, [], ◌∷◌, take, Option, Some, None, IsTrue, refl, sym, ◌∙◌, ap, slice_get, option_map, option_and_then, bytes_eq, arith, true≢false}
use Rattle.std.specs.List.{enumerate_from}
use Rattle.std.proofs.lemmas.Slice.Eq.{bytes_eq-Decides}
use Rattle.conf_forms.specs.Lists.{first_of}
use Rattle.system_conf.specs.Duplicates.{first_pair, has_same_device, pair_if, pair_with}
use Rattle.system_conf.specs.Refusals.{same_device}
use Rattle.system_conf.specs.Sound.{AreSlotsSound}
use Rattle.system_conf.specs.declared.slot.Slot.{Slot}
use Rattle.system_conf.proofs.Chains.{none_is}
use Rattle.conf_forms.proofs.FirstOf.{both_none}
use Rattle.conf_forms.proofs.Numbered.{slice_get-from}
use Rattle.slot_graph.specs.Booted.{state_of}
use Rattle.slot_graph.specs.declared.state.Booted.{Booted}
use Rattle.running_system.specs.Running.{is_in_use}

first_none : {A B : Type 0} (f : A → Option B) (xs : List A) (i : ℕ) → first_of f xs ≡ None → option_and_then f (slice_get xs i) ≡ None
first_none f [] i e = refl
first_none f (x ∷ xs) zero e = (both_none (f x) (first_of f xs) e).0
first_none f (x ∷ xs) (suc i) e = first_none f xs i (both_none (f x) (first_of f xs) e).1

earlier : {A : Type 0} (xs : List A) (n i : ℕ) → i < n → slice_get (take n xs) i ≡ slice_get xs i
earlier xs zero i lt = let bad : ⊥ = omega (arith, lt) in absurd bad
earlier [] (suc n) i lt = refl
earlier (x ∷ xs) (suc n) zero lt = refl
earlier (x ∷ xs) (suc n) (suc i) lt = earlier xs n i (omega (arith, lt))

unless_then : {A : Type 0} (b : Bool) (x : A) → cond b (Some x) None ≡ None → b ≡ false
unless_then true x e = absurd (cc)
unless_then false x e = refl

pub unmapped : {A B : Type 0} (f : A → B) (o : Option A) → option_map f o ≡ None → o ≡ None
unmapped f (Some x) e = absurd (cc)
unmapped f None e = refl

-- no two slots make such a pair, where there is none
pub pair_differs : (test : Slot → Slot → Bool) (slots : List Slot) (i j : ℕ) (s t : Slot) → first_pair test slots ≡ None → slice_get slots i ≡ Some s → slice_get slots j ≡ Some t → i < j → test s t ≡ false
pair_differs test slots i j s t no_pair first second lt =
    let zero_on : 0 + j ≡ j = omega arith in
    let at_j : slice_get (enumerate_from 0 slots) j ≡ Some (j, t) = slice_get-from 0 slots j ∙ ap (option_map (λ x. (0 + j, x))) second ∙ ap (λ k. Some (k, t)) zero_on in
    let here : pair_with test slots (j, t) ≡ None = sym (ap (option_and_then (pair_with test slots)) at_j) ∙ first_none (pair_with test slots) (enumerate_from 0 slots) j no_pair in
    let before : pair_if test t s ≡ None = sym (ap (option_and_then (pair_if test t)) (earlier slots j i lt ∙ first)) ∙ first_none (pair_if test t) (take j slots) i here in
    unless_then (test s t) _ before

differ : (slots : List Slot) (i j : ℕ) (s t : Slot) → same_device slots ≡ None → slice_get slots i ≡ Some s → slice_get slots j ≡ Some t → i < j → bytes_eq s.device t.device ≡ false
unfolding same_device
differ slots i j s t none first second lt = pair_differs has_same_device slots i j s t (unmapped _ (first_pair has_same_device slots) none) first second lt

-- one of two numbers is the other, or they have an order
pub order : (i j : ℕ) → (i ≡ j) ⊎ ((i < j) ⊎ (j < i))
order zero zero = inl refl
order zero (suc j) = inr (inl (omega arith))
order (suc i) zero = inr (inr (omega arith))
order (suc i) (suc j) =
    ⊎_elim (λ e. inl (ap suc e)) (λ h. inr (⊎_elim (λ l. inl (omega (arith, l))) (λ l. inr (omega (arith, l))) h)) (order i j)

pub apart : (slots : List Slot) (i j : ℕ) (s t : Slot) → same_device slots ≡ None → slice_get slots i ≡ Some s → slice_get slots j ≡ Some t → s.device ≡ t.device → i ≡ j
apart slots i j s t none first second same =
    ⊎_elim (λ e. e)
    (λ h. ⊎_elim
    (λ lt. absurd (true≢false (sym ((bytes_eq-Decides s.device t.device).1 same) ∙ differ slots i j s t none first second lt)))
    (λ lt. absurd (true≢false (sym ((bytes_eq-Decides t.device s.device).1 (sym same)) ∙ differ slots j i t s none second first lt))) h)
    (order i j)

-- the slots of a system are told apart by their devices
pub alone_in : (slots : List Slot) → AreSlotsSound slots → same_device slots ≡ None
alone_in slots sound = none_is (same_device slots) sound.devices_differ

-- a slot in use is on no device of one that is not
pub spares : (slots : List Slot) (b : Booted) (target at : ℕ) (t slot : Slot) → same_device slots ≡ None → slice_get slots target ≡ Some t → is_in_use (state_of slots b target) ≡ false → slice_get slots at ≡ Some slot → IsTrue (is_in_use (state_of slots b at)) → slot.device ≡ t.device → ⊥
spares slots b target at t slot alone here idle there used same =
    let place : at ≡ target = apart slots at target slot t alone there here same in
    true≢false (sym used ∙ ap (λ (k : ℕ). is_in_use (state_of slots b k)) place ∙ idle)
