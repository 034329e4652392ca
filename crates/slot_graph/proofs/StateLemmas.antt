-- What is booted, and the state of each slot, by the roots that the slots lie under.
use Rattle.std.proofs.Common.{◌≡◌, ◌<◌, ◌+◌, ◌⊎◌, inl, inr, ⊎_elim, ℕ, Bool, true, false, cond, eqb, List, [], ◌∷◌, length, Option, Some, None, slice_get, refl, sym, ◌∙◌, subst, codes, arith}
use Rattle.std.specs.Prelude.{position, MatchBool}
use Rattle.std.specs.List.{range_with_len}
use Rattle.std.specs.Str.{bytes_eq}
use Rattle.std.proofs.lemmas.Bool.Decides.{eqb_tells}
use Rattle.std.proofs.lemmas.List.{length-map}
use Rattle.std.proofs.lemmas.List.FromFn.{get_or-map-range_with_len, length-range_with_len}
use Rattle.std.proofs.lemmas.List.Quantifiers.{position-Some}
use Rattle.std.proofs.lemmas.Option.{slice_get_within, slice_get-get_or}
use Rattle.conf_forms.specs.Lists.{or_else}
use Rattle.system_conf.specs.Parents.{IsRootOf}
use Rattle.system_conf.specs.Sound.{AreSlotsSound}
use Rattle.system_conf.specs.Values.{is_at}
use Rattle.system_conf.specs.declared.slot.Slot.{Slot}
use Rattle.slot_graph.specs.Booted.{AreStates, HasState, IsBooted, IsRootBooted, booted_of, root_booted, slot_in_line, slot_meant, slot_told, state_of, states_of}
use Rattle.slot_graph.specs.Kernel.{has_word, value_behind}
use Rattle.system_conf.specs.Slots.{root_over}
use Rattle.slot_graph.specs.declared.state.Booted.{Booted}
use Rattle.slot_graph.specs.declared.state.Booted.TheVariants as booted
use Rattle.slot_graph.specs.declared.state.SlotState.{SlotState}
use Rattle.slot_graph.specs.declared.state.SlotState.TheVariants as state
use Rattle.system_conf.proofs.Rootless.{root_over_root, rooted}

-- ---- the slot that is meant is one of them

found_within : (p : Slot → Bool) (slots : List Slot) (at : ℕ) → position p slots ≡ Some at → at < length slots
found_within p [] at e = absurd (cc)
found_within p (x ∷ xs) at e = (position-Some p (x ∷ xs) at x e).0

either : (a b : Option ℕ) (at : ℕ) → or_else a b ≡ Some at → (a ≡ Some at) ⊎ (b ≡ Some at)
either (Some x) b at e = inl e
either None b at e = inr e

meant_within : (slots : List Slot) (name : List ℕ) (at : ℕ) → slot_meant slots name ≡ Some at → at < length slots
meant_within slots name at e =
    ⊎_elim (found_within (λ s. is_at s.bootname name) slots at) (found_within (λ s. bytes_eq s.name name) slots at)
    (either (position (λ s. is_at s.bootname name) slots) (position (λ s. bytes_eq s.name name) slots) at e)

told_within : (slots : List Slot) (name device : Option (List ℕ)) (at : ℕ) → slot_told slots name device ≡ Some at → at < length slots
told_within slots (Some name) device at e = meant_within slots name at e
told_within slots None (Some device) at e = found_within (λ s. bytes_eq s.device device) slots at e
told_within slots None None at e = absurd (cc)

-- ---- a system's slots lie under their roots

module _ (slots : List Slot) (sound : AreSlotsSound slots) where
  over : (at : ℕ) → at < length slots → IsRootOf slots at (root_over slots at)
  over at within = root_over_root slots at sound within

  rooted_in : (o : Option ℕ) → ((at : ℕ) → o ≡ Some at → at < length slots) → IsRootBooted slots o (root_booted slots o)
  rooted_in (Some at) within = over at (within at refl)
  rooted_in None within = refl

  by_line : (line : List ℕ) (external : Bool) → MatchBool external (cond external booted.External (root_booted slots (slot_in_line slots line)) ≡ booted.External) (IsRootBooted slots (slot_in_line slots line) (cond external booted.External (root_booted slots (slot_in_line slots line))))
  by_line line true = refl
  by_line line false = rooted_in (slot_in_line slots line) (told_within slots (value_behind line (codes "rauc.slot=")) (value_behind line (codes "root=")))

  -- what is booted is the root that is meant
  pub is_booted : (line : List ℕ) (given : Option (List ℕ)) → IsBooted slots line given (booted_of slots line given)
  is_booted line (Some name) = rooted_in (slot_meant slots name) (meant_within slots name)
  is_booted line None = by_line line (has_word line (codes "rauc.external"))

  state_under : (root at : ℕ) → at < length slots → ((at ≡ root) → ⊥) → HasState slots (booted.Slot root) at (cond (eqb (root_over slots at) root) state.Active state.Inactive)
  state_under root at within other =
      ⊎_elim
      (λ h. subst (λ (b : Bool). HasState slots (booted.Slot root) at (cond b state.Active state.Inactive)) (sym h.0) (subst (IsRootOf slots at) h.1 (over at within), other))
      (λ h. subst (λ (b : Bool). HasState slots (booted.Slot root) at (cond b state.Active state.Inactive)) (sym h.0)
      ((λ is. let root_is = rooted slots sound at within in h.1 (root_is.2 (root_over slots at) (over at within) ∙ sym (root_is.2 root is))), other))
      (eqb_tells (root_over slots at) root)

  has_state : (b : Booted) (at : ℕ) → at < length slots → HasState slots b at (state_of slots b at)
  has_state (booted.Slot root) at within =
      ⊎_elim
      (λ h. subst (λ (b : Bool). HasState slots (booted.Slot root) at (cond b state.Booted (cond (eqb (root_over slots at) root) state.Active state.Inactive))) (sym h.0) h.1)
      (λ h. subst (λ (b : Bool). HasState slots (booted.Slot root) at (cond b state.Booted (cond (eqb (root_over slots at) root) state.Active state.Inactive))) (sym h.0) (state_under root at within h.1))
      (eqb_tells at root)
  has_state booted.External at within = refl
  has_state booted.Unknown at within = refl

  -- each slot has its state
  pub are_states : (b : Booted) → AreStates slots b (states_of slots b)
  are_states b = record {
    all = long;
    each = λ at s found. at_place at s found;
  }
    where
      long : length (states_of slots b) ≡ length slots
      long = length-map (range_with_len 0 (length slots)) (state_of slots b) ∙ length-range_with_len 0 (length slots)

      at_place : (at : ℕ) (s : SlotState) → slice_get (states_of slots b) at ≡ Some s → HasState slots b at s
      at_place at s found =
          let within : at < length slots = subst (λ n. at < n) long (slice_get_within (states_of slots b) at s found) in
          let zero_on : 0 + at ≡ at = omega arith in
          let there = slice_get-get_or (states_of slots b) at s (slice_get_within (states_of slots b) at s found) in
          let value = get_or-map-range_with_len (state_of slots b) 0 (length slots) at at s within zero_on in
          let is : s ≡ state_of slots b at = cc in
          subst (HasState slots b at) (sym is) (has_state b at within)
