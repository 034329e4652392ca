-- Among the states of all slots stands that of each, and it tells whether the slot is in use.
use Rattle.std.proofs.Common.{◌≡◌, ◌<◌, ◌+◌, inl, inr, ℕ, Bool, true, List, length, get_or, IsTrue, refl, sym, ◌∙◌, ap, subst, arith, true≢false}
use Rattle.std.specs.Prelude.{◌↔◌}
use Rattle.std.proofs.lemmas.List.FromFn.{get_or-map-range_with_len}
use Rattle.std.proofs.lemmas.Option.{slice_get_read}
use Rattle.system_conf.specs.declared.slot.Slot.{Slot}
use Rattle.slot_graph.specs.Booted.{AreStates, HasState, state_of, states_of}
use Rattle.slot_graph.specs.declared.state.Booted.{Booted}
use Rattle.slot_graph.specs.declared.state.Booted.TheVariants as booted
use Rattle.slot_graph.specs.declared.state.SlotState.{SlotState}
use Rattle.slot_graph.specs.declared.state.SlotState.TheVariants as state
use Rattle.running_system.specs.Running.{LiesInBooted, is_in_use}

pub state_found : (slots : List Slot) (b : Booted) (at : ℕ) (states : List SlotState) (x : SlotState) → at < length slots → states ≡ states_of slots b → x ≡ get_or states at x → x ≡ state_of slots b at
state_found slots b at states x within is found =
    let zero_on : 0 + at ≡ at = omega arith in
    found ∙ ap (λ (xs : List SlotState). get_or xs at x) is ∙ get_or-map-range_with_len (state_of slots b) 0 (length slots) at at x within zero_on

-- a slot that has this state is in use exactly where it is the booted root or lies under it
pub use_told : (slots : List Slot) (b : Booted) (at : ℕ) (s : SlotState) → HasState slots b at s → IsTrue (is_in_use s) ↔ LiesInBooted slots b at
use_told slots (booted.Slot root) at state.Booted h = ((λ used. inl h), (λ lies. refl))
use_told slots (booted.Slot root) at state.Active h = ((λ used. inr h.0), (λ lies. refl))
use_told slots (booted.Slot root) at state.Inactive h = ((λ used. absurd (true≢false (sym used))), (λ lies. absurd (elim lies [ inl is ↦ h.1 is | inr under ↦ h.0 under ])))
use_told slots booted.External at s h = ((λ used. absurd (true≢false (sym (subst (λ (x : SlotState). is_in_use x ≡ true) h used)))), (λ lies. absurd lies))
use_told slots booted.Unknown at s h = ((λ used. absurd (true≢false (sym (subst (λ (x : SlotState). is_in_use x ≡ true) h used)))), (λ lies. absurd lies))

pub lies_told : (slots : List Slot) (b : Booted) (at : ℕ) (states items : List SlotState) (x : SlotState) (used : Bool) → AreStates slots b items → at < length slots → states ≡ items → x ≡ get_or states at x → used ≡ is_in_use x → IsTrue used ↔ LiesInBooted slots b at
lies_told slots b at states items x used all within is found told =
    let inside : at < length items = omega (arith, within, all.all) in
    let there = slice_get_read items (length items) at x refl inside (found ∙ ap (λ (xs : List SlotState). get_or xs at x) is) in
    subst (λ (u : Bool). IsTrue u ↔ LiesInBooted slots b at) (sym told) (use_told slots b at x (all.each at x there))
