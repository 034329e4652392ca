-- The slots of an install's jobs, and their roots, do not run.
use Rattle.std.proofs.Common.{◌≡◌, ◌≢◌, ◌<◌, inl, inr, ⊎_elim, ℕ, Bool, true, false, List, [], length, slice_get, codes, Option, Some, None, IsTrue, refl, sym, ◌∙◌, ap, subst, arith}
use Rattle.std.specs.Prelude.{MatchBool, option_and_then}
use Rattle.std.specs.List.{slice_index_or}
use Rattle.std.specs.Option.{option_map_or}
use Rattle.std.proofs.lemmas.Bool.{true≢false}
use Rattle.std.proofs.lemmas.Option.{get_or_from_slice_get, slice_get-get_or, slice_get_within}
use Rattle.keyfile.specs.Groups.{Text}
use Rattle.machine.proofs.Worlds.{bytes_eq_same}
use Rattle.machine.specs.declared.world.World.{World}
use Rattle.running_system.specs.Running.{LiesInBooted, booted_by_text, file_within, is_in_use, what_runs}
use Rattle.running_system.proofs.SlotDevices.{order, pair_differs, unmapped}
use Rattle.running_system.proofs.StateLookups.{use_told}
use Rattle.slot_graph.specs.Booted.{HasState, IsRootBooted, slot_in_line, slot_meant, states_of}
use Rattle.slot_graph.specs.Kernel.{has_word}
use Rattle.slot_graph.specs.Jobs.{IsPlaced}
use Rattle.slot_graph.specs.declared.job.Job.{Job}
use Rattle.slot_graph.specs.declared.state.Booted.{Booted}
use Rattle.slot_graph.specs.declared.state.Booted.TheVariants as booted
use Rattle.slot_graph.specs.declared.state.SlotState.{SlotState}
use Rattle.slot_graph.specs.declared.state.SlotState.TheVariants as state
use Rattle.slot_graph.proofs.StateLemmas.{are_states, is_booted}
use Rattle.system_conf.specs.Configuration.{Configuration}
use Rattle.system_conf.specs.Duplicates.{first_pair, has_same_bootname}
use Rattle.system_conf.specs.Parents.{IsRoot, IsRootOf}
use Rattle.system_conf.specs.Refusals.{same_bootname}
use Rattle.system_conf.specs.Sound.{AreSlotsSound}
use Rattle.system_conf.specs.Values.{is_at}
use Rattle.system_conf.specs.declared.slot.Slot.{Slot}
use Rattle.system_conf.proofs.Chains.{none_is}
use Rattle.system_conf.proofs.Rootless.{rooted}
use Rattle.install_facts.specs.Facts.{AreSound, FactsContent}
use Rattle.install_safety.specs.Safe.{HasBootname}

-- what is booted is a root
abbrev pub BootedIsRoot : Configuration → FactsContent → Type 0
BootedIsRoot c f = (root : ℕ) → f.booted ≡ booted.Slot root → IsRoot c.slots root

module _ (c : Configuration) (f : FactsContent) (sound : AreSound c f) (slots : AreSlotsSound c.slots) (is_root : BootedIsRoot c f) where
  -- the state of a slot, by the list
  abbrev pub state_at : ℕ → SlotState
  state_at at = slice_index_or f.states at state.Inactive

  state_of : (at : ℕ) → at < length c.slots → HasState c.slots f.booted at (state_at at)
  state_of at within =
      let all = are_states c.slots slots f.booted in
      let inside : at < length (states_of c.slots f.booted) = omega (arith, within, all.all) in
      let there : slice_get (states_of c.slots f.booted) at ≡ Some (slice_index_or (states_of c.slots f.booted) at state.Inactive) = slice_get-get_or (states_of c.slots f.booted) at state.Inactive inside in
      subst (λ (xs : List SlotState). HasState c.slots f.booted at (slice_index_or xs at state.Inactive)) (sym sound.states) (all.each at _ there)

  -- a root that is inactive is not the one that is booted
  not_booted : (b : Booted) (root r : ℕ) → b ≡ booted.Slot r → HasState c.slots b root state.Inactive → root ≢ r
  not_booted b root r is has = (subst (λ (x : Booted). HasState c.slots x root state.Inactive) is has).1

  -- a slot under an inactive root does not run
  not_lying : (b : Booted) (at root : ℕ) → f.booted ≡ b → at < length c.slots → IsRootOf c.slots at root → HasState c.slots b root state.Inactive → LiesInBooted c.slots b at → ⊥
  not_lying (booted.Slot r) at root is within under idle (inl same) =
      let own = rooted c.slots slots at within in
      let boots : IsRootOf c.slots at r = subst (λ (n : ℕ). IsRootOf c.slots n r) (sym same) (is_root r is, ([], refl)) in
      idle.1 (own.2 root under ∙ sym (own.2 r boots))
  not_lying (booted.Slot r) at root is within under idle (inr lies) =
      let own = rooted c.slots slots at within in
      idle.1 (own.2 root under ∙ sym (own.2 r lies))
  not_lying booted.External at root is within under idle lies = absurd lies
  not_lying booted.Unknown at root is within under idle lies = absurd lies

  not_true : (b : Bool) → (IsTrue b → ⊥) → b ≡ false
  not_true true no_way = absurd (no_way refl)
  not_true false no_way = refl

  module _ (at : ℕ) (job : Job) (there : slice_get f.jobs at ≡ Some job) where
    placed : IsPlaced c.slots f.states f.content.images job
    placed = sound.placed.each at job there

    root_inactive : slice_index_or f.states job.root state.Inactive ≡ state.Inactive
    root_inactive = get_or_from_slice_get f.states job.root state.Inactive state.Inactive placed.under.target.1.free.inactive

    root_within : job.root < length c.slots
    root_within =
        let inside = slice_get_within f.states job.root state.Inactive placed.under.target.1.free.inactive in
        let all = are_states c.slots slots f.booted in
        let long : length f.states ≡ length (states_of c.slots f.booted) = ap length sound.states in
        omega (arith, inside, long, all.all)

    root_has : HasState c.slots f.booted job.root state.Inactive
    root_has = subst (HasState c.slots f.booted job.root) root_inactive (state_of job.root root_within)

    -- neither the slot of a job runs
    pub slot_idle : is_in_use (state_at job.slot) ≡ false
    slot_idle =
        not_true (is_in_use (state_at job.slot))
        (λ used. not_lying f.booted job.slot job.root refl placed.slot placed.under.under root_has ((use_told c.slots f.booted job.slot (state_at job.slot) (state_of job.slot placed.slot)).0 used))

    -- nor is its root the one that is booted
    pub root_other : (root : ℕ) → f.booted ≡ booted.Slot root → root ≢ job.root
    root_other root is same = not_booted f.booted job.root root is root_has (sym same)

-- ---- what is booted

root_of_booted : (c : Configuration) (at : Option ℕ) (b : Booted) (root : ℕ) → b ≡ booted.Slot root → IsRootBooted c.slots at b → IsRoot c.slots root
root_of_booted c (Some at) b root is has = (subst (IsRootBooted c.slots (Some at)) is has).0
root_of_booted c None b root is has = let bad : booted.Unknown ≡ booted.Slot root = sym has ∙ is in absurd (cc)

by_line : (c : Configuration) (external : Bool) (at : Option ℕ) (b : Booted) (root : ℕ) → b ≡ booted.Slot root → MatchBool external (b ≡ booted.External) (IsRootBooted c.slots at b) → IsRoot c.slots root
by_line c true at b root is has = let bad : booted.External ≡ booted.Slot root = sym has ∙ is in absurd (cc)
by_line c false at b root is has = root_of_booted c at b root is has

-- what runs is a root
pub what_runs_root : (c : Configuration) → AreSlotsSound c.slots → (given : Option Text) (w : World) (root : ℕ) → what_runs c.slots given w ≡ booted.Slot root → IsRoot c.slots root
what_runs_root c slots (Some name) w root is = root_of_booted c (slot_meant c.slots name) _ root is (is_booted c.slots slots [] (Some name))
what_runs_root c slots None w root is = with_line (file_within w (codes "/proc/cmdline") 65536) is
  where
    with_line : (line : Option Text) → booted_by_text c.slots line ≡ booted.Slot root → IsRoot c.slots root
    with_line None is = absurd (cc)
    with_line (Some line) is = by_line c (has_word line (codes "rauc.external")) (slot_in_line c.slots line) _ root is (is_booted c.slots slots line None)

-- ---- bootnames

-- slots at two places have two bootnames
pub names_apart : (c : Configuration) → AreSlotsSound c.slots → (i j : ℕ) (name : Text) → HasBootname c i name → HasBootname c j name → i ≡ j
unfolding same_bootname
names_apart c slots i j name first second = with_slots (slice_get c.slots i) (slice_get c.slots j) refl refl first second
  where
    none : first_pair has_same_bootname c.slots ≡ None
    none = unmapped _ (first_pair has_same_bootname c.slots) (none_is (same_bootname c.slots) slots.bootnames_differ)

    same_name : (s t : Slot) → s.bootname ≡ Some name → t.bootname ≡ Some name → has_same_bootname s t ≡ true
    same_name s t one other =
        ap (λ (o : Option Text). option_map_or (λ n. is_at s.bootname n) o false) other
        ∙ ap (λ (o : Option Text). is_at o name) one
        ∙ bytes_eq_same name

    with_slots : (o p : Option Slot) → slice_get c.slots i ≡ o → slice_get c.slots j ≡ p → option_and_then (λ s. s.bootname) o ≡ Some name → option_and_then (λ s. s.bootname) p ≡ Some name → i ≡ j
    with_slots None p is_o is_p one other = absurd (cc)
    with_slots (Some s) None is_o is_p one other = absurd (cc)
    with_slots (Some s) (Some t) is_o is_p one other =
        ⊎_elim (λ e. e)
        (λ h. ⊎_elim
        (λ lt. absurd (true≢false (sym (same_name s t one other) ∙ pair_differs has_same_bootname c.slots i j s t none is_o is_p lt)))
        (λ lt. absurd (true≢false (sym (same_name t s other one) ∙ pair_differs has_same_bootname c.slots j i t s none is_p is_o lt))) h)
        (order i j)
