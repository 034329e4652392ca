-- What reading a configuration says of roots.
use Rattle.std.proofs.Common.{◌≡◌, ◌<◌, ℕ, zero, suc, ◌+◌, Bool, true, false, cond, List, [], ◌∷◌, length, Option, Some, None, Result, Ok, Err, slice_get, option_map, refl, sym, ◌∙◌, ap, arith}
use Rattle.std.specs.Option.{option_map_or}
use Rattle.std.specs.List.{enumerate_from}
use Rattle.std.proofs.lemmas.Bool.{true≢false}
use Rattle.updater_text.specs.declared.stops.Lack.{Lack}
use Rattle.updater_text.specs.declared.stops.Lack.TheVariants as lack
use Rattle.keyfile.specs.Groups.{Text, Group}
use Rattle.conf_forms.specs.Lists.{or_else, first_of}
use Rattle.conf_forms.specs.SlotNames.{name_of, slot_groups}
use Rattle.conf_forms.specs.Walks.{first_bad, first_left_out, first_unknown}
use Rattle.system_conf.specs.Slots.{slots_of, chain_ends, root_over}
use Rattle.system_conf.specs.Parents.{HasRoot, IsRootOf, AreRooted, IsFirstRootless, ChainsEndAtRoots, RootsTold}
use Rattle.system_conf.specs.Reads.{Reads}
use Rattle.system_conf.specs.Sound.{AreSlotsSound}
use Rattle.system_conf.specs.Refusals.{system_of, unless_refused, first_refusal, missing, unknown_key, left_out, bad_value, bad_name_of, is_bad_slot_group, bad_slot_name, too_many, same_device, same_bootname, has_parent, orphan, no_parent, endless, parent_cycle, bootable_child, child_boot_name, device_is_file}
use Rattle.system_conf.specs.Configuration.{Configuration, configuration}
use Rattle.system_conf.specs.Conflicts.{is_conflict}
use Rattle.system_conf.specs.Duplicates.{first_pair, has_same_bootname, has_same_device}
use Rattle.system_conf.specs.KeyTable.{system_table}
use Rattle.system_conf.specs.Mandatory.{first_missing}
use Rattle.system_conf.specs.OwnFiles.{own_device, own_files_of}
use Rattle.system_conf.specs.declared.conf_refusal.ConfRefusal.{ConfRefusal}
use Rattle.system_conf.specs.declared.conf_refusal.ConfRefusal.TheVariants as refusal
use Rattle.system_conf.specs.declared.slot.Slot.{Slot}
use Rattle.system_conf.specs.declared.system.System.{System}
use Rattle.system_conf.proofs.Chains.{chains_end, none_is, one_root, root_of_chain}
use Rattle.conf_forms.proofs.FirstOf.{both_none}
use Rattle.system_conf.proofs.Soundness.{parents_read}

-- ---- what the refusal of cycles says

ends_if : (b : Bool) (why : ConfRefusal) → cond b None (Some why) ≡ None → b ≡ true
ends_if true why h = refl
ends_if false why h = absurd (cc)

none_endless : (slots xs : List Slot) (n : ℕ) → first_of (endless slots) (enumerate_from n xs) ≡ None → (at : ℕ) → at < length xs → chain_ends slots (n + at) ≡ true
none_endless slots [] n h at within = absurd (omega (arith, within))
none_endless slots (x ∷ xs) n h zero within =
    let same : n + 0 ≡ n = omega arith in
    ap (chain_ends slots) same ∙ ends_if (chain_ends slots n) (refusal.ParentCycle x.name) (both_none (endless slots (n, x)) (first_of (endless slots) (enumerate_from (n + 1) xs)) h).0
none_endless slots (x ∷ xs) n h (suc at) within =
    let same : n + suc at ≡ (n + 1) + at = omega arith in
    ap (chain_ends slots) same ∙ none_endless slots xs (n + 1) (both_none (endless slots (n, x)) (first_of (endless slots) (enumerate_from (n + 1) xs)) h).1 at (omega (arith, within))

abbrev FirstEndless : List Slot → List Slot → ℕ → Text → Type 0
FirstEndless slots xs n name = (at : ℕ) × (option_map (λ (s : Slot). s.name) (slice_get xs at) ≡ Some name) × (chain_ends slots (n + at) ≡ false) × ((k : ℕ) → k < at → chain_ends slots (n + k) ≡ true)

one_later : (slots : List Slot) (x : Slot) (xs : List Slot) (n : ℕ) (name : Text) → chain_ends slots n ≡ true → FirstEndless slots xs (n + 1) name → FirstEndless slots (x ∷ xs) n name
one_later slots x xs n name e r = (suc r.0, r.1, ap (chain_ends slots) (further r.0) ∙ r.2, before)
  where
    further : (k : ℕ) → n + suc k ≡ (n + 1) + k
    further k = omega arith

    before : (k : ℕ) → k < suc r.0 → chain_ends slots (n + k) ≡ true
    before zero l = let same : n + 0 ≡ n = omega arith in ap (chain_ends slots) same ∙ e
    before (suc k) l = ap (chain_ends slots) (further k) ∙ r.3 k (omega (arith, l))

first_endless : (slots xs : List Slot) (n : ℕ) (name : Text) → first_of (endless slots) (enumerate_from n xs) ≡ Some (refusal.ParentCycle name) → FirstEndless slots xs n name
first_endless slots [] n name h = absurd (cc)
first_endless slots (x ∷ xs) n name h = go (chain_ends slots n) refl h (λ later. first_endless slots xs (n + 1) name later)
  where
    go : (b : Bool) → chain_ends slots n ≡ b → or_else (cond b None (Some (refusal.ParentCycle x.name))) (first_of (endless slots) (enumerate_from (n + 1) xs)) ≡ Some (refusal.ParentCycle name)
        → (first_of (endless slots) (enumerate_from (n + 1) xs) ≡ Some (refusal.ParentCycle name) → FirstEndless slots xs (n + 1) name) → FirstEndless slots (x ∷ xs) n name
    go true e h more = one_later slots x xs n name e (more h)
    go false e h more =
        let same : n + 0 ≡ n = omega arith in
        let called : x.name ≡ name = cc in
        (0, ap (λ (t : Text). Some t) called, ap (chain_ends slots) same ∙ e, λ k l. absurd (omega (arith, l)))

-- ---- no other refusal tells of a cycle

abbrev is_cycle : ConfRefusal → Bool
is_cycle (refusal.ParentCycle name) = true
is_cycle _ = false

abbrev IsOther : Option ConfRefusal → Type 0
IsOther o = option_map_or is_cycle o false ≡ false

other_first : {A : Type 0} (f : A → Option ConfRefusal) (xs : List A) → ((x : A) → IsOther (f x)) → IsOther (first_of f xs)
other_first f [] each = refl
other_first f (x ∷ xs) each = go (f x) (each x) (other_first f xs each)
  where
    go : (o : Option ConfRefusal) → IsOther o → IsOther (first_of f xs) → IsOther (or_else o (first_of f xs))
    go (Some y) here later = here
    go None here later = later

other_if : (b : Bool) (why : ConfRefusal) → is_cycle why ≡ false → IsOther (cond b (Some why) None)
other_if true why h = h
other_if false why h = refl

other_unless : (b : Bool) (why : ConfRefusal) → is_cycle why ≡ false → IsOther (cond b None (Some why))
other_unless true why h = refl
other_unless false why h = h

other_map : {A : Type 0} (f : A → ConfRefusal) (o : Option A) → ((x : A) → is_cycle (f x) ≡ false) → IsOther (option_map f o)
other_map f (Some x) each = each x
other_map f None each = refl

other_missing : (groups : List Group) → IsOther (missing groups)
unfolding missing
other_missing groups = other_map (λ p. refusal.Missing p.0 p.1) (first_missing groups) (λ p. refl)

other_unknown_key : (groups : List Group) → IsOther (unknown_key groups)
unfolding unknown_key
other_unknown_key groups = other_map (λ p. refusal.UnknownKey p.0 p.1) (first_unknown system_table groups) (λ p. refl)

other_left_out : (groups : List Group) → IsOther (left_out groups)
unfolding left_out
other_left_out groups = other_map (λ p. refusal.LeftOut p.0 p.1) (first_left_out system_table groups) (λ p. refl)

other_bad_value : (groups : List Group) → IsOther (bad_value groups)
unfolding bad_value
other_bad_value groups = other_map (λ p. refusal.BadValue p.0 p.1) (first_bad system_table (is_conflict groups) groups) (λ p. refl)

other_bad_slot_name : (groups : List Group) → IsOther (bad_slot_name groups)
unfolding bad_slot_name
other_bad_slot_name groups = other_first bad_name_of groups (λ g. other_if (is_bad_slot_group g.0) (refusal.BadSlotName g.0) refl)

other_too_many : (slots : List Slot) → IsOther (too_many slots)
unfolding too_many
other_too_many slots = other_if _ (refusal.TooMany (length slots)) refl

other_same_device : (slots : List Slot) → IsOther (same_device slots)
unfolding same_device
other_same_device slots = other_map (λ p. refusal.SameDevice p.0 p.1) (first_pair has_same_device slots) (λ p. refl)

other_same_bootname : (slots : List Slot) → IsOther (same_bootname slots)
unfolding same_bootname
other_same_bootname slots = other_map (λ p. refusal.SameBootName p.0 p.1) (first_pair has_same_bootname slots) (λ p. refl)

other_no_parent : (groups : List Group) → IsOther (no_parent groups)
unfolding no_parent
other_no_parent groups = other_first (orphan groups) (slot_groups groups) (λ g. other_unless (has_parent groups g) (refusal.NoParent (name_of g)) refl)

other_child_boot_name : (slots : List Slot) → IsOther (child_boot_name slots)
unfolding child_boot_name
other_child_boot_name slots = other_first bootable_child slots (λ s. other_if _ (refusal.ChildBootName s.name) refl)

other_device_is_file : (groups : List Group) (slots : List Slot) → IsOther (device_is_file groups slots)
unfolding device_is_file
other_device_is_file groups slots = other_map (λ name. refusal.DeviceIsFile name) (first_of (own_device (own_files_of groups)) slots) (λ name. refl)

no_other : (o : Option ConfRefusal) (name : Text) → IsOther o → o ≡ Some (refusal.ParentCycle name) → ⊥
no_other o name other h = true≢false (sym (ap (λ (p : Option ConfRefusal). option_map_or is_cycle p false) h) ∙ other)

skipped : (a b : Option ConfRefusal) (name : Text) → IsOther a → or_else a b ≡ Some (refusal.ParentCycle name) → b ≡ Some (refusal.ParentCycle name)
skipped (Some y) b name other h = absurd (no_other (Some y) name other h)
skipped None b name other h = h

kept_first : (a b : Option ConfRefusal) (name : Text) → IsOther b → or_else a b ≡ Some (refusal.ParentCycle name) → a ≡ Some (refusal.ParentCycle name)
kept_first (Some y) b name other h = h
kept_first None b name other h = absurd (no_other b name other h)

other_or : (a b : Option ConfRefusal) → IsOther a → IsOther b → IsOther (or_else a b)
other_or (Some y) b p q = p
other_or None b p q = q

other_none : IsOther None
other_none = refl

first_cycle : (groups : List Group) (name : Text) → first_refusal groups ≡ Some (refusal.ParentCycle name) → parent_cycle (slots_of groups) ≡ Some (refusal.ParentCycle name)
first_cycle groups name h =
    let slots = slots_of groups in
    let h1 = skipped (missing groups) _ name (other_missing groups) h in
    let h2 = skipped (unknown_key groups) _ name (other_unknown_key groups) h1 in
    let h3 = skipped (left_out groups) _ name (other_left_out groups) h2 in
    let h4 = skipped (bad_value groups) _ name (other_bad_value groups) h3 in
    let h5 = skipped (bad_slot_name groups) _ name (other_bad_slot_name groups) h4 in
    let h6 = skipped (too_many slots) _ name (other_too_many slots) h5 in
    let h7 = skipped (same_device slots) _ name (other_same_device slots) h6 in
    let h8 = skipped (same_bootname slots) _ name (other_same_bootname slots) h7 in
    let h9 = skipped (no_parent groups) _ name (other_no_parent groups) h8 in
    kept_first (parent_cycle slots) _ name
    (other_or (child_boot_name slots) _ (other_child_boot_name slots) (other_or (device_is_file groups slots) None (other_device_is_file groups slots) other_none)) h9

-- ---- what is told

at_zero : (k : ℕ) → 0 + k ≡ k
at_zero k = omega arith

pub chains_read : (groups : List Group) → ChainsEndAtRoots (slots_of groups)
chains_read groups = chains_end (slots_of groups) (parents_read groups)

-- the slots of a system lie under one root each
pub rooted : (slots : List Slot) → AreSlotsSound slots → AreRooted slots
unfolding parent_cycle
rooted slots sound at within =
    let ends = none_endless slots slots 0 (none_is (parent_cycle slots) sound.chains_end) at within in
    one_root slots at ((chains_end slots sound.parents_stand at within).0 (ap (chain_ends slots) (sym (at_zero at)) ∙ ends))

-- the root of a slot of a system lies at the end of its chain of parents
pub root_over_root : (slots : List Slot) (at : ℕ) → AreSlotsSound slots → at < length slots → IsRootOf slots at (root_over slots at)
root_over_root slots at sound within = let root = rooted slots sound at within in root_of_chain slots at (root_over slots at) refl (root.0, root.1)

named_within : (xs : List Slot) (at : ℕ) (name : Text) → option_map (λ (s : Slot). s.name) (slice_get xs at) ≡ Some name → at < length xs
named_within [] at name h = absurd (cc)
named_within (x ∷ xs) zero name h = omega arith
named_within (x ∷ xs) (suc at) name h = let less = named_within xs at name h in omega (arith, less)

first_rootless : (groups : List Group) (name : Text) → first_refusal groups ≡ Some (refusal.ParentCycle name) → IsFirstRootless (slots_of groups) name
unfolding parent_cycle
first_rootless groups name h = (r.0, r.1, no_root, above)
  where
    slots : List Slot
    slots = slots_of groups

    r : FirstEndless slots slots 0 name
    r = first_endless slots slots 0 name (first_cycle groups name h)

    within : r.0 < length slots
    within = named_within slots r.0 name r.1

    no_root : HasRoot slots r.0 → ⊥
    no_root root = true≢false (sym ((chains_read groups r.0 within).1 root) ∙ ap (chain_ends slots) (sym (at_zero r.0)) ∙ r.2)

    above : (k : ℕ) → k < r.0 → HasRoot slots k
    above k l = (chains_read groups k (omega (arith, l, within))).0 (ap (chain_ends slots) (sym (at_zero k)) ∙ r.3 k l)

refused_by : (o : Option ConfRefusal) (c : Configuration) (why : ConfRefusal) → unless_refused o c ≡ Err why → o ≡ Some why
refused_by (Some y) c why h = cc
refused_by None c why h = absurd (cc)

pub roots_told : (groups : List Group) (r : Result System (Lack ConfRefusal)) → Reads (system_of groups) r → RootsTold (slots_of groups) r
unfolding RootsTold
roots_told groups (Ok system) h = rooted system.slots system.sound.slots
roots_told groups (Err (lack.Refused (refusal.ParentCycle name))) h = first_rootless groups name (refused_by (first_refusal groups) (configuration groups) (refusal.ParentCycle name) h)
roots_told groups (Err _) h = tt
