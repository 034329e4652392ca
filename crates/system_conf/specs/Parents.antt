-- Which slots lie under which, by their parents.
use Rattle.std.specs.Prelude.{◌≡◌, ◌<◌, ◌↔◌, ℕ, true, List, [], ◌∷◌, length, slice_get, Some, None, option_map, Result, Ok, Err}
use Rattle.updater_text.specs.declared.stops.Lack.{Lack}
use Rattle.updater_text.specs.declared.stops.Lack.TheVariants as lack
use Rattle.keyfile.specs.Groups.{Text}
use Rattle.system_conf.specs.Slots.{parent_at, chain_ends}
use Rattle.system_conf.specs.declared.conf_refusal.ConfRefusal.{ConfRefusal}
use Rattle.system_conf.specs.declared.conf_refusal.ConfRefusal.TheVariants as refusal
use Rattle.system_conf.specs.declared.slot.Slot.{Slot}
use Rattle.system_conf.specs.declared.system.System.{System}

-- the way leads from the slot at s to the one at r: each slot on it is the parent of the one before
abbrev pub LeadsTo : List Slot → ℕ → List ℕ → ℕ → Type 0
LeadsTo slots s [] r = s ≡ r
LeadsTo slots s (parent ∷ way) r = (parent_at slots s ≡ Some parent) × LeadsTo slots parent way r

-- the slot at s lies under the one at r, or is it
abbrev pub Under : List Slot → ℕ → ℕ → Type 0
Under slots s r = (way : List ℕ) × LeadsTo slots s way r

-- a slot without parent stands at r
abbrev pub IsRoot : List Slot → ℕ → Type 0
IsRoot slots r = option_map (λ slot. slot.parent) (slice_get slots r) ≡ Some None

-- the slot at s lies under this root
abbrev pub IsRootOf : List Slot → ℕ → ℕ → Type 0
IsRootOf slots s r = IsRoot slots r × Under slots s r

-- it lies under some root
abbrev pub HasRoot : List Slot → ℕ → Type 0
HasRoot slots s = (r : ℕ) × IsRootOf slots s r

-- it lies under one root, and under no other
abbrev pub HasOneRoot : List Slot → ℕ → Type 0
HasOneRoot slots s = (r : ℕ) × IsRootOf slots s r × ((other : ℕ) → IsRootOf slots s other → other ≡ r)

-- each slot lies under one root
abbrev pub AreRooted : List Slot → Type 0
AreRooted slots = (at : ℕ) → at < length slots → HasOneRoot slots at

-- the first slot under no root has this name
abbrev pub IsFirstRootless : List Slot → Text → Type 0
IsFirstRootless slots name =
    (at : ℕ) × (option_map (λ slot. slot.name) (slice_get slots at) ≡ Some name) × ¬ HasRoot slots at × ((earlier : ℕ) → earlier < at → HasRoot slots earlier)

-- a chain of parents ends exactly where the slot lies under a root
abbrev pub ChainsEndAtRoots : List Slot → Type 0
ChainsEndAtRoots slots = (at : ℕ) → at < length slots → (chain_ends slots at ≡ true) ↔ HasRoot slots at

-- a system's slots lie under one root each; a cycle is told of the first of these slots that lies under none
unfoldable pub RootsTold : List Slot → Result System (Lack ConfRefusal) → Type 0
RootsTold slots (Ok system) = AreRooted system.slots
RootsTold slots (Err (lack.Refused (refusal.ParentCycle name))) = IsFirstRootless slots name
RootsTold slots (Err _) = Unit {0}
