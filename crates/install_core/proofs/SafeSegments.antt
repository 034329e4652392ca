-- An install in three parts: what comes before its steps, the steps, and the unmount; and what holds of all three.
use Rattle.std.proofs.Common.{◌≡◌, ℕ, zero, suc, true, List, [], ◌∷◌, map, slice_get, Some, refl, ◌∙◌, ap}
use Rattle.std.specs.Prelude.{bytes_eq}
use Rattle.std.specs.List.{list_any}
use Rattle.std.proofs.lemmas.Bool.{or_left, or_right}
use Rattle.machine.specs.Past.{Always, Past, world_now}
use Rattle.machine.specs.Spares.{has_disk, has_file, is_kernels}
use Rattle.machine.specs.declared.world.World.{World}
use Rattle.machine.proofs.Moments.{always_joins, always_now, always_weaker}
use Rattle.machine.proofs.Worlds.{bytes_eq_same}
use Rattle.system_conf.specs.Configuration.{Configuration}
use Rattle.system_conf.specs.declared.slot.Slot.{Slot}
use Rattle.child_steps.specs.Children.{helper_spares}
use Rattle.install_safety.proofs.Frames.{disk_spared, status_spared}
use Rattle.install_safety.proofs.JobActs.{spared}
use Rattle.install_safety.proofs.Standing.{SlotsSpared}
use Rattle.install_core.specs.Untouched.{IsSpared, Untouched}

-- the device of each slot is one that helpers spare
has_slot : (slots : List Slot) (at : ℕ) (slot : Slot) → slice_get slots at ≡ Some slot → list_any (λ p. bytes_eq p slot.device) (map (λ s. s.device) slots) ≡ true
has_slot [] at slot there = absurd (cc)
has_slot (s ∷ slots) zero slot there =
    let same : s ≡ slot = cc in
    or_left (bytes_eq s.device slot.device) _ (ap (λ (x : Slot). bytes_eq x.device slot.device) same ∙ bytes_eq_same slot.device)
has_slot (s ∷ slots) (suc at) slot there = or_right (bytes_eq s.device slot.device) _ (has_slot slots at slot there)

slots_spared : (c : Configuration) (w u : World) → IsSpared (helper_spares c []) w u → SlotsSpared c w u
slots_spared c w u left = record {
  disks = λ at slot there.
      let has : has_disk (helper_spares c []) slot.device ≡ true = has_slot c.slots at slot there in
      disk_spared slot.device w u (left.lengths slot.device) (left.disks slot.device has) (left.pending slot.device has);
  vars = left.vars refl;
  writes = left.writes;
  status = status_spared c w u (λ path is. left.files path (or_right (is_kernels path) (has_file (helper_spares c []) path) (spared c [] path is)));
}

pub always_spared : (c : Configuration) (a b : Past) → Untouched true c a b → Always a b (SlotsSpared c (world_now a))
always_spared c a b left = always_weaker a b (IsSpared (helper_spares c []) (world_now a)) (SlotsSpared c (world_now a)) (λ u h. slots_spared c (world_now a) u h) (left.all refl)

-- a relation that goes on over what is spared, before and after
module _ (c : Configuration) (Q : World → World → Type 0) (start : (w : World) → Q w w)
    (later : (w u x : World) → SlotsSpared c u x → Q w u → Q w x) (before : (v w u : World) → SlotsSpared c v w → Q w u → Q v u) where
  pub over_spared : (a b : Past) → Untouched true c a b → Always a b (Q (world_now a))
  over_spared a b left = always_weaker a b (SlotsSpared c (world_now a)) (Q (world_now a)) (λ u h. later (world_now a) (world_now a) u h (start (world_now a))) (always_spared c a b left)

  -- over all three parts
  pub over_all : (a g z e : Past) → Untouched true c a g → Always g z (Q (world_now g)) → Untouched true c z e → Always a e (Q (world_now a))
  over_all a g z e first steps last =
      let at_g = always_now a g (SlotsSpared c (world_now a)) (always_spared c a g first) in
      let to_z = always_weaker g z (Q (world_now g)) (Q (world_now a)) (λ u h. before (world_now a) (world_now g) u at_g h) steps in
      let at_z = always_now g z (Q (world_now a)) to_z in
      always_joins a g e (Q (world_now a)) (over_spared a g first)
      (always_joins g z e (Q (world_now a)) to_z
      (always_weaker z e (SlotsSpared c (world_now z)) (Q (world_now a)) (λ u h. later (world_now a) (world_now z) u h at_z) (always_spared c z e last)))
