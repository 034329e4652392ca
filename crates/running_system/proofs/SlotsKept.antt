-- What runs keeps its bytes, by what was touched.
use Rattle.std.proofs.Common.{◌≡◌, ℕ, Bool, List, [], Some, IsTrue, slice_get, sym, subst, arith}
use Rattle.machine.specs.declared.world.World.{World}
use Rattle.machine.specs.Frames.{CrashChangesOnly, DiffersOnlyIn, InRange, SameBut, Unchanged}
use Rattle.machine.specs.Past.{Past, world_now, Held}
use Rattle.machine.proofs.Moments.{held_of}
use Rattle.machine.proofs.Only.{left_only, only_refl}
use Rattle.system_conf.specs.declared.slot.Slot.{Slot}
use Rattle.slot_graph.specs.Booted.{state_of}
use Rattle.slot_graph.specs.declared.state.Booted.{Booted}
use Rattle.running_system.specs.Running.{RunningKept, is_in_use}

-- nothing is touched on the device of a slot in use
pub kept_but : (t : Bool) (slots : List Slot) (b : Booted) (a c : Past) (Touched : List ℕ → ℕ → Type 0)
    → ((at : ℕ) (slot : Slot) → slice_get slots at ≡ Some slot → IsTrue (is_in_use (state_of slots b at)) → (i : ℕ) → Touched slot.device i → ⊥)
    → (IsTrue t → (v : World) → Held a c v → SameBut Touched (world_now a) v) → RunningKept t slots b a c
kept_but t slots b a c Touched spares left = record {
  each = λ told v held at slot there used i settled. (left told v held).bytes slot.device i (spares at slot there used i) settled;
}

-- only a range of one device is touched, and no slot in use is on that
pub kept_device : (t : Bool) (slots : List Slot) (b : Booted) (a c : Past) (device : List ℕ) (from to : ℕ)
    → ((at : ℕ) (slot : Slot) → slice_get slots at ≡ Some slot → IsTrue (is_in_use (state_of slots b at)) → slot.device ≡ device → ⊥)
    → CrashChangesOnly t device from to a c → RunningKept t slots b a c
kept_device t slots b a c device from to spares left =
    kept_but t slots b a c (InRange device from to) (λ at slot there used i touched. spares at slot there used touched.0) left.each

-- nothing is changed
pub kept_unchanged : (t : Bool) (slots : List Slot) (b : Booted) (a c : Past) → Unchanged t a c → RunningKept t slots b a c
kept_unchanged t slots b a c same =
    kept_but t slots b a c (InRange [] 0 0)
    (λ at slot there used i touched. let bad : ⊥ = omega (arith, touched.2) in bad)
    (λ told v held.
    held_of a c (λ u. u ≡ world_now a) (SameBut (InRange [] 0 0) (world_now a)) (same.all told)
    (λ u v is crash. left_only [] 0 0 (world_now a) u v (subst (λ (w : World). DiffersOnlyIn [] 0 0 (world_now a) w) (sym is) (only_refl [] 0 0 (world_now a))) crash) v held)
