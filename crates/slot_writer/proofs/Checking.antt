-- A slot is looked at before it is written.
use Rattle.std.proofs.Common.{◌≡◌, ◌<◌, ℕ, Bool, List, length, get_or, Option, Some, None, Result, Ok, Err, IsTrue, refl, sym, ◌∙◌, ap, subst, slice_get, option_and_then}
use Rattle.std.proofs.lemmas.Option.{slice_get_read}
use Rattle.machine.specs.declared.stops.Fault.{Fault}
use Rattle.machine.specs.declared.stops.Stop.{Stop}
use Rattle.machine.specs.declared.stops.Stop.TheVariants.{Refused, Outside, NoMemory}
use Rattle.machine.specs.declared.world.World.{World}
use Rattle.machine.specs.Past.{Past, world_now, Fails}
use Rattle.machine.specs.Frames.{Unchanged}
use Rattle.machine.specs.Stops.{Settles, stop_fault}
use Rattle.machine.proofs.Joins.{now_unchanged, unchanged_join, unchanged_none}
use Rattle.machine.proofs.Failing.{fails_join, fails_none}
use Rattle.conf_forms.specs.Lists.{or_else}
use Rattle.system_conf.specs.declared.slot.Slot.{Slot}
use Rattle.running_system.specs.Running.{what_is_mounted, what_runs}
use Rattle.slot_writer.specs.declared.refusal.SlotRefusal.{SlotRefusal}
use Rattle.slot_writer.specs.Checks.{SlotCheck, kind_refusal, mount_refusal, pass_unless, refusal_at, refusal_of, use_refusal}

-- nothing was done
pub checks_here : (t : Bool) (refusal : Option SlotRefusal) (a : Past) (result : Result (Unit {0}) (Stop SlotRefusal)) → Settles result (pass_unless refusal) × (stop_fault result ≡ None) → SlotCheck t refusal a a result
checks_here t refusal a result h = record {
  unchanged = unchanged_none t a;
  answers = λ told. h.0;
  fails = subst (λ (k : Option Fault). Fails t a a k) (sym h.1) (fails_none t a);
}

pub settled_as : {T : Type 0} (result : Result T (Stop SlotRefusal)) (p q : Result T SlotRefusal) → p ≡ q → Settles result p → Settles result q
settled_as (Ok x) p q e h = sym e ∙ h
settled_as (Err (Refused r)) p q e h = sym e ∙ h
settled_as (Err (Outside kind)) p q e h = tt
settled_as (Err NoMemory) p q e h = tt

-- nothing was changed, and then the rest
pub checks_after : (t : Bool) (p q : Option SlotRefusal) (a b c : Past) (result : Result (Unit {0}) (Stop SlotRefusal)) → Unchanged t a b → Fails t a b None → (IsTrue t → pass_unless p ≡ pass_unless q) → SlotCheck t p b c result → SlotCheck t q a c result
checks_after t p q a b c result unchanged fine same rest = record {
  unchanged = unchanged_join t a b c unchanged rest.unchanged;
  answers = λ told. settled_as result (pass_unless p) (pass_unless q) (same told) (rest.answers told);
  fails = fails_join t a b c (stop_fault result) fine rest.fails;
}

-- something was asked for, and told further
pub checks_asked : {X : Type 0} (t : Bool) (refusal : X → Option SlotRefusal) (x y : X) (a b : Past) (result : Result (Unit {0}) (Stop SlotRefusal)) → Unchanged t a b → Fails t a b None → (IsTrue t → y ≡ x) → Settles result (pass_unless (refusal y)) × (stop_fault result ≡ None) → SlotCheck t (refusal x) a b result
checks_asked t refusal x y a b result unchanged fine is h =
    checks_after t (refusal y) (refusal x) a b b result unchanged fine (λ told. ap (λ v. pass_unless (refusal v)) (is told)) (checks_here t (refusal y) b result h)

-- the first refusal holds, or a call failed
checks_first : (t : Bool) (first second : Option SlotRefusal) (a b : Past) (stop : Stop SlotRefusal) → SlotCheck t first a b (Err stop) → SlotCheck t (or_else first second) a b (Err stop)
checks_first t first second a b (Refused r) h = record { unchanged = h.unchanged; answers = λ told. held first (h.answers told); fails = h.fails }
  where
    held : (first : Option SlotRefusal) → pass_unless first ≡ Err r → pass_unless (or_else first second) ≡ Err r
    held (Some x) e = e
    held None e = absurd (cc)
checks_first t first second a b (Outside kind) h = record { unchanged = h.unchanged; answers = λ told. tt; fails = h.fails }
checks_first t first second a b NoMemory h = record { unchanged = h.unchanged; answers = λ told. tt; fails = h.fails }

none_first : (first second : Option SlotRefusal) (u : Unit {0}) → pass_unless first ≡ Ok u → pass_unless (or_else first second) ≡ pass_unless second
none_first None second u e = refl
none_first (Some x) second u e = absurd (cc)

-- the first refusal does not hold, and then the rest
checks_second : (t : Bool) (first : Option SlotRefusal) (second : World → Option SlotRefusal) (a b c : Past) (u : Unit {0}) (result : Result (Unit {0}) (Stop SlotRefusal)) → SlotCheck t first a b (Ok u) → SlotCheck t (second (world_now b)) b c result → SlotCheck t (or_else first (second (world_now a))) a c result
checks_second t first second a b c u result passed rest =
    checks_after t (second (world_now b)) (or_else first (second (world_now a))) a b c result passed.unchanged passed.fails
    (λ told. ap (λ (w : World). pass_unless (second w)) (now_unchanged t a b passed.unchanged told) ∙ sym (none_first first (second (world_now a)) u (passed.answers told)))
    rest

-- the refusal for the slot that stands at a place
pub refusal_there : (slots : List Slot) (given : Option (List ℕ)) (at : ℕ) (slot : Slot) (image : List ℕ) (w : World) → slice_get slots at ≡ Some slot → refusal_at slots given at image w ≡ refusal_of slots given at slot image w
refusal_there slots given at slot image w is = ap (λ (o : Option Slot). option_and_then (λ s. refusal_of slots given at s image w) o) is

pub slot_there : (slots view : List Slot) (at : ℕ) (slot : Slot) → at < length slots → view ≡ slots → slot ≡ get_or view at slot → slice_get slots at ≡ Some slot
slot_there slots view at slot within same found = slice_get_read slots (length slots) at slot refl within (found ∙ ap (λ (xs : List Slot). get_or xs at slot) same)

module _ (t : Bool) (slots : List Slot) (given : Option (List ℕ)) (at : ℕ) (slot : Slot) (image : List ℕ) (a : Past) (is : slice_get slots at ≡ Some slot) where
  abbrev ChecksSlot : Past → Result (Unit {0}) (Stop SlotRefusal) → Type 0
  ChecksSlot b result = SlotCheck t (refusal_at slots given at image (world_now a)) a b result

  abbrev in_use : Option SlotRefusal
  in_use = use_refusal slots (what_runs slots given (world_now a)) at

  abbrev of_kind : Option SlotRefusal
  of_kind = kind_refusal at slot image

  abbrev of_mounts : World → Option SlotRefusal
  of_mounts w = mount_refusal at slot (what_is_mounted w)

  at_place : (b : Past) (result : Result (Unit {0}) (Stop SlotRefusal)) → SlotCheck t (or_else in_use (or_else of_kind (of_mounts (world_now a)))) a b result → ChecksSlot b result
  at_place b result h = subst (λ (o : Option SlotRefusal). SlotCheck t o a b result) (sym (refusal_there slots given at slot image (world_now a) is)) h

  pub checks_use : (b : Past) (stop : Stop SlotRefusal) → SlotCheck t in_use a b (Err stop) → ChecksSlot b (Err stop)
  checks_use b stop h = at_place b (Err stop) (checks_first t in_use (or_else of_kind (of_mounts (world_now a))) a b stop h)

  pub checks_kind : (b : Past) (u : Unit {0}) (stop : Stop SlotRefusal) → SlotCheck t in_use a b (Ok u) → Settles {T = Unit {0}} (Err stop) (pass_unless of_kind) × (stop_fault {T = Unit {0}} (Err stop) ≡ None) → ChecksSlot b (Err stop)
  checks_kind b u stop h k =
      at_place b (Err stop) (checks_second t in_use (λ w. or_else of_kind (of_mounts w)) a b b u (Err stop) h
      (checks_first t of_kind (of_mounts (world_now b)) b b stop (checks_here t of_kind b (Err stop) k)))

  pub checks_mounts : (b c : Past) (u v : Unit {0}) (result : Result (Unit {0}) (Stop SlotRefusal)) → SlotCheck t in_use a b (Ok u) → Settles {T = Unit {0}} (Ok v) (pass_unless of_kind) × (stop_fault {T = Unit {0}} {R = SlotRefusal} (Ok v) ≡ None) → SlotCheck t (of_mounts (world_now b)) b c result → ChecksSlot c result
  checks_mounts b c u v result h k m =
      at_place c result (checks_second t in_use (λ w. or_else of_kind (of_mounts w)) a b c u result h
      (checks_second t of_kind of_mounts b b c v result (checks_here t of_kind b (Ok v) k) m))
