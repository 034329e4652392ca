-- What was safe since a moment up to which nothing had changed is safe since the start.
use Rattle.std.proofs.Common.{◌≡◌, inl, inr, ⊎_elim, Bool, true, [], IsTrue, refl, sym, ◌∙◌, ap, subst}
use Rattle.boot_backends.specs.Honest.{Honest}
use Rattle.boot_backends.proofs.Truth.{honest_splits}
use Rattle.machine.specs.Crash.{Crash, is_in}
use Rattle.machine.specs.Frames.{Unchanged}
use Rattle.machine.specs.Past.{Grows, Held, Past, WorldSince, world_now}
use Rattle.machine.specs.World.{disk_byte}
use Rattle.machine.specs.declared.world.Spares.{Spares}
use Rattle.machine.specs.declared.world.World.{World}
use Rattle.machine.proofs.Joins.{unchanged_join, unchanged_none}
use Rattle.machine.proofs.Moments.{always_now, always_weaker, grows_refl, held_splits, was_before, was_now}
use Rattle.running_system.specs.Running.{is_in_use, what_runs}
use Rattle.slot_graph.specs.Booted.{state_of}
use Rattle.system_conf.specs.Configuration.{Configuration}
use Rattle.child_steps.specs.Children.{helper_spares}
use Rattle.install_facts.specs.Facts.{FactsContent}
use Rattle.install_facts.specs.declared.request.Request.{Request}
use Rattle.install_safety.specs.Safe.{BootedGood, TargetsSafe}
use Rattle.install_safety.specs.TrueRecords.{RecordsSafe}
use Rattle.install_core.specs.CrashSafe.{FactsSince, IsCrashSafe, SafeBy, SafeByFacts}
use Rattle.install_core.specs.Untouched.{IsSpared, Untouched}
use Rattle.install_core.proofs.CrashSafety.{none_touched}
use Rattle.install_core.proofs.LeftUntouched.{untouched_join}

spared_none : (spares : Spares) (w : World) → IsSpared spares w w
spared_none spares w = record {
  writes = refl;
  lengths = λ path. refl;
  disks = λ path is. refl;
  pending = λ path is. refl;
  files = λ path is. refl;
  vars = λ is. refl;
}

unchanged_untouched : (t : Bool) (c : Configuration) (a b : Past) → Unchanged t a b → Untouched t c a b
unchanged_untouched t c a b same = record {
  all = λ told. always_weaker a b (λ u. u ≡ world_now a) (IsSpared (helper_spares c []) (world_now a))
      (λ u is. subst (λ (x : World). IsSpared (helper_spares c []) (world_now a) x) (sym is) (spared_none (helper_spares c []) (world_now a))) (same.all told);
}

-- where nothing was done
pub safe_none : (t : Bool) (c : Configuration) (r : Request) (a : Past) → IsCrashSafe t c r a a
safe_none t c r a = none_touched c r a a t (unchanged_untouched t c a a (unchanged_none t a))

module _ (c : Configuration) (r : Request) (a b z : Past) (same : Unchanged true a b) (later : Grows b z) where
  grows_b : Grows a b
  grows_b = (same.all refl).grows

  now_same : world_now b ≡ world_now a
  now_same = always_now a b (λ u. u ≡ world_now a) (same.all refl)

  -- a stop before that moment leaves what one at it leaves
  held_later : (v : World) → Held a z v → Held b z v
  held_later v held = ⊎_elim first (λ h. h) (held_splits a b z grows_b later v held)
    where
      here : WorldSince b z (world_now b)
      here = was_before b b z (grows_refl b) later (world_now b) (was_now b b (grows_refl b))

      first : Held a b v → Held b z v
      first h = (world_now b, here, subst (λ (x : World). Crash x v) ((same.all refl).each h.0 h.1 ∙ sym now_same) h.2)

  honest_later : Honest c.boot a z → Honest c.boot b z
  honest_later honest = (honest_splits c.boot a b z grows_b later honest).1

  by_later : (f : FactsContent) → SafeBy c f b z → SafeBy c f a z
  by_later f safe = record {
    targets = λ honest v held. subst (λ (w : World). TargetsSafe c f w v) now_same (safe.targets (honest_later honest) v (held_later v held));
    records = λ v held. subst (λ (w : World). RecordsSafe c f w v) now_same (safe.records v (held_later v held));
  }

  facts_later : (f : FactsContent) → FactsSince c r b z f → FactsSince c r a z f
  facts_later f facts = record {
    start = facts.start;
    mounted = facts.mounted;
    gathered = facts.gathered;
    bundle = facts.bundle;
    before = unchanged_join true a b facts.start same facts.before;
    mounts = facts.mounts;
    checks = facts.checks;
    told = facts.told;
    later = facts.later;
  }

  safe_later : SafeByFacts c r b z → SafeByFacts c r a z
  safe_later (inl left) = inl (untouched_join true c a b z (unchanged_untouched true c a b same) left)
  safe_later (inr h) = inr (h.0, facts_later h.0 h.1, by_later h.0 h.2)

  all_later : IsCrashSafe true c r b z → IsCrashSafe true c r a z
  all_later safe = record {
    running = record {
      each = λ told v held at slot there used i settled.
          safe.running.each told v (held_later v held) at slot there
          (subst (λ (w : World). IsTrue (is_in_use (state_of c.slots (what_runs c.slots r.given_boot w) at))) (sym now_same) used) i
          (ap (λ (w : World). is_in w.pending slot.device i) now_same ∙ settled)
          ∙ ap (λ (w : World). disk_byte w slot.device i) now_same;
    };
    good = λ told honest v held. subst (λ (w : World). BootedGood c (what_runs c.slots r.given_boot w) w v) now_same (safe.good told (honest_later honest) v (held_later v held));
    safe = λ told. safe_later (safe.safe told);
  }

-- told or not
pub crash_safe_later : (t : Bool) (c : Configuration) (r : Request) (a b z : Past) → Unchanged t a b → (IsTrue t → Grows b z) → IsCrashSafe t c r b z → IsCrashSafe t c r a z
crash_safe_later t c r a b z same later safe = record {
  running = record { each = λ told. (by_told told).running.each refl };
  good = λ told. (by_told told).good refl;
  safe = λ told. (by_told told).safe refl;
}
  where
    by_told : IsTrue t → IsCrashSafe true c r a z
    by_told told = all_later c r a b z (record { all = λ is. same.all told }) (later told) (as_true safe)
      where
        as_true : IsCrashSafe t c r b z → IsCrashSafe true c r b z
        as_true s = record { running = record { each = λ is. s.running.each told }; good = λ is. s.good told; safe = λ is. s.safe told }
