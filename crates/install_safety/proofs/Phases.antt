-- How far an install is with the slots that it writes, and that each of these phases is safe.
use Rattle.std.proofs.Common.{◌≡◌, ◌⊎◌, inl, inr, ℕ, true, false, List, length, slice_get, Option, Some, sym, ◌∙◌, ap, subst, arith}
use Rattle.std.specs.Prelude.{IsSomeAnd}
use Rattle.boot_backends.specs.Marked.{names_of}
use Rattle.boot_state.specs.States.{is_down, primary}
use Rattle.boot_state.proofs.Marks.{down_not_primary}
use Rattle.keyfile.specs.Groups.{Text}
use Rattle.machine.specs.Crash.{Crash, is_in}
use Rattle.machine.specs.World.{disk}
use Rattle.machine.specs.declared.world.World.{World}
use Rattle.machine.proofs.Worlds.{crash_settled, same_disk}
use Rattle.manifest.specs.declared.image.ImageFile.{ImageFile}
use Rattle.raw_writer.specs.Whole.{IsWhole}
use Rattle.slot_graph.specs.declared.job.Job.{Job}
use Rattle.system_conf.specs.Configuration.{Configuration}
use Rattle.install_facts.specs.Facts.{FactsContent}
use Rattle.install_plan.specs.Acts.{Work, is_alone, work_at}
use Rattle.install_safety.specs.Safe.{HasBootname, TargetsSafe}
use Rattle.install_safety.proofs.Frames.{DiskKept, not_pending}

-- a device begins with a file's bytes, and nothing of it is pending
pub record StandsWhole (device : Text) (file : ImageFile) (u : World) : Type 0 where
  pub whole : IsSomeAnd (disk u device) (λ bytes. IsWhole bytes file.size file.digest)
  pub settled : (i : ℕ) → is_in u.pending device i ≡ false

-- what is settled stays as it is where it is kept
pub settled_kept : (device : Text) (w u : World) → DiskKept device w u → ((i : ℕ) → is_in w.pending device i ≡ false) → disk u device ≡ disk w device
settled_kept device w u kept settled = same_disk (disk u device) (disk w device) kept.size (λ i. kept.bytes i (settled i))

pub whole_kept : (device : Text) (file : ImageFile) (w u : World) → DiskKept device w u → StandsWhole device file w → StandsWhole device file u
whole_kept device file w u kept stands = record {
  whole = subst (λ (o : Option (List ℕ)). IsSomeAnd o (λ bytes. IsWhole bytes file.size file.digest)) (sym (settled_kept device w u kept stands.settled)) stands.whole;
  settled = λ i. not_pending (is_in u.pending device i) (is_in w.pending device i) (kept.pending i) (stands.settled i);
}

module _ (c : Configuration) (f : FactsContent) where
  -- each target is down
  abbrev pub TargetsDown : World → Type 0
  TargetsDown u = (at : ℕ) (job : Job) (name : Text) → slice_get f.jobs at ≡ Some job → HasBootname c job.root name → is_down c.boot u.vars name ≡ true

  -- each slot that RAUC alone writes is whole
  abbrev pub AllStand : World → Type 0
  AllStand u = (at : ℕ) (x : Work) (file : ImageFile) → work_at c f at ≡ Some x → is_alone x ≡ true → x.image.file ≡ Some file → StandsWhole x.slot.device file u

  -- nothing was written since w, or the targets are down, or all is whole
  abbrev pub Phase : World → World → Type 0
  Phase w u = (u.writes ≡ w.writes) ⊎ (TargetsDown u ⊎ AllStand u)

  -- whatever a stop leaves of such a world is safe
  pub phase_safe : (w u v : World) → Phase w u → Crash u v → TargetsSafe c f w v
  phase_safe w u v (inl same) crash begun boots =
      let none : ⊥ = omega (arith, begun, ap length (crash.writes ∙ same)) in absurd none
  phase_safe w u v (inr (inl down)) crash begun boots =
      let vars = crash.vars in
      let is_primary : primary c.boot u.vars (names_of c.slots) ≡ Some boots.name = ap (λ vs. primary c.boot vs (names_of c.slots)) (sym vars) ∙ boots.primary in
      absurd (down_not_primary c.boot u.vars (names_of c.slots) boots.name (down boots.at boots.job boots.name boots.there boots.root) is_primary)
  phase_safe w u v (inr (inr stand)) crash begun boots = λ at x file there alone file_is.
      let stands = stand at x file there alone file_is in
      subst (λ (o : Option (List ℕ)). IsSomeAnd o (λ bytes. IsWhole bytes file.size file.digest)) (sym (crash_settled u v x.slot.device crash stands.settled)) stands.whole
