-- The names of the boot loader, while an install works: those that it does not mark keep what they are, and those that it marked bad stay down.
use Rattle.std.proofs.Common.{◌≡◌, ◌≢◌, inl, inr, ⊎_elim, ℕ, zero, suc, true, List, [], ◌∷◌, map, slice_get, Some, IsTrue, refl, sym, ◌∙◌, ap, subst}
use Rattle.boot_backends.specs.Honest.{Honest}
use Rattle.boot_backends.specs.Marked.{names_of}
use Rattle.boot_backends.proofs.Truth.{honest_splits}
use Rattle.boot_model.specs.Vars.{Variables}
use Rattle.boot_state.specs.States.{KeepsName, is_down}
use Rattle.keyfile.specs.Groups.{Text}
use Rattle.machine.specs.Crash.{Crash}
use Rattle.machine.specs.Past.{Always, Grows, Held, Past, world_now}
use Rattle.machine.specs.declared.world.World.{World}
use Rattle.machine.proofs.Moments.{always_joins, always_now, always_start, always_weaker}
use Rattle.machine.proofs.Worlds.{by_path}
use Rattle.slot_status.specs.Records.{RecordContent}
use Rattle.system_conf.specs.Configuration.{Configuration}
use Rattle.install_facts.specs.Facts.{FactsContent}
use Rattle.install_plan.specs.declared.step.Step.{Step}
use Rattle.install_plan.specs.declared.step.Step.TheVariants as step
use Rattle.install_plan.proofs.Each.{Each}
use Rattle.install_steps.specs.Steps.{Begun, Did, Part, Run, bootname_of, changed}
use Rattle.install_safety.proofs.Frames.{LeavesVars, step_vars}
use Rattle.install_safety.specs.Lists.{Within}
use Rattle.install_safety.proofs.Within.{run_within, within_grows}

-- ---- a stop that leaves nothing pending

-- the world as a stop may leave it
abbrev pub stopped : World → World
stopped w = record w { pending = [] }

pub stopped_is : (w : World) → Crash w (stopped w)
stopped_is w = record {
  files = refl;
  vars = refl;
  writes = refl;
  runs = refl;
  fetched = refl;
  pending = refl;
  lengths = λ path. refl;
  bytes = λ path i settled. refl;
}

-- ---- what a name keeps

pub name_same : (c : Configuration) (name : Text) (v w : Variables) → w ≡ v → KeepsName c.boot (names_of c.slots) name v w
name_same c name v w same = subst (λ (x : Variables). KeepsName c.boot (names_of c.slots) name v x) (sym same) (record { stays_down = λ h. h; stays_good = λ h. h })

pub name_joins : (c : Configuration) (name : Text) (u v w : Variables) → KeepsName c.boot (names_of c.slots) name u v → KeepsName c.boot (names_of c.slots) name v w → KeepsName c.boot (names_of c.slots) name u w
name_joins c name u v w uv vw = record {
  stays_down = λ h. vw.stays_down (uv.stays_down h);
  stays_good = λ h. vw.stays_good (uv.stays_good h);
}

-- a step marks no such name
abbrev pub MarksOther : Configuration → Text → Step → Type 0
MarksOther c name (step.Bad root) = name ≢ bootname_of c root
MarksOther c name (step.Primary root) = name ≢ bootname_of c root
MarksOther c name (step.Run child caller) = IsTrue child.spares.boot
MarksOther c name other = Unit {0}

abbrev pub Keeps : Configuration → Text → Past → World → Type 0
Keeps c name a u = KeepsName c.boot (names_of c.slots) name (world_now a).vars u.vars

module _ (c : Configuration) (f : FactsContent) (name : Text) where
  -- a step that leaves the variables alone
  unmarked : (book : List RecordContent) (s : Step) (a z : Past) → LeavesVars s → Begun c f book s a z → Always a z (Keeps c name a)
  unmarked book s a z leaves begun =
      always_weaker a z (Part a.boot c f book s (world_now a)) (Keeps c name a)
      (λ u part. name_same c name (world_now a).vars u.vars (step_vars c f a.boot book s (world_now a) u leaves part)) begun.part

  -- one that marks another name
  marked : (a z : Past) → Grows a z → ((v : World) → Held a z v → KeepsName c.boot (names_of c.slots) name (world_now a).vars v.vars) → Always a z (Keeps c name a)
  marked a z grows keeps = record { grows = grows; each = λ u was. keeps (stopped u) (u, was, stopped_is u) }

  step_name : (book : List RecordContent) (s : Step) (a z : Past) → MarksOther c name s → Begun c f book s a z → Honest c.boot a z → Always a z (Keeps c name a)
  step_name book (step.Run child caller) a z spares begun honest = unmarked book (step.Run child caller) a z spares begun
  step_name book (step.Bad root) a z ne begun honest = marked a z begun.part.grows (begun.keeps honest name ne)
  step_name book (step.Primary root) a z ne begun honest = marked a z begun.part.grows (begun.keeps honest name ne)
  step_name book (step.Begin slot) a z ok begun honest = unmarked book (step.Begin slot) a z ok begun
  step_name book (step.Done job) a z ok begun honest = unmarked book (step.Done job) a z ok begun
  step_name book (step.Activated root) a z ok begun honest = unmarked book (step.Activated root) a z ok begun
  step_name book (step.Put job put) a z ok begun honest = unmarked book (step.Put job put) a z ok begun
  step_name book (step.Settle slot) a z ok begun honest = unmarked book (step.Settle slot) a z ok begun
  step_name book (step.Index job) a z ok begun honest = unmarked book (step.Index job) a z ok begun

  -- a name that no step marks keeps what it is
  pub name_kept : (book : List RecordContent) (steps : List Step) → Each (MarksOther c name) steps → (a z : Past) → Within c f book steps a z → Honest c.boot a z → Always a z (Keeps c name a)
  name_kept book [] others a z same honest = subst (λ (q : Past). Always a q (Keeps c name a)) (sym same) (always_start a (Keeps c name a) (name_same c name (world_now a).vars (world_now a).vars refl))
  name_kept book (s ∷ steps) others a z (inl begun) honest = step_name book s a z others.0 begun honest
  name_kept book (s ∷ steps) others a z (inr h) honest =
      let did = h.1 in
      let later = within_grows c f (changed f s book) steps h.0 z h.2 in
      let parts = honest_splits c.boot a h.0 z did.begun.part.grows later.grows honest in
      let first = step_name book s a h.0 others.0 did.begun parts.0 in
      let here = always_now a h.0 (Keeps c name a) first in
      always_joins a h.0 z (Keeps c name a) first
      (always_weaker h.0 z (Keeps c name h.0) (Keeps c name a) (λ u keeps. name_joins c name (world_now a).vars (world_now h.0).vars u.vars here keeps) (name_kept (changed f s book) steps others.1 h.0 z h.2 parts.1))

  -- ---- names that are marked bad, one after another

  -- once it is down, it is so after each of them
  after_one : (book : List RecordContent) (root : ℕ) (a b : Past) → Did c f book (step.Bad root) a b → Honest c.boot a b → is_down c.boot (world_now a).vars name ≡ true → is_down c.boot (world_now b).vars name ≡ true
  after_one book root a b did honest down = ⊎_elim same other (by_path name (bootname_of c root))
    where
      same : name ≡ bootname_of c root → is_down c.boot (world_now b).vars name ≡ true
      same is = subst (λ (n : Text). is_down c.boot (world_now b).vars n ≡ true) (sym is) (did.marks.1 honest)

      other : name ≢ bootname_of c root → is_down c.boot (world_now b).vars name ≡ true
      other ne = (always_now a b (Keeps c name a) (step_name book (step.Bad root) a b ne did.begun honest)).stays_down down

  stays : (book : List RecordContent) (roots : List ℕ) (a z : Past) → Run c f book (map (λ root. step.Bad root) roots) a z → Honest c.boot a z → is_down c.boot (world_now a).vars name ≡ true → is_down c.boot (world_now z).vars name ≡ true
  stays book [] a z ran honest down = subst (λ (p : Past). is_down c.boot (world_now p).vars name ≡ true) (sym ran) down
  stays book (root ∷ roots) a z ran honest down =
      let later = within_grows c f (changed f (step.Bad root) book) (map (λ root. step.Bad root) roots) ran.0 z (run_within c f (changed f (step.Bad root) book) (map (λ root. step.Bad root) roots) ran.0 z ran.2) in
      let parts = honest_splits c.boot a ran.0 z ran.1.begun.part.grows later.grows honest in
      stays (changed f (step.Bad root) book) roots ran.0 z ran.2 parts.1 (after_one book root a ran.0 ran.1 parts.0 down)

  -- after all of them it is down, where it is the name of one
  pub falls : (book : List RecordContent) (roots : List ℕ) (a z : Past) → Run c f book (map (λ root. step.Bad root) roots) a z → Honest c.boot a z → (j root : ℕ) → slice_get roots j ≡ Some root → name ≡ bootname_of c root → is_down c.boot (world_now z).vars name ≡ true
  falls book [] a z ran honest j root there is = absurd (cc)
  falls book (first ∷ roots) a z ran honest zero root there is =
      let later = within_grows c f (changed f (step.Bad first) book) (map (λ root. step.Bad root) roots) ran.0 z (run_within c f (changed f (step.Bad first) book) (map (λ root. step.Bad root) roots) ran.0 z ran.2) in
      let parts = honest_splits c.boot a ran.0 z ran.1.begun.part.grows later.grows honest in
      let same : first ≡ root = cc in
      let name_is : name ≡ bootname_of c first = is ∙ ap (bootname_of c) (sym same) in
      stays (changed f (step.Bad first) book) roots ran.0 z ran.2 parts.1
      (subst (λ (n : Text). is_down c.boot (world_now ran.0).vars n ≡ true) (sym name_is) (ran.1.marks.1 parts.0))
  falls book (first ∷ roots) a z ran honest (suc k) root there is =
      let later = within_grows c f (changed f (step.Bad first) book) (map (λ root. step.Bad root) roots) ran.0 z (run_within c f (changed f (step.Bad first) book) (map (λ root. step.Bad root) roots) ran.0 z ran.2) in
      let parts = honest_splits c.boot a ran.0 z ran.1.begun.part.grows later.grows honest in
      falls (changed f (step.Bad first) book) roots ran.0 z ran.2 parts.1 k root there is
