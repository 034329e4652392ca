-- The phases of an install, in the order of its list.
use Rattle.std.proofs.Common.{◌≡◌, inl, inr, ⊎_elim, ℕ, true, List, [], ◌∷◌, ◌++◌, codes, map, length, Some, None, refl, ◌∙◌, ap, subst}
use Rattle.boot_backends.specs.Honest.{Honest}
use Rattle.boot_backends.proofs.Truth.{honest_splits}
use Rattle.boot_model.specs.Vars.{Variables}
use Rattle.boot_state.specs.States.{is_down}
use Rattle.child_steps.specs.declared.handlers.HandlerKind.TheVariants as handler_kind
use Rattle.machine.specs.Past.{Always, Past, world_now}
use Rattle.machine.specs.declared.world.World.{World}
use Rattle.machine.proofs.Moments.{always_joins, always_now, always_weaker}
use Rattle.slot_status.specs.Records.{RecordContent}
use Rattle.system_conf.specs.Configuration.{Configuration}
use Rattle.system_conf.specs.Refusals.{same_device}
use Rattle.install_facts.specs.Facts.{FactsContent}
use Rattle.install_facts.specs.Notes.{note}
use Rattle.install_plan.specs.Acts.{Work, acts_of, bad_acts, handler_acts, is_alone, jobs_acts, root_acts, steps_in, target_roots, work_at}
use Rattle.install_plan.specs.declared.step.Act.{Act}
use Rattle.install_plan.specs.declared.step.Act.TheVariants.{Tell}
use Rattle.install_plan.specs.declared.step.Step.{Step}
use Rattle.install_plan.specs.declared.step.Step.TheVariants as step
use Rattle.install_plan.proofs.ActKinds.{of_handler, of_jobs, of_roots}
use Rattle.install_plan.proofs.Each.{Each, OfStep, each_append, each_from, each_step}
use Rattle.install_plan.proofs.Shape.{steps_more}
use Rattle.install_steps.specs.Steps.{Run, book_after, slot_at}
use Rattle.install_safety.proofs.Devices.{alone_spared, within_jobs}
use Rattle.install_safety.proofs.Frames.{DiskKept, LeavesDisk, LeavesVars, LeavesWrites, VarsKept, disk_joins, disk_none, step_disk, step_vars, step_writes, vars_joins}
use Rattle.install_safety.proofs.Names.{falls}
use Rattle.install_safety.proofs.Phases.{AllStand, Phase, TargetsDown, whole_kept}
use Rattle.install_safety.proofs.Roots.{name_is, target_there}
use Rattle.install_safety.proofs.Settling.{jobs_stand}
use Rattle.install_safety.specs.Lists.{Within}
use Rattle.install_safety.proofs.Within.{run_within, within_grows, within_keeps, within_splits}

-- ---- the list in four parts

-- what comes after the jobs
abbrev pub last_acts : Configuration → FactsContent → List Act
last_acts c f = root_acts (target_roots c f) ++ (Tell (note 95 (codes "target activated")) ∷ (handler_acts c f handler_kind.Post (length f.jobs) ++ Tell (note 100 (codes "done")) ∷ []))

bad_steps : (roots : List ℕ) → steps_in (bad_acts roots) ≡ map (λ root. step.Bad root) roots
bad_steps [] = refl
bad_steps (root ∷ roots) = ap (λ (steps : List Step). step.Bad root ∷ steps) (bad_steps roots)

pub four_parts : (c : Configuration) (f : FactsContent)
    → steps_in (acts_of c f) ≡ steps_in (handler_acts c f handler_kind.Pre 0) ++ (map (λ root. step.Bad root) (target_roots c f) ++ (steps_in (jobs_acts c f) ++ steps_in (last_acts c f)))
unfolding acts_of
four_parts c f =
    steps_more (handler_acts c f handler_kind.Pre 0) (bad_acts (target_roots c f) ++ (jobs_acts c f ++ last_acts c f))
    ∙ ap (λ (xs : List Step). steps_in (handler_acts c f handler_kind.Pre 0) ++ xs)
    (steps_more (bad_acts (target_roots c f)) (jobs_acts c f ++ last_acts c f)
    ∙ ap (λ (xs : List Step). xs ++ steps_in (jobs_acts c f ++ last_acts c f)) (bad_steps (target_roots c f))
    ∙ ap (λ (xs : List Step). map (λ root. step.Bad root) (target_roots c f) ++ xs) (steps_more (jobs_acts c f) (last_acts c f)))

-- what holds of each step after the jobs
pub of_last : (c : Configuration) (f : FactsContent) (P : Step → Type 0) → Each (λ root. P (step.Primary root) × P (step.Activated root)) (target_roots c f) → Each (OfStep P) (handler_acts c f handler_kind.Post (length f.jobs)) → Each (OfStep P) (last_acts c f)
of_last c f P roots handler =
    each_append (OfStep P) (root_acts (target_roots c f)) _ (of_roots c f P (target_roots c f) roots)
    (tt, each_append (OfStep P) (handler_acts c f handler_kind.Post (length f.jobs)) (Tell (note 100 (codes "done")) ∷ []) handler (tt, tt))

module _ (c : Configuration) (f : FactsContent) (devices : same_device c.slots ≡ None) (own : (j k slot : ℕ) → slot_at f j ≡ Some slot → slot_at f k ≡ Some slot → j ≡ k) where
  -- ---- what each part leaves alone

  before_writes : Each LeavesWrites (steps_in (handler_acts c f handler_kind.Pre 0))
  before_writes = each_step LeavesWrites (handler_acts c f handler_kind.Pre 0) (of_handler c f LeavesWrites handler_kind.Pre 0 (λ is. tt))

  bads_writes : (roots : List ℕ) → Each LeavesWrites (map (λ root. step.Bad root) roots)
  bads_writes [] = tt
  bads_writes (root ∷ roots) = (tt, bads_writes roots)

  jobs_vars : Each LeavesVars (steps_in (jobs_acts c f))
  jobs_vars = each_step LeavesVars (jobs_acts c f) (of_jobs c f LeavesVars 0 (length f.jobs) (λ at x later there skipped. record {
    begin = tt;
    hook = λ which is. refl;
    put = λ file is installs. tt;
    settle = tt;
    index = tt;
    done = tt;
  }))

  last_disk : (at : ℕ) (x : Work) → work_at c f at ≡ Some x → is_alone x ≡ true → Each (LeavesDisk x.slot.device) (steps_in (last_acts c f))
  last_disk at x there alone =
      each_step (LeavesDisk x.slot.device) (last_acts c f)
      (of_last c f (LeavesDisk x.slot.device) (each_from (λ root. Unit {0} × Unit {0}) (target_roots c f) (λ j root is. (tt, tt)))
      (of_handler c f (LeavesDisk x.slot.device) handler_kind.Post (length f.jobs) (λ is. alone_spared c f at x there alone (length f.jobs) (within_jobs c f at x there))))

  -- ---- the phases

  nothing_written : (w u : World) → u.writes ≡ w.writes → Phase c f w u
  nothing_written w u same = inl same

  quiet : (w : World) (book : List RecordContent) (steps : List Step) → Each LeavesWrites steps → (a z : Past) → (world_now a).writes ≡ w.writes → Within c f book steps a z → Always a z (λ u. u.writes ≡ w.writes)
  quiet w book steps leave a z same within =
      always_weaker a z (λ u. u.writes ≡ (world_now a).writes) (λ u. u.writes ≡ w.writes) (λ u h. h ∙ same)
      (within_keeps c f (λ x y. y.writes ≡ x.writes) (λ x. refl) (λ x y z xy yz. yz ∙ xy) LeavesWrites (step_writes c f) book steps leave a z within)

  all_down : (book : List RecordContent) (a z : Past) → Run c f book (map (λ root. step.Bad root) (target_roots c f)) a z → Honest c.boot a z → TargetsDown c f (world_now z)
  all_down book a z ran honest at job name there has =
      let stands = target_there c f at job name there has in
      falls c f name book (target_roots c f) a z ran honest stands.0 job.root stands.1 (name_is c job.root name has)

  down_stays : (book : List RecordContent) (a z : Past) → TargetsDown c f (world_now a) → Within c f book (steps_in (jobs_acts c f)) a z → Always a z (TargetsDown c f)
  down_stays book a z down within =
      always_weaker a z (VarsKept (world_now a)) (TargetsDown c f)
      (λ u same at job name there has. ap (λ (vars : Variables). is_down c.boot vars name) same ∙ down at job name there has)
      (within_keeps c f VarsKept (λ x. refl) vars_joins LeavesVars (step_vars c f) book (steps_in (jobs_acts c f)) jobs_vars a z within)

  stand_stays : (book : List RecordContent) (a z : Past) → AllStand c f (world_now a) → Within c f book (steps_in (last_acts c f)) a z → Always a z (AllStand c f)
  stand_stays book a z stand within = record {
    grows = (within_grows c f book (steps_in (last_acts c f)) a z within).grows;
    each = λ u was at x file there alone file_is.
        whole_kept x.slot.device file (world_now a) u
        ((within_keeps c f (DiskKept x.slot.device) (disk_none x.slot.device) (disk_joins x.slot.device) (LeavesDisk x.slot.device) (step_disk c f x.slot.device) book (steps_in (last_acts c f)) (last_disk at x there alone) a z within).each u was)
        (stand at x file there alone file_is);
  }

  -- after the jobs were begun
  with_jobs : (w : World) (book : List RecordContent) (a z : Past) → TargetsDown c f (world_now a) → Within c f book (steps_in (jobs_acts c f) ++ steps_in (last_acts c f)) a z → Always a z (Phase c f w)
  with_jobs w book a z down within = ⊎_elim in_jobs in_last (within_splits c f book (steps_in (jobs_acts c f)) (steps_in (last_acts c f)) a z within)
    where
      in_jobs : Within c f book (steps_in (jobs_acts c f)) a z → Always a z (Phase c f w)
      in_jobs h = always_weaker a z (TargetsDown c f) (Phase c f w) (λ u d. inr (inl d)) (down_stays book a z down h)

      in_last : (b : Past) × Run c f book (steps_in (jobs_acts c f)) a b × Within c f (book_after f (steps_in (jobs_acts c f)) book) (steps_in (last_acts c f)) b z → Always a z (Phase c f w)
      in_last h =
          let first = always_weaker a h.0 (TargetsDown c f) (Phase c f w) (λ u d. inr (inl d)) (down_stays book a h.0 down (run_within c f book (steps_in (jobs_acts c f)) a h.0 h.1)) in
          let last = stand_stays (book_after f (steps_in (jobs_acts c f)) book) h.0 z (jobs_stand c f devices own book a h.0 h.1) h.2 in
          always_joins a h.0 z (Phase c f w) first (always_weaker h.0 z (AllStand c f) (Phase c f w) (λ u s. inr (inr s)) last)

  -- after the marks were begun
  with_bads : (w : World) (book : List RecordContent) (a z : Past) → (world_now a).writes ≡ w.writes → Honest c.boot a z
      → Within c f book (map (λ root. step.Bad root) (target_roots c f) ++ (steps_in (jobs_acts c f) ++ steps_in (last_acts c f))) a z → Always a z (Phase c f w)
  with_bads w book a z same honest within =
      ⊎_elim in_bads in_later (within_splits c f book (map (λ root. step.Bad root) (target_roots c f)) (steps_in (jobs_acts c f) ++ steps_in (last_acts c f)) a z within)
    where
      in_bads : Within c f book (map (λ root. step.Bad root) (target_roots c f)) a z → Always a z (Phase c f w)
      in_bads h = always_weaker a z (λ u. u.writes ≡ w.writes) (Phase c f w) (nothing_written w) (quiet w book (map (λ root. step.Bad root) (target_roots c f)) (bads_writes (target_roots c f)) a z same h)

      in_later : (b : Past) × Run c f book (map (λ root. step.Bad root) (target_roots c f)) a b × Within c f (book_after f (map (λ root. step.Bad root) (target_roots c f)) book) (steps_in (jobs_acts c f) ++ steps_in (last_acts c f)) b z → Always a z (Phase c f w)
      in_later h =
          let steps = map (λ root. step.Bad root) (target_roots c f) in
          let first = quiet w book steps (bads_writes (target_roots c f)) a h.0 same (run_within c f book steps a h.0 h.1) in
          let later = within_grows c f (book_after f steps book) (steps_in (jobs_acts c f) ++ steps_in (last_acts c f)) h.0 z h.2 in
          let parts = honest_splits c.boot a h.0 z first.grows later.grows honest in
          always_joins a h.0 z (Phase c f w) (always_weaker a h.0 (λ u. u.writes ≡ w.writes) (Phase c f w) (nothing_written w) first)
          (with_jobs w (book_after f steps book) h.0 z (all_down book a h.0 h.1 parts.0) h.2)

  -- the whole list, where the programs of the boot loader are honest
  pub phases : (book : List RecordContent) (a z : Past) → Honest c.boot a z → Within c f book (steps_in (acts_of c f)) a z → Always a z (Phase c f (world_now a))
  phases book a z honest within =
      ⊎_elim in_first in_later (within_splits c f book (steps_in (handler_acts c f handler_kind.Pre 0)) (map (λ root. step.Bad root) (target_roots c f) ++ (steps_in (jobs_acts c f) ++ steps_in (last_acts c f))) a z
      (subst (λ (steps : List Step). Within c f book steps a z) (four_parts c f) within))
    where
      in_first : Within c f book (steps_in (handler_acts c f handler_kind.Pre 0)) a z → Always a z (Phase c f (world_now a))
      in_first h = always_weaker a z (λ u. u.writes ≡ (world_now a).writes) (Phase c f (world_now a)) (nothing_written (world_now a)) (quiet (world_now a) book (steps_in (handler_acts c f handler_kind.Pre 0)) before_writes a z refl h)

      in_later : (b : Past) × Run c f book (steps_in (handler_acts c f handler_kind.Pre 0)) a b × Within c f (book_after f (steps_in (handler_acts c f handler_kind.Pre 0)) book) (map (λ root. step.Bad root) (target_roots c f) ++ (steps_in (jobs_acts c f) ++ steps_in (last_acts c f))) b z → Always a z (Phase c f (world_now a))
      in_later h =
          let steps = steps_in (handler_acts c f handler_kind.Pre 0) in
          let rest = map (λ root. step.Bad root) (target_roots c f) ++ (steps_in (jobs_acts c f) ++ steps_in (last_acts c f)) in
          let first = quiet (world_now a) book steps before_writes a h.0 refl (run_within c f book steps a h.0 h.1) in
          let later = within_grows c f (book_after f steps book) rest h.0 z h.2 in
          let parts = honest_splits c.boot a h.0 z first.grows later.grows honest in
          always_joins a h.0 z (Phase c f (world_now a)) (always_weaker a h.0 (λ u. u.writes ≡ (world_now a).writes) (Phase c f (world_now a)) (nothing_written (world_now a)) first)
          (with_bads (world_now a) (book_after f steps book) h.0 z (always_now a h.0 (λ u. u.writes ≡ (world_now a).writes) first) parts.1 h.2)
