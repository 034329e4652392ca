-- What the acts of an install are, whatever its facts.
use Rattle.std.proofs.Common.{◌≡◌, ◌≤◌, ◌||◌, ◌&&◌, ◌==◌, not, ℕ, Bool, true, false, cond, IsTrue, List, [], ◌∷◌, ◌++◌, map, filter, reverse, length, is_some, slice_get, Option, Some, None, refl, sym, subst, arith}
use Rattle.std.specs.List.{list_all, range_with_len}
use Rattle.std.specs.Option.{option_map_or, option_to_list}
use Rattle.child_steps.specs.Children.{mount_point}
use Rattle.child_steps.specs.Hooks.{handler_child, handler_program}
use Rattle.child_steps.specs.declared.handlers.HandlerKind.{HandlerKind}
use Rattle.child_steps.specs.declared.handlers.HandlerKind.TheVariants as handler_kind
use Rattle.child_steps.specs.declared.hooks.HookKind.{HookKind}
use Rattle.child_steps.specs.declared.hooks.HookKind.TheVariants as hook_kind
use Rattle.install_plan.specs.declared.step.Caller.TheVariants as caller
use Rattle.machine.specs.Spares.{is_boot}
use Rattle.machine.specs.declared.world.Child.{Child}
use Rattle.manifest.specs.declared.image.ImageFile.{ImageFile}
use Rattle.raw_writer.specs.declared.put.PutJob.{PutJob}
use Rattle.slot_graph.specs.declared.job.Job.{Job}
use Rattle.system_conf.specs.Configuration.{Configuration}
use Rattle.system_conf.specs.Formed.{is_slot_formed}
use Rattle.install_facts.specs.Facts.{FactsContent}
use Rattle.install_facts.specs.declared.report.Note.{Note}
use Rattle.install_plan.specs.Acts.{Work, acts_of, bad_acts, each_once, handler_acts, has_bootname, hook_acts, index_acts, job_acts, job_acts_of, jobs_acts, primary_acts, put_acts, put_of, root_acts, settle_acts, spares_at, steps_in, target_roots, work_acts, work_at, work_note}
use Rattle.install_plan.specs.declared.step.Act.{Act}
use Rattle.install_plan.specs.declared.step.Act.TheVariants.{Do, Tell}
use Rattle.install_plan.specs.declared.step.Step.{Step}
use Rattle.install_plan.specs.declared.step.Step.TheVariants as step
use Rattle.install_plan.proofs.Each.{Each, OfStep, each_append, each_both, each_filter, each_flat_map, each_from, each_if, each_map, each_passes, each_range, each_reverse, each_step, each_weaker}
use Rattle.install_plan.proofs.NoteLengths.{formed_at, name_length, text_length}
use Rattle.install_plan.proofs.JobWork.{IsWork, is_work}

-- a program is no boot program, and spares the mount point
pub record IsRun (c : Configuration) (child : Child) : Type 0 where
  pub class : is_boot child.class ≡ false
  pub files : child.spares.files ≡ option_to_list c.status_file ++ mount_point c ∷ []

-- what is put is the file of a job's image that no hook installs
pub record IsPut (c : Configuration) (f : FactsContent) (job : ℕ) (put : PutJob) : Type 0 where
  pub work : Work
  pub is : IsWork c f job work
  pub install : work.image.install ≡ false
  pub file : ImageFile
  pub file_is : work.image.file ≡ Some file
  pub put_is : put ≡ put_of c work file

-- a slot of a job
pub record IsJobSlot (f : FactsContent) (slot : ℕ) : Type 0 where
  pub at : ℕ
  pub job : Job
  pub there : slice_get f.jobs at ≡ Some job
  pub is : job.slot ≡ slot

-- a root over a job's slot that has a bootname
pub record IsTargetRoot (c : Configuration) (f : FactsContent) (root : ℕ) : Type 0 where
  pub named : has_bootname c root ≡ true
  pub at : ℕ
  pub job : Job
  pub there : slice_get f.jobs at ≡ Some job
  pub is : job.root ≡ root

-- a note is a word of the end, or tells of a slot
abbrev pub IsNote : Configuration → Note → Type 0
IsNote c n = IsTrue (list_all is_slot_formed c.slots) → length n.text ≤ 279

-- what a step is
abbrev pub IsStep : Configuration → FactsContent → Step → Type 0
IsStep c f (step.Run child caller) = IsRun c child
IsStep c f (step.Bad root) = IsTargetRoot c f root
IsStep c f (step.Begin slot) = IsJobSlot f slot
IsStep c f (step.Put job put) = IsPut c f job put
IsStep c f (step.Settle slot) = IsJobSlot f slot
IsStep c f (step.Index job) = Unit {0}
IsStep c f (step.Done job) = (x : Work) × IsWork c f job x
IsStep c f (step.Primary root) = IsTargetRoot c f root
IsStep c f (step.Activated root) = IsTargetRoot c f root

-- what an act is
abbrev pub IsAct : Configuration → FactsContent → Act → Type 0
IsAct c f (Do s) = IsStep c f s
IsAct c f (Tell n) = IsNote c n

-- ---- the roots

-- a root over the slot of a job
record IsJobRoot (f : FactsContent) (root : ℕ) : Type 0 where
  at : ℕ
  job : Job
  there : slice_get f.jobs at ≡ Some job
  is : job.root ≡ root

once : (P : ℕ → Type 0) (xs : List ℕ) → Each P xs → Each P (each_once xs)
once P [] all = tt
once P (x ∷ xs) all = (all.0, each_filter P (λ y. not (y == x)) (each_once xs) (once P xs all.1))

pub roots_are : (c : Configuration) (f : FactsContent) → Each (IsTargetRoot c f) (target_roots c f)
roots_are c f = once (IsTargetRoot c f) (filter (has_bootname c) roots) (each_both (IsJobRoot f) (λ root. has_bootname c root ≡ true) (IsTargetRoot c f) both (filter (has_bootname c) roots) of_jobs (each_passes (has_bootname c) roots))
  where
    roots : List ℕ
    roots = map (λ job. job.root) f.jobs

    both : (root : ℕ) → IsJobRoot f root → has_bootname c root ≡ true → IsTargetRoot c f root
    both root is named = record { named = named; at = is.at; job = is.job; there = is.there; is = is.is }

    of_jobs : Each (IsJobRoot f) (filter (has_bootname c) roots)
    of_jobs =
        let jobs : Each (λ (job : Job). (j : ℕ) × (slice_get f.jobs j ≡ Some job)) f.jobs = each_from (λ (job : Job). (j : ℕ) × (slice_get f.jobs j ≡ Some job)) f.jobs (λ j job there. (j, there)) in
        each_filter (IsJobRoot f) (has_bootname c) roots
        (each_map (λ (job : Job). (j : ℕ) × (slice_get f.jobs j ≡ Some job)) (IsJobRoot f) (λ job. job.root) (λ job there. record { at = there.0; job = job; there = there.1; is = refl }) f.jobs jobs)

-- ---- the acts of one job

module _ (c : Configuration) (f : FactsContent) where
  handlers_are : (which : HandlerKind) (at : ℕ) → Each (IsAct c f) (handler_acts c f which at)
  handlers_are which at = each_if (IsAct c f) (is_some (handler_program c which)) (Do (step.Run (handler_child c f.booted f.jobs which (spares_at c f at)) (caller.Handler which))) (record { class = refl; files = refl })

  hooks_are : (x : Work) (which : HookKind) (named : Bool) → Each (IsAct c f) (hook_acts c f x which named)
  hooks_are x which true = (record { class = refl; files = refl }, tt)
  hooks_are x which false = tt

  module _ (x : Work) (is : IsWork c f x.at x) where
    job_slot : IsJobSlot f x.job.slot
    job_slot = record { at = x.at; job = x.job; there = is.job; is = refl }

    puts_are : Each (IsAct c f) (put_acts c x)
    puts_are = go x.image.install refl x.image.file refl
      where
        go : (b : Bool) → x.image.install ≡ b → (o : Option ImageFile) → x.image.file ≡ o → Each (IsAct c f) (cond b [] (option_map_or (λ file. Do (step.Put x.at (put_of c x file)) ∷ []) o []))
        go true installs o e = tt
        go false installs None e = tt
        go false installs (Some file) e = (record { work = x; is = is; install = installs; file = file; file_is = e; put_is = refl }, tt)

    settles_are : Each (IsAct c f) (settle_acts x)
    settles_are = each_if (IsAct c f) (x.image.install || x.image.post) (Do (step.Settle x.job.slot)) job_slot

    indexes_are : Each (IsAct c f) (index_acts c x)
    indexes_are = each_if (IsAct c f) (not x.image.install && (x.image.adaptive && is_some c.data_directory)) (Do (step.Index x.at)) tt

    works_are : Each (IsAct c f) (work_acts c f x)
    works_are = (
      job_slot,
      each_append (IsAct c f) (hook_acts c f x hook_kind.Pre x.image.pre) _ (hooks_are x hook_kind.Pre x.image.pre)
          (each_append (IsAct c f) (hook_acts c f x hook_kind.Install x.image.install) _ (hooks_are x hook_kind.Install x.image.install)
          (each_append (IsAct c f) (put_acts c x) _ puts_are
          (each_append (IsAct c f) (hook_acts c f x hook_kind.Post x.image.post) _ (hooks_are x hook_kind.Post x.image.post)
          (each_append (IsAct c f) (settle_acts x) _ settles_are
          (each_append (IsAct c f) (index_acts c x) _ indexes_are
          ((x, is), tt)))))),
    )

    note_is : IsNote c (work_note c f x)
    note_is formed = text_length x.slot.name x.skipped (name_length x.slot (formed_at c.slots x.job.slot x.slot formed is.slot))

    of_work : Each (IsAct c f) (job_acts_of c f x)
    of_work = go x.skipped
      where
        go : (b : Bool) → Each (IsAct c f) (cond b [] (work_acts c f x) ++ Tell (work_note c f x) ∷ [])
        go true = (note_is, tt)
        go false = each_append (IsAct c f) (work_acts c f x) (Tell (work_note c f x) ∷ []) works_are (note_is, tt)

  job_are : (at : ℕ) → Each (IsAct c f) (job_acts c f at)
  job_are at = go (work_at c f at) refl
    where
      go : (o : Option Work) → work_at c f at ≡ o → Each (IsAct c f) (option_map_or (job_acts_of c f) o [])
      go None e = tt
      go (Some x) e = let is = is_work c f at x e in of_work x (subst (λ (n : ℕ). IsWork c f n x) (sym is.at_is) is)

  -- ---- all acts

  pub jobs_are : Each (IsAct c f) (jobs_acts c f)
  jobs_are = each_flat_map (λ (n : ℕ). Unit {0}) (IsAct c f) (job_acts c f) (λ at any. job_are at) (range_with_len 0 (length f.jobs)) (each_range (λ (n : ℕ). Unit {0}) 0 (length f.jobs) (λ n le. tt))

  bads_are : Each (IsAct c f) (bad_acts (target_roots c f))
  bads_are = each_map (IsTargetRoot c f) (IsAct c f) (λ root. Do (step.Bad root)) (λ root is. is) (target_roots c f) (roots_are c f)

  marks_are : Each (IsAct c f) (root_acts (target_roots c f))
  marks_are = each_flat_map (IsTargetRoot c f) (IsAct c f) primary_acts (λ root is. (is, (is, tt))) (reverse (target_roots c f)) (each_reverse (IsTargetRoot c f) (target_roots c f) (roots_are c f))

  -- each act is one of these
  pub acts_are : Each (IsAct c f) (acts_of c f)
  unfolding acts_of
  acts_are =
      each_append (IsAct c f) (handler_acts c f handler_kind.Pre 0) _ (handlers_are handler_kind.Pre 0)
      (each_append (IsAct c f) (bad_acts (target_roots c f)) _ bads_are
      (each_append (IsAct c f) (jobs_acts c f) _ jobs_are
      (each_append (IsAct c f) (root_acts (target_roots c f)) _ marks_are (
        (λ formed. omega arith),
        each_append (IsAct c f) (handler_acts c f handler_kind.Post (length f.jobs)) _ (handlers_are handler_kind.Post (length f.jobs))
            ((λ formed. omega arith), tt),
      ))))

  -- and each step
  pub steps_are : Each (IsStep c f) (steps_in (acts_of c f))
  steps_are = each_step (IsStep c f) (acts_of c f) (each_weaker (IsAct c f) (OfStep (IsStep c f)) as_step (acts_of c f) acts_are)
    where
      as_step : (a : Act) → IsAct c f a → OfStep (IsStep c f) a
      as_step (Do s) is = is
      as_step (Tell n) is = tt
