-- The list of an install notes each job once at most, and each root.
use Rattle.std.proofs.Common.{◌≡◌, ◌≢◌, ◌<◌, ◌≤◌, ◌+◌, ◌||◌, ◌&&◌, inl, inr, not, ℕ, zero, suc, Bool, true, false, cond, List, [], ◌∷◌, ◌++◌, codes, flat_map, reverse, length, is_some, Option, Some, None, refl, sym, subst, arith, append_assoc}
use Rattle.std.specs.List.{range_with_len}
use Rattle.std.specs.Option.{option_map_or}
use Rattle.child_steps.specs.Hooks.{handler_child, handler_program}
use Rattle.child_steps.specs.declared.handlers.HandlerKind.{HandlerKind}
use Rattle.child_steps.specs.declared.handlers.HandlerKind.TheVariants as handler_kind
use Rattle.child_steps.specs.declared.hooks.HookKind.{HookKind}
use Rattle.child_steps.specs.declared.hooks.HookKind.TheVariants as hook_kind
use Rattle.manifest.specs.declared.image.ImageFile.{ImageFile}
use Rattle.system_conf.specs.Configuration.{Configuration}
use Rattle.install_facts.specs.Facts.{FactsContent}
use Rattle.install_facts.specs.Notes.{note}
use Rattle.install_plan.specs.Acts.{Work, acts_of, bad_acts, handler_acts, hook_acts, index_acts, job_acts, job_acts_of, primary_acts, put_acts, put_of, settle_acts, spares_at, steps_in, target_roots, work_acts, work_at, work_note}
use Rattle.install_plan.specs.declared.step.Act.{Act}
use Rattle.install_plan.specs.declared.step.Act.TheVariants.{Do, Tell}
use Rattle.install_plan.specs.declared.step.Caller.TheVariants as caller
use Rattle.install_plan.specs.declared.step.Step.TheVariants as step
use Rattle.install_plan.proofs.Each.{Each, OfStep, each_append, each_flat_map, each_from, each_if, each_map, each_range, each_weaker}
use Rattle.install_core.proofs.InTurn.{Clear, Once}
use Rattle.install_core.proofs.JobNoted.{OfJob, Splits, before, behind, job_notes, once_job}
use Rattle.install_core.proofs.QuietSteps.{Later, NoJob, Notes, OnceActs, Quiet, no_job_later, notes_later, once_quiet, once_steps, quiet_no_job}
use Rattle.install_core.proofs.RootsOnce.{Differ, roots_differ}
use Rattle.install_plan.proofs.JobWork.{is_work}

-- ---- the acts of a job

module _ (c : Configuration) (f : FactsContent) where
  -- handlers, hooks and what is put, settled and indexed note nothing
  handlers_quiet : (which : HandlerKind) (at : ℕ) → Each (OfStep Quiet) (handler_acts c f which at)
  handlers_quiet which at = each_if (OfStep Quiet) (is_some (handler_program c which)) (Do (step.Run (handler_child c f.booted f.jobs which (spares_at c f at)) (caller.Handler which))) tt

  hooks_quiet : (x : Work) (which : HookKind) (named : Bool) → Each (OfStep Quiet) (hook_acts c f x which named)
  hooks_quiet x which true = (tt, tt)
  hooks_quiet x which false = tt

  puts_quiet : (x : Work) → Each (OfStep Quiet) (put_acts c x)
  puts_quiet x = go x.image.install x.image.file
    where
      go : (b : Bool) (o : Option ImageFile) → Each (OfStep Quiet) (cond b [] (option_map_or (λ file. Do (step.Put x.at (put_of c x file)) ∷ []) o []))
      go true o = tt
      go false None = tt
      go false (Some file) = (tt, tt)

  settles_quiet : (x : Work) → Each (OfStep Quiet) (settle_acts x)
  settles_quiet x = each_if (OfStep Quiet) (x.image.install || x.image.post) (Do (step.Settle x.job.slot)) tt

  indexes_quiet : (x : Work) → Each (OfStep Quiet) (index_acts c x)
  indexes_quiet x = each_if (OfStep Quiet) (not x.image.install && (x.image.adaptive && is_some c.data_directory)) (Do (step.Index x.at)) tt

  -- a job that is not skipped notes that it is done, once
  work_splits : (x : Work) → Splits x.at (work_acts c f x)
  work_splits x =
      before x.at (Do (step.Begin x.job.slot) ∷ []) _ (tt, tt)
      (before x.at (hook_acts c f x hook_kind.Pre x.image.pre) _ (hooks_quiet x hook_kind.Pre x.image.pre)
      (before x.at (hook_acts c f x hook_kind.Install x.image.install) _ (hooks_quiet x hook_kind.Install x.image.install)
      (before x.at (put_acts c x) _ (puts_quiet x)
      (before x.at (hook_acts c f x hook_kind.Post x.image.post) _ (hooks_quiet x hook_kind.Post x.image.post)
      (before x.at (settle_acts x) _ (settles_quiet x)
      (before x.at (index_acts c x) _ (indexes_quiet x)
      (record { front = []; back = []; is = refl; quiet_front = tt; quiet_back = tt })))))))

  -- and any job that at most
  of_job : (at : ℕ) → OfJob at (job_acts c f at)
  of_job at = go (work_at c f at) refl
    where
      noted : (x : Work) (b : Bool) → OfJob x.at (cond b [] (work_acts c f x) ++ Tell (work_note c f x) ∷ [])
      noted x true = inl (tt, tt)
      noted x false = inr (behind x.at (work_acts c f x) (work_note c f x) (work_splits x))

      go : (o : Option Work) → work_at c f at ≡ o → OfJob at (option_map_or (job_acts_of c f) o [])
      go None e = inl tt
      go (Some x) e = subst (λ (n : ℕ). OfJob n (job_acts_of c f x)) (is_work c f at x e).at_is (noted x x.skipped)

  -- ---- the acts of all jobs

  -- those of so many jobs from one on
  jobs_from : ℕ → ℕ → List Act
  jobs_from from count = flat_map (job_acts c f) (range_with_len from count)

  -- those from one on note none before it
  later_jobs : (at from count : ℕ) → at < from → Each (OfStep (Later at)) (jobs_from from count)
  unfolding jobs_from
  later_jobs at from count less =
      each_flat_map (λ n. from ≤ n) (OfStep (Later at)) (job_acts c f)
      (λ n le. each_weaker (OfStep (Notes n)) (OfStep (Later at)) (notes_later at n (omega (arith, less, le))) (job_acts c f n) (job_notes n (job_acts c f n) (of_job n)))
      (range_with_len from count) (each_range (λ n. from ≤ n) from count (λ n le. le))

  -- they note nothing twice, and what comes later may note no job
  once_jobs : (from count : ℕ) (later : List Act) → Each (OfStep NoJob) later → OnceActs later → OnceActs (jobs_from from count ++ later)
  unfolding jobs_from
  once_jobs from zero later none once = once
  once_jobs from (suc count) later none once =
      let rest = jobs_from (from + 1) count in
      let after = each_append (OfStep (Later from)) rest later (later_jobs from (from + 1) count (omega arith)) (each_weaker (OfStep NoJob) (OfStep (Later from)) (no_job_later from) later none) in
      subst OnceActs (sym (append_assoc (job_acts c f from) rest later)) (once_job from (job_acts c f from) (rest ++ later) (of_job from) after (once_jobs (from + 1) count later none once))

-- ---- the acts of the roots

-- those of so many roots
root_steps : List ℕ → List Act
root_steps roots = flat_map primary_acts roots

-- what notes nothing is clear of an activation
quiet_activated : (root : ℕ) (a : Act) → OfStep Quiet a → OfStep (Clear (step.Activated root)) a
quiet_activated root (Tell n) quiet = tt
quiet_activated root (Do (step.Activated other)) quiet = absurd quiet
quiet_activated root (Do s) quiet = tt

-- other roots are clear of an activation
others_clear : (root : ℕ) (roots : List ℕ) → Each (λ other. root ≢ other) roots → Each (OfStep (Clear (step.Activated root))) (root_steps roots)
unfolding root_steps
others_clear root roots others = each_flat_map (λ other. root ≢ other) (OfStep (Clear (step.Activated root))) primary_acts (λ other apart. (tt, (apart, tt))) roots others

-- roots that differ note nothing twice, before what notes nothing
once_roots : (roots : List ℕ) (later : List Act) → Differ roots → Each (OfStep Quiet) later → OnceActs later → OnceActs (root_steps roots ++ later)
unfolding root_steps
once_roots [] later differ quiet once = once
once_roots (root ∷ roots) later differ quiet once =
    let clear = each_append (OfStep (Clear (step.Activated root))) (root_steps roots) later (others_clear root roots differ.0) (each_weaker (OfStep Quiet) (OfStep (Clear (step.Activated root))) (quiet_activated root) later quiet) in
    once_quiet (Do (step.Primary root) ∷ []) (Do (step.Activated root) ∷ (root_steps roots ++ later)) (tt, tt) (clear, once_roots roots later differ.1 quiet once)

-- and they note no job
roots_no_job : (roots : List ℕ) → Each (OfStep NoJob) (root_steps roots)
unfolding root_steps
roots_no_job roots = each_flat_map (λ root. Unit {0}) (OfStep NoJob) primary_acts (λ root any. (tt, (tt, tt))) roots (each_from (λ root. Unit {0}) roots (λ j root is. tt))

-- ---- all acts

module _ (c : Configuration) (f : FactsContent) where
  -- marks of bad roots note nothing
  bads_quiet : Each (OfStep Quiet) (bad_acts (target_roots c f))
  bads_quiet = each_map (λ root. Unit {0}) (OfStep Quiet) (λ root. Do (step.Bad root)) (λ root any. tt) (target_roots c f) (each_from (λ root. Unit {0}) (target_roots c f) (λ j root is. tt))

  -- what comes after the roots notes nothing
  last_acts : List Act
  last_acts = Tell (note 95 (codes "target activated")) ∷ (handler_acts c f handler_kind.Post (length f.jobs) ++ Tell (note 100 (codes "done")) ∷ [])

  last_quiet : Each (OfStep Quiet) last_acts
  unfolding last_acts
  last_quiet = (tt, each_append (OfStep Quiet) (handler_acts c f handler_kind.Post (length f.jobs)) _ (handlers_quiet c f handler_kind.Post (length f.jobs)) (tt, tt))

  last_once : OnceActs last_acts
  unfolding last_acts
  last_once = once_quiet (handler_acts c f handler_kind.Post (length f.jobs)) (Tell (note 100 (codes "done")) ∷ []) (handlers_quiet c f handler_kind.Post (length f.jobs)) tt

  -- what comes after the jobs
  end_acts : List Act
  end_acts = root_steps (reverse (target_roots c f)) ++ last_acts

  -- notes no job, and nothing twice
  end_no_job : Each (OfStep NoJob) end_acts
  unfolding end_acts
  end_no_job = each_append (OfStep NoJob) (root_steps (reverse (target_roots c f))) last_acts (roots_no_job (reverse (target_roots c f))) (each_weaker (OfStep Quiet) (OfStep NoJob) quiet_no_job last_acts last_quiet)

  end_once : OnceActs end_acts
  unfolding end_acts
  end_once = once_roots (reverse (target_roots c f)) last_acts (roots_differ c f) last_quiet last_once

  -- nor does the whole list
  acts_once : OnceActs (acts_of c f)
  unfolding acts_of end_acts last_acts jobs_from root_steps
  acts_once =
      once_quiet (handler_acts c f handler_kind.Pre 0) _ (handlers_quiet c f handler_kind.Pre 0)
      (once_quiet (bad_acts (target_roots c f)) _ bads_quiet (once_jobs c f 0 (length f.jobs) end_acts end_no_job end_once))

  -- no two steps of the list note the same
  pub noted_once : Once (steps_in (acts_of c f))
  noted_once = once_steps (acts_of c f) acts_once
