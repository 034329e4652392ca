-- The slots that an install leaves as they are: those that run, those whose images are skipped, and all but the jobs' where no programs are run.
use Rattle.std.proofs.Common.{◌≡◌, ◌≢◌, ◌<◌, ◌+◌, ◌⊎◌, inl, inr, ⊎_elim, ◌||◌, ℕ, zero, suc, Bool, true, false, List, length, slice_get, is_some, Option, Some, None, refl, sym, ◌∙◌, ap, subst, arith}
use Rattle.std.specs.List.{slice_index_or}
use Rattle.std.proofs.lemmas.Bool.{true≢false}
use Rattle.std.proofs.lemmas.Bool.Decides.{eqb_tells, nat_tests}
use Rattle.child_steps.specs.declared.handlers.HandlerKind.TheVariants as handler_kind
use Rattle.keyfile.specs.Groups.{Text}
use Rattle.machine.specs.Past.{Always, Past, world_now}
use Rattle.machine.specs.Spares.{has_disk}
use Rattle.running_system.specs.Running.{is_in_use}
use Rattle.slot_graph.specs.declared.state.SlotState.TheVariants as state
use Rattle.slot_status.specs.Records.{RecordContent}
use Rattle.system_conf.specs.Configuration.{Configuration}
use Rattle.system_conf.specs.Refusals.{same_device}
use Rattle.system_conf.specs.declared.slot.Slot.{Slot}
use Rattle.install_facts.specs.Facts.{FactsContent}
use Rattle.install_plan.specs.Acts.{Work, acts_of, bad_acts, handler_acts, jobs_acts, spares_at, steps_in, target_roots, work_at}
use Rattle.install_plan.specs.declared.step.Step.{Step}
use Rattle.install_plan.specs.declared.step.Step.TheVariants as step
use Rattle.install_plan.proofs.ActKinds.{OfJob, of_bads, of_handler, of_jobs}
use Rattle.install_plan.proofs.Each.{Each, OfStep, each_append, each_from, each_step, each_weaker}
use Rattle.install_plan.proofs.JobWork.{is_work}
use Rattle.install_steps.specs.Steps.{slot_at}
use Rattle.install_safety.specs.TrueRecords.{RunsNone, StaysAsItIs}
use Rattle.install_safety.proofs.Books.{NotesNot}
use Rattle.install_safety.proofs.Devices.{device_other, running_spared, skipped_spared, slot_of_work, within_jobs}
use Rattle.install_safety.proofs.Frames.{DiskKept, LeavesDisk, disk_joins, disk_none, step_disk}
use Rattle.install_safety.proofs.JobActs.{no_handler, none_named}
use Rattle.install_safety.proofs.Order.{last_acts, of_last}
use Rattle.install_safety.specs.Lists.{Within}
use Rattle.install_safety.proofs.Within.{within_keeps}

-- no job that is done has the slot
abbrev pub NoJobAt : Configuration → FactsContent → ℕ → Type 0
NoJobAt c f at = (k : ℕ) (x : Work) → work_at c f k ≡ Some x → x.skipped ≡ false → at ≢ x.job.slot

-- programs spare the device, or none are run
abbrev pub Spared : Configuration → FactsContent → Text → Type 0
Spared c f device = ((n : ℕ) → has_disk (spares_at c f n) device ≡ true) ⊎ RunsNone c f

-- a step leaves the device alone, and notes nothing of an image on it
pub record Passes (f : FactsContent) (at : ℕ) (device : Text) (s : Step) : Type 0 where
  pub notes : NotesNot f at s
  pub disk : LeavesDisk device s

module _ (c : Configuration) (f : FactsContent) (devices : same_device c.slots ≡ None) (at : ℕ) (slot : Slot) (there : slice_get c.slots at ≡ Some slot) (none : NoJobAt c f at) (spared : Spared c f slot.device) where
  done_passes : (k : ℕ) (y : Work) → work_at c f k ≡ Some y → y.skipped ≡ false → (s : ℕ) → slot_at f y.at ≡ Some s → at ≢ s
  done_passes k y here kept s is same =
      let place = (is_work c f k y here).at_is in
      let own : slot_at f k ≡ Some s = subst (λ (n : ℕ). slot_at f n ≡ Some s) place is in
      let slot_is : Some y.job.slot ≡ Some s = sym (slot_of_work c f k y here) ∙ own in
      none k y here kept (same ∙ sym (some_same slot_is))
    where
      some_same : {m n : ℕ} → Some m ≡ Some n → m ≡ n
      some_same e = cc

  job_passes : (k : ℕ) (y : Work) → work_at c f k ≡ Some y → y.skipped ≡ false → OfJob c f (Passes f at slot.device) y
  job_passes k y here kept = record {
    begin = record { notes = none k y here kept; disk = tt };
    hook = λ which is. record { notes = tt; disk = ⊎_elim (λ all. all y.at) (λ q. absurd (none_named y which (q.hooks k y here) is)) spared };
    put = λ file is installs. record { notes = tt; disk = device_other c f devices at slot k y there here (none k y here kept) };
    settle = record { notes = tt; disk = tt };
    index = record { notes = tt; disk = tt };
    done = record { notes = done_passes k y here kept; disk = tt };
  }

  pub all_pass : Each (OfStep (Passes f at slot.device)) (acts_of c f)
  unfolding acts_of
  all_pass =
      each_append (OfStep (Passes f at slot.device)) (handler_acts c f handler_kind.Pre 0) _
      (of_handler c f (Passes f at slot.device) handler_kind.Pre 0 (λ is. record { notes = tt; disk = ⊎_elim (λ all. all 0) (λ q. absurd (no_handler c handler_kind.Pre q.before is)) spared }))
      (each_append (OfStep (Passes f at slot.device)) (bad_acts (target_roots c f)) _
      (of_bads c f (Passes f at slot.device) (target_roots c f) (each_from (λ root. Passes f at slot.device (step.Bad root)) (target_roots c f) (λ j root is. record { notes = tt; disk = tt })))
      (each_append (OfStep (Passes f at slot.device)) (jobs_acts c f) (last_acts c f) (of_jobs c f (Passes f at slot.device) 0 (length f.jobs) (λ k y later here kept. job_passes k y here kept))
      (of_last c f (Passes f at slot.device)
      (each_from (λ root. Passes f at slot.device (step.Primary root) × Passes f at slot.device (step.Activated root)) (target_roots c f) (λ j root is. (record { notes = tt; disk = tt }, record { notes = tt; disk = tt })))
      (of_handler c f (Passes f at slot.device) handler_kind.Post (length f.jobs) (λ is. record { notes = tt; disk = ⊎_elim (λ all. all (length f.jobs)) (λ q. absurd (no_handler c handler_kind.Post q.after is)) spared })))))

  -- its disk is kept, at each moment
  pub slot_kept : (book : List RecordContent) (a z : Past) → Within c f book (steps_in (acts_of c f)) a z → Always a z (DiskKept slot.device (world_now a))
  slot_kept book a z within =
      let pass = each_step (Passes f at slot.device) (acts_of c f) all_pass in
      within_keeps c f (DiskKept slot.device) (disk_none slot.device) (disk_joins slot.device) (LeavesDisk slot.device) (step_disk c f slot.device) book (steps_in (acts_of c f)) (each_weaker (Passes f at slot.device) (LeavesDisk slot.device) (λ s p. p.disk) (steps_in (acts_of c f)) pass) a z within

-- ---- which slots these are

-- jobs have slots of their own, none of which runs, and their images have files unless a hook installs them
pub record AreApart (c : Configuration) (f : FactsContent) : Type 0 where
  pub devices : same_device c.slots ≡ None
  pub own : (j k slot : ℕ) → slot_at f j ≡ Some slot → slot_at f k ≡ Some slot → j ≡ k
  pub idle : (k : ℕ) (x : Work) → work_at c f k ≡ Some x → is_in_use (slice_index_or f.states x.job.slot state.Inactive) ≡ false
  pub filed : (k : ℕ) (x : Work) → work_at c f k ≡ Some x → (is_some x.image.file || x.image.install) ≡ true

module _ (c : Configuration) (f : FactsContent) (apart : AreApart c f) where
  -- a slot that stays as it is
  pub stays_none : (at : ℕ) → StaysAsItIs c f at → NoJobAt c f at
  stays_none at (inl used) k x here kept same =
      true≢false (sym used ∙ ap (λ (n : ℕ). is_in_use (slice_index_or f.states n state.Inactive)) same ∙ apart.idle k x here)
  stays_none at (inr skipped) k x here kept same =
      let j = skipped.0 in
      let y = skipped.1 in
      let there = skipped.2 in
      let place : j ≡ k = apart.own j k x.job.slot (slot_of_work c f j y there ∙ ap (λ (n : ℕ). Some n) (skipped.3 ∙ same)) (slot_of_work c f k x here) in
      let one : Some y ≡ Some x = sym there ∙ ap (work_at c f) place ∙ here in
      let same_work : y ≡ x = work_same one in
      true≢false (sym skipped.4 ∙ ap (λ (w : Work). w.skipped) same_work ∙ kept)
    where
      work_same : {v w : Work} → Some v ≡ Some w → v ≡ w
      work_same e = cc

  pub stays_spared : (at : ℕ) (slot : Slot) → slice_get c.slots at ≡ Some slot → StaysAsItIs c f at → Spared c f slot.device
  stays_spared at slot there (inl used) = inl (λ n. running_spared c f at slot there used n)
  stays_spared at slot there (inr skipped) =
      let j = skipped.0 in
      let y = skipped.1 in
      let is = is_work c f j y skipped.2 in
      let slot_is : Some y.slot ≡ Some slot = sym is.slot ∙ ap (slice_get c.slots) skipped.3 ∙ there in
      inl (λ n. subst (λ (s : Slot). has_disk (spares_at c f n) s.device ≡ true) (slot_same slot_is) (skipped_spared c f j y skipped.2 skipped.4 n))
    where
      slot_same : {s t : Slot} → Some s ≡ Some t → s ≡ t
      slot_same e = cc

-- ---- the job of a slot, if it has one

pub record JobAt (c : Configuration) (f : FactsContent) (at : ℕ) : Type 0 where
  pub place : ℕ
  pub work : Work
  pub there : work_at c f place ≡ Some work
  pub kept : work.skipped ≡ false
  pub slot : work.job.slot ≡ at

-- none of the first jobs
abbrev NoneBefore : Configuration → FactsContent → ℕ → ℕ → Type 0
NoneBefore c f at n = (k : ℕ) (x : Work) → work_at c f k ≡ Some x → x.skipped ≡ false → k < n → at ≢ x.job.slot

pub job_or_none : (c : Configuration) (f : FactsContent) (at : ℕ) → JobAt c f at ⊎ NoJobAt c f at
job_or_none c f at = ⊎_elim (λ j. inl j) (λ none. inr (λ k x here kept. none k x here kept (within k x here))) (search (length f.jobs))
  where
    within : (k : ℕ) (x : Work) → work_at c f k ≡ Some x → k < length f.jobs
    within k x here = within_jobs c f k x here

    at_place : (n : ℕ) (o : Option Work) → work_at c f n ≡ o → JobAt c f at ⊎ ((x : Work) → work_at c f n ≡ Some x → x.skipped ≡ false → at ≢ x.job.slot)
    at_place n None is = inr (λ x here kept same. let bad : ⊥ = cc in bad)
    at_place n (Some y) is = with_skipped y.skipped refl
      where
        work_same : {v w : Work} → Some v ≡ Some w → v ≡ w
        work_same e = cc

        with_skipped : (b : Bool) → y.skipped ≡ b → JobAt c f at ⊎ ((x : Work) → work_at c f n ≡ Some x → x.skipped ≡ false → at ≢ x.job.slot)
        with_skipped true skipped = inr (λ x here kept same. true≢false (sym skipped ∙ ap (λ (w : Work). w.skipped) (work_same (sym is ∙ here)) ∙ kept))
        with_skipped false kept = ⊎_elim
            (λ h. inl (record { place = n; work = y; there = is; kept = kept; slot = h.1 }))
            (λ h. inr (λ x here other same. h.1 (sym (same ∙ ap (λ (w : Work). w.job.slot) (work_same (sym here ∙ is))))))
            (eqb_tells y.job.slot at)

    last_or_before : (n k : ℕ) → k < n + 1 → (k ≡ n) ⊎ (k < n)
    last_or_before n k lt = grind (arith, nat_tests)

    search : (n : ℕ) → JobAt c f at ⊎ NoneBefore c f at n
    search zero = inr (λ k x here kept lt same. omega (arith, lt))
    search (suc n) = ⊎_elim (λ j. inl j) (λ before. ⊎_elim (λ j. inl j) (λ here. inr (more before here)) (at_place n (work_at c f n) refl)) (search n)
      where
        more : NoneBefore c f at n → ((x : Work) → work_at c f n ≡ Some x → x.skipped ≡ false → at ≢ x.job.slot) → NoneBefore c f at (suc n)
        more before here k x there kept lt =
            ⊎_elim (λ same. here x (subst (λ (m : ℕ). work_at c f m ≡ Some x) same there) kept) (λ less. before k x there kept less) (last_or_before n k (omega (arith, lt)))
