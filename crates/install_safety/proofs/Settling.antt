-- An image that is put is whole on its device from then on.
use Rattle.std.proofs.Common.{◌≡◌, ◌≤◌, ◌<◌, ◌+◌, ⊎_elim, ◌||◌, ◌&&◌, not, ℕ, zero, suc, Bool, true, false, cond, List, [], ◌∷◌, ◌++◌, length, is_some, Option, Some, None, refl, sym, ◌∙◌, ap, subst, arith, append_assoc}
use Rattle.std.specs.Prelude.{IsSomeAnd}
use Rattle.std.specs.List.{flat_map, range_with_len}
use Rattle.std.specs.Option.{option_map_or}
use Rattle.std.proofs.lemmas.Bool.{and_parts, not-true, or_parts}
use Rattle.child_steps.specs.declared.hooks.HookKind.{HookKind}
use Rattle.child_steps.specs.declared.hooks.HookKind.TheVariants as hook_kind
use Rattle.keyfile.specs.Groups.{Text}
use Rattle.machine.specs.Crash.{is_in}
use Rattle.machine.specs.World.{disk, with_sync}
use Rattle.machine.specs.Past.{Past, world_now}
use Rattle.machine.specs.declared.world.Span.{Span}
use Rattle.machine.specs.declared.world.World.{World}
use Rattle.machine.proofs.Worlds.{is_in-synced}
use Rattle.manifest.specs.declared.image.ImageFile.{ImageFile}
use Rattle.raw_writer.specs.Putting.{IsPutWhole}
use Rattle.raw_writer.specs.Whole.{IsWhole}
use Rattle.raw_writer.specs.declared.put.PutJob.{PutJob}
use Rattle.slot_status.specs.Records.{RecordContent}
use Rattle.system_conf.specs.Configuration.{Configuration}
use Rattle.system_conf.specs.Refusals.{same_device}
use Rattle.install_facts.specs.Facts.{FactsContent}
use Rattle.install_plan.specs.Acts.{Work, hook_acts, index_acts, is_alone, job_acts, job_acts_of, jobs_acts, put_acts, put_of, settle_acts, steps_in, work_acts, work_at, work_note}
use Rattle.install_plan.specs.declared.step.Act.{Act}
use Rattle.install_plan.specs.declared.step.Act.TheVariants.{Do, Tell}
use Rattle.install_plan.specs.declared.step.Step.{Step}
use Rattle.install_plan.specs.declared.step.Step.TheVariants as step
use Rattle.install_plan.proofs.ActKinds.{OfJob, of_jobs}
use Rattle.install_plan.proofs.Each.{Each, OfStep, each_append, each_if, each_step}
use Rattle.install_plan.proofs.JobWork.{is_work}
use Rattle.install_plan.proofs.Shape.{steps_more}
use Rattle.install_steps.specs.Steps.{Run, book_after, changed, piece, slot_at}
use Rattle.install_safety.proofs.Devices.{alone_spared, devices_apart, job_leaves, same_or_past, within_jobs}
use Rattle.install_safety.proofs.Frames.{DiskKept, LeavesDisk, disk_joins, disk_none, step_disk}
use Rattle.install_safety.proofs.Phases.{AllStand, StandsWhole, whole_kept}
use Rattle.install_safety.proofs.Within.{run_keeps, run_splits}

-- ---- one image

-- acts that put a file on a device, and then leave that alone
pub record Settles (device : Text) (file : ImageFile) (acts : List Act) : Type 0 where
  pub front : List Act
  pub back : List Act
  pub at : ℕ
  pub put : PutJob
  pub is : acts ≡ front ++ Do (step.Put at put) ∷ back
  pub device_is : put.device ≡ device
  pub size_is : put.size ≡ file.size
  pub digest_is : put.digest ≡ file.digest
  pub leaves : Each (OfStep (LeavesDisk device)) back

-- acts before them
pub before : (device : Text) (file : ImageFile) (first acts : List Act) → Settles device file acts → Settles device file (first ++ acts)
before device file first acts s = record {
  front = first ++ s.front;
  back = s.back;
  at = s.at;
  put = s.put;
  is = ap (λ (xs : List Act). first ++ xs) s.is ∙ sym (append_assoc first s.front (Do (step.Put s.at s.put) ∷ s.back));
  device_is = s.device_is;
  size_is = s.size_is;
  digest_is = s.digest_is;
  leaves = s.leaves;
}

-- acts behind them that leave the device alone
pub behind : (device : Text) (file : ImageFile) (acts more : List Act) → Settles device file acts → Each (OfStep (LeavesDisk device)) more → Settles device file (acts ++ more)
behind device file acts more s leave = record {
  front = s.front;
  back = s.back ++ more;
  at = s.at;
  put = s.put;
  is = ap (λ (xs : List Act). xs ++ more) s.is ∙ append_assoc s.front (Do (step.Put s.at s.put) ∷ s.back) more;
  device_is = s.device_is;
  size_is = s.size_is;
  digest_is = s.digest_is;
  leaves = each_append (OfStep (LeavesDisk device)) s.back more s.leaves leave;
}

-- after a put the image is whole, and nothing of the device is pending
synced : (w : World) (device : Text) (i : ℕ) → is_in (with_sync w device).pending device i ≡ false
unfolding with_sync
synced w device i = is_in-synced w.pending device i

put_stands : (device : Text) (file : ImageFile) (put : PutJob) (w u : World) → put.device ≡ device → put.size ≡ file.size → put.digest ≡ file.digest → IsPutWhole put piece w u → StandsWhole device file u
put_stands device file put w u on size digest done =
    subst (λ (d : Text). StandsWhole d file u) on (record {
      whole = subst (λ (n : ℕ). IsSomeAnd (disk u put.device) (λ bytes. IsWhole bytes n file.digest)) size
          (subst (λ d. IsSomeAnd (disk u put.device) (λ bytes. IsWhole bytes put.size d)) digest done.whole);
      settled = λ i. ap (λ (spans : List Span). is_in spans put.device i) done.written.pending ∙ synced w put.device i;
    })

-- and so it is when all acts are done
pub settles_run : (c : Configuration) (f : FactsContent) (device : Text) (file : ImageFile) (acts : List Act) → Settles device file acts → (book : List RecordContent) (a z : Past) → Run c f book (steps_in acts) a z → StandsWhole device file (world_now z)
settles_run c f device file acts s book a z ran =
    let order : steps_in acts ≡ steps_in s.front ++ step.Put s.at s.put ∷ steps_in s.back = ap steps_in s.is ∙ steps_more s.front (Do (step.Put s.at s.put) ∷ s.back) in
    let all = run_splits c f book (steps_in s.front) (step.Put s.at s.put ∷ steps_in s.back) a z (subst (λ (steps : List Step). Run c f book steps a z) order ran) in
    let b = all.0 in
    let d = all.2.0 in
    let stands = put_stands device file s.put (world_now b) (world_now d) s.device_is s.size_is s.digest_is all.2.1.after in
    let later = changed f (step.Put s.at s.put) (book_after f (steps_in s.front) book) in
    whole_kept device file (world_now d) (world_now z)
    (run_keeps c f (DiskKept device) (disk_none device) (disk_joins device) (LeavesDisk device) (step_disk c f device) later (steps_in s.back) (each_step (LeavesDisk device) s.back s.leaves) d z all.2.2)
    stands

-- ---- a job

-- what it means that RAUC alone writes a slot
pub record IsAlone (x : Work) : Type 0 where
  pub skipped : x.skipped ≡ false
  pub install : x.image.install ≡ false
  pub post : x.image.post ≡ false

pub alone_is : (x : Work) → is_alone x ≡ true → IsAlone x
alone_is x alone =
    let parts = and_parts (not x.skipped) (not (x.image.install || x.image.post)) alone in
    let hooks = or_parts x.image.install x.image.post (not-true (x.image.install || x.image.post) parts.1) in
    record { skipped = not-true x.skipped parts.0; install = hooks.0; post = hooks.1 }

module _ (c : Configuration) (f : FactsContent) (x : Work) (file : ImageFile) (alone : IsAlone x) (file_is : x.image.file ≡ Some file) where
  pub put_is : put_acts c x ≡ Do (step.Put x.at (put_of c x file)) ∷ []
  put_is =
      ap (λ (b : Bool). cond b [] (option_map_or (λ file. Do (step.Put x.at (put_of c x file)) ∷ []) x.image.file [])) alone.install
      ∙ ap (λ (o : Option ImageFile). option_map_or (λ file. Do (step.Put x.at (put_of c x file)) ∷ []) o []) file_is

  pub settles_put : Settles x.slot.device file (put_acts c x)
  settles_put = record { front = []; back = []; at = x.at; put = put_of c x file; is = put_is; device_is = refl; size_is = refl; digest_is = refl; leaves = tt }

  pub no_hook : (which : HookKind) (named : Bool) → named ≡ false → Each (OfStep (LeavesDisk x.slot.device)) (hook_acts c f x which named)
  no_hook which named none = subst (λ (b : Bool). Each (OfStep (LeavesDisk x.slot.device)) (hook_acts c f x which b)) (sym none) tt

  settles_work : Settles x.slot.device file (work_acts c f x)
  settles_work =
      before x.slot.device file (Do (step.Begin x.job.slot) ∷ []) _
      (before x.slot.device file (hook_acts c f x hook_kind.Pre x.image.pre) _
      (before x.slot.device file (hook_acts c f x hook_kind.Install x.image.install) _
      (behind x.slot.device file (put_acts c x) _ settles_put
      (each_append (OfStep (LeavesDisk x.slot.device)) (hook_acts c f x hook_kind.Post x.image.post) _ (no_hook hook_kind.Post x.image.post alone.post)
      (each_append (OfStep (LeavesDisk x.slot.device)) (settle_acts x) _ (each_if (OfStep (LeavesDisk x.slot.device)) (x.image.install || x.image.post) (Do (step.Settle x.job.slot)) tt)
      (each_append (OfStep (LeavesDisk x.slot.device)) (index_acts c x) _ (each_if (OfStep (LeavesDisk x.slot.device)) (not x.image.install && (x.image.adaptive && is_some c.data_directory)) (Do (step.Index x.at)) tt)
      (tt, tt)))))))

  settles_of : Settles x.slot.device file (job_acts_of c f x)
  settles_of =
      subst (λ (b : Bool). Settles x.slot.device file (cond b [] (work_acts c f x) ++ Tell (work_note c f x) ∷ [])) (sym alone.skipped)
      (behind x.slot.device file (work_acts c f x) (Tell (work_note c f x) ∷ []) settles_work (tt, tt))

  pub settles_job : (at : ℕ) → work_at c f at ≡ Some x → Settles x.slot.device file (job_acts c f at)
  settles_job at there = subst (λ (o : Option Work). Settles x.slot.device file (option_map_or (job_acts_of c f) o [])) (sym there) settles_of

-- ---- all jobs

module _ (c : Configuration) (f : FactsContent) (devices : same_device c.slots ≡ None) (own : (j k slot : ℕ) → slot_at f j ≡ Some slot → slot_at f k ≡ Some slot → j ≡ k) where
  module _ (at : ℕ) (x : Work) (file : ImageFile) (there : work_at c f at ≡ Some x) (alone : is_alone x ≡ true) (file_is : x.image.file ≡ Some file) where
    -- a later job leaves the device alone
    later_leaves : (k : ℕ) (y : Work) → at + 1 ≤ k → work_at c f k ≡ Some y → OfJob c f (LeavesDisk x.slot.device) y
    later_leaves k y later here =
        let place = (is_work c f k y here).at_is in
        job_leaves c f x.slot.device y
        (alone_spared c f at x there alone y.at (omega (arith, later, place)))
        (devices_apart c f devices own at k x y there here (λ same. let bad : ⊥ = omega (arith, later, same) in bad))

    settles_from : (from count : ℕ) → from ≤ at → at < from + count → Settles x.slot.device file (flat_map (job_acts c f) (range_with_len from count))
    settles_from from zero le lt = let none : ⊥ = omega (arith, le, lt) in absurd none
    settles_from from (suc count) le lt =
        ⊎_elim here (λ later. before x.slot.device file (job_acts c f from) _ (settles_from (from + 1) count later (omega (arith, lt)))) (same_or_past from at le)
      where
        here : at ≡ from → Settles x.slot.device file (job_acts c f from ++ flat_map (job_acts c f) (range_with_len (from + 1) count))
        here same =
            subst (λ (n : ℕ). Settles x.slot.device file (job_acts c f n ++ flat_map (job_acts c f) (range_with_len (n + 1) count))) same
            (behind x.slot.device file (job_acts c f at) (flat_map (job_acts c f) (range_with_len (at + 1) count)) (settles_job c f x file (alone_is x alone) file_is at there)
            (of_jobs c f (LeavesDisk x.slot.device) (at + 1) count (λ k y later here skipped. later_leaves k y later here)))

    pub settles_jobs : at < length f.jobs → Settles x.slot.device file (jobs_acts c f)
    settles_jobs within = settles_from 0 (length f.jobs) (omega arith) (omega (arith, within))

  -- after all jobs each slot that RAUC alone writes is whole
  pub jobs_stand : (book : List RecordContent) (a z : Past) → Run c f book (steps_in (jobs_acts c f)) a z → AllStand c f (world_now z)
  jobs_stand book a z ran at x file there alone file_is =
      settles_run c f x.slot.device file (jobs_acts c f) (settles_jobs at x file there alone file_is (within_jobs c f at x there)) book a z ran
