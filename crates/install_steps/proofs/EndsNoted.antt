-- How the images of jobs were put is noted at the jobs.
use Rattle.std.proofs.Common.{◌≡◌, ◌≤◌, ℕ, zero, suc, List, [], ◌∷◌, length, slice_set, slice_index_or, Option, refl, sym, ◌∙◌, ap, arith}
use Rattle.raw_writer.specs.declared.put.Written.{Written}
use Rattle.slot_status.specs.Changes.{changed_at}
use Rattle.install_plan.specs.declared.step.Step.{Step}
use Rattle.install_plan.specs.declared.step.Step.TheVariants as step
use Rattle.raw_writer.specs.declared.put.PutJob.{PutJob}
use Rattle.install_steps.specs.Progress.{with_written}
use Rattle.install_steps.specs.declared.running.JobEnd.{JobEnd}

set_written : (job : ℕ) (written : Option Written) (ends : List JobEnd) (d : JobEnd) → slice_set ends job (record (slice_index_or ends job d) { written = written }) ≡ changed_at job (λ e. record e { written = written }) ends
set_written job written [] d = refl
set_written zero written (e ∷ ends) d = refl
set_written (suc job) written (e ∷ ends) d = ap (λ (es : List JobEnd). e ∷ es) (set_written job written ends d)

none_there : {A : Type 0} (at : ℕ) (change : A → A) (xs : List A) → length xs ≤ at → xs ≡ changed_at at change xs
none_there at change [] past = refl
none_there zero change (x ∷ xs) past = absurd (omega (arith, past))
none_there {A = A} (suc at) change (x ∷ xs) past = ap (λ (ys : List A). x ∷ ys) (none_there at change xs (omega (arith, past)))

module _ (s : Step) (job : ℕ) (put : PutJob) (written : Option Written) (ends : List JobEnd) (is : s ≡ step.Put job put) where
  as_put : with_written s written ends ≡ changed_at job (λ e. record e { written = written }) ends
  as_put = ap (λ (x : Step). with_written x written ends) is

  pub written_there : (d : JobEnd) → slice_set ends job (record (slice_index_or ends job d) { written = written }) ≡ with_written s written ends
  written_there d = set_written job written ends d ∙ sym as_put

  pub written_nowhere : length ends ≤ job → ends ≡ with_written s written ends
  written_nowhere past = none_there job (λ e. record e { written = written }) ends past ∙ sym as_put
