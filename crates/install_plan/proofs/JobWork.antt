-- What the works of an install are: each is a job with its image and its slot.
use Rattle.std.proofs.Common.{◌≡◌, ℕ, false, Option, Some, None, slice_get, refl, subst, option_map, option_and_then}
use Rattle.std.specs.List.{slice_index_or}
use Rattle.system_conf.specs.Configuration.{Configuration}
use Rattle.system_conf.specs.declared.slot.Slot.{Slot}
use Rattle.manifest.specs.Contents.{ImageContent}
use Rattle.slot_graph.specs.declared.job.Job.{Job}
use Rattle.install_facts.specs.Facts.{FactsContent, image_of, slot_of}
use Rattle.install_plan.specs.Acts.{Work, work_at}

-- the work is that of the job at a place
pub record IsWork (c : Configuration) (f : FactsContent) (at : ℕ) (x : Work) : Type 0 where
  pub at_is : x.at ≡ at
  pub job : slice_get f.jobs at ≡ Some x.job
  pub image : image_of f.content x.job ≡ Some x.image
  pub slot : slot_of c x.job ≡ Some x.slot

-- the work at a place is
pub is_work : (c : Configuration) (f : FactsContent) (at : ℕ) (x : Work) → work_at c f at ≡ Some x → IsWork c f at x
is_work c f at x is = with_job (slice_get f.jobs at) refl is
  where
    made : Job → ImageContent → Slot → Work
    made job image slot = record { at = at; job = job; image = image; slot = slot; skipped = slice_index_or f.skipped at false }

    with_slot : (job : Job) (image : ImageContent) → slice_get f.jobs at ≡ Some job → image_of f.content job ≡ Some image → (o : Option Slot) → slot_of c job ≡ o → option_map (made job image) o ≡ Some x → IsWork c f at x
    with_slot job image there shown None e is = absurd (cc)
    with_slot job image there shown (Some slot) e is =
        let same : made job image slot ≡ x = cc in
        subst (IsWork c f at) same (record { at_is = refl; job = there; image = shown; slot = e })

    with_image : (job : Job) → slice_get f.jobs at ≡ Some job → (o : Option ImageContent) → image_of f.content job ≡ o → option_and_then (λ image. option_map (made job image) (slot_of c job)) o ≡ Some x → IsWork c f at x
    with_image job there None e is = absurd (cc)
    with_image job there (Some image) e is = with_slot job image there e (slot_of c job) refl is

    with_job : (o : Option Job) → slice_get f.jobs at ≡ o → option_and_then (λ job. option_and_then (λ image. option_map (made job image) (slot_of c job)) (image_of f.content job)) o ≡ Some x → IsWork c f at x
    with_job None e is = absurd (cc)
    with_job (Some job) e is = with_image job e (image_of f.content job) refl is
