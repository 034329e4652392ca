use Rattle.std.proofs.Common.{◌≡◌, ◌<◌, ◌∙◌, List, Ok, Some, ap, arith, get_or, length, option_map, refl, slice_get, sym, ℕ}
use Rattle.std.proofs.lemmas.List.{length-map}
use Rattle.std.proofs.lemmas.Option.{slice_get-map, slice_get_read}
use Rattle.std.proofs.lemmas.Result.{err_from_is_err_and}
use Rattle.manifest.specs.Reads.{image_content, image_contents}
use Rattle.manifest.specs.declared.image.Image.{Image}
use Rattle.slot_graph.specs.declared.job.Job.{Job}
use Rattle.slot_graph.proofs.Placing.{call_refused, job_more, jobs_all}
use Rattle.slot_graph.proofs.assigning.jobs_of.Goals as goal

-- what an image holds, at its place
content_at : (images : List Image) (at : ℕ) (image : Image) → at < length images → image ≡ get_or images at image → slice_get (image_contents images) at ≡ Some (image_content image)
content_at images at image within is = slice_get-map image_content images at ∙ ap (option_map image_content) (slice_get_read images (length images) at image refl within is)

pub returns-in_err-job : goal.returns-in_err-job
returns-in_err-job c =
    let there = content_at c.args.images.now c.loop-at.at c.index-images-at.result c.loop-at-test.true c.index-images-at.is in
    let p = err_from_is_err_and c.from_residual.result c.from_residual.ensures.1 in
    rw (p.1, p.2) (call_refused c.args.slots.now c.args.targets.now (image_contents c.args.images.now) c.loop-at.at (image_content c.index-images-at.result) c.loop-at.jobs c.in_err-job.field-0.0 c.loop-at.invariant there c.in_err-job.ensures)

pub loop-at-preserved : goal.loop-at-preserved
loop-at-preserved c =
    let there = content_at c.args.images.now c.loop-at.at c.index-images-at.result c.loop-at-test.true c.index-images-at.is in
    job_more c.args.slots.now c.args.targets.now (image_contents c.args.images.now) c.loop-at.at (image_content c.index-images-at.result) c.loop-at.jobs c.in_ok-job.job c.loop-at.invariant there c.in_ok-job.ensures
    ∙ ap (λ (jobs : List Job). Ok jobs) (sym c.in_ok-push.ensures.ok)

pub returns : goal.returns
returns c =
    jobs_all c.args.slots.now c.args.targets.now (image_contents c.args.images.now) c.loop-at.at c.loop-at.jobs c.loop-at.invariant (omega (arith, length-map c.args.images.now image_content, c.loop-at-test.false))
    ∙ ap (λ (jobs : List Job). Ok jobs) (sym c.into_vec.ensures)
