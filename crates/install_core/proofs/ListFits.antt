-- The images of an install have their sizes, and their devices have room for them.
use Rattle.std.proofs.Common.{◌≡◌, ℕ, Bool, cond, IsTrue, Some, None, Result, Ok, Err, refl, ap, sym, subst, ◌∙◌}
use Rattle.std.specs.Prelude.{option_and_then}
use Rattle.conf_forms.specs.Lists.{first_of}
use Rattle.machine.specs.Past.{Past, world_now}
use Rattle.machine.specs.declared.world.World.{World}
use Rattle.manifest.specs.Contents.{ImageContent}
use Rattle.manifest.specs.Reads.{manifest_content}
use Rattle.manifest.specs.declared.image.ImageFile.{ImageFile}
use Rattle.raw_writer.proofs.Checks.{check_length, check_room}
use Rattle.raw_writer.specs.Checking.{check_of}
use Rattle.raw_writer.specs.declared.check.PutRefusal.{PutRefusal}
use Rattle.raw_writer.specs.declared.put.PutJob.{PutJob}
use Rattle.system_conf.specs.Configuration.{Configuration}
use Rattle.system_conf.specs.Reads.{system_configuration}
use Rattle.system_conf.specs.declared.system.System.{System}
use Rattle.install_facts.specs.Facts.{AreSound, FactsContent, as_refused, facts_content, file_refusal, fit_refusal, image_path, image_refusal}
use Rattle.install_facts.specs.declared.facts.Facts.{Facts}
use Rattle.install_plan.specs.Acts.{acts_of, steps_in}
use Rattle.install_plan.specs.declared.step.Step.{Step}
use Rattle.install_plan.specs.declared.step.Step.TheVariants as step
use Rattle.install_steps.specs.Doing.{PutFits, StepFits}
use Rattle.install_steps.specs.Progress.{FitsAll}
use Rattle.install_plan.proofs.Each.{each_between, each_weaker}
use Rattle.install_core.proofs.NoneRefused.{none_at}
use Rattle.install_core.proofs.StatedSizes.{accepted_unstated}
use Rattle.install_plan.proofs.WhatActs.{IsPut, IsStep, steps_are}

-- an answer that is no refusal is a size
no_refusal : (at : ℕ) (file : ImageFile) (r : Result ℕ PutRefusal) → as_refused at file r ≡ None → (size : ℕ) × (r ≡ Ok size)
no_refusal at file (Ok size) e = (size, refl)
no_refusal at file (Err why) e = absurd (cc)

module _ (c : Configuration) (f : FactsContent) (w : World) (none : first_of (image_refusal c f.content w) f.jobs ≡ None) where
  -- the image of a put was accepted for its device
  put_accepted : (at : ℕ) (put : PutJob) (is : IsPut c f at put) → check_of w (image_path c is.file) None (Some is.work.slot.device) ≡ Ok is.file.size
  put_accepted at put is =
      let x = is.work in
      let job : image_refusal c f.content w x.job ≡ None = none_at (image_refusal c f.content w) f.jobs none at x.job is.is.job in
      let here : fit_refusal c w x.job.image x.image x.slot ≡ None =
      sym (λ i. option_and_then (λ (image : ImageContent). option_and_then (fit_refusal c w x.job.image image) (is.is.slot i)) (is.is.image i)) ∙ job in
      let file : file_refusal c w x.job.image x.image x.slot is.file ≡ None = sym (ap (option_and_then (file_refusal c w x.job.image x.image x.slot)) is.file_is) ∙ here in
      let bare : as_refused x.job.image is.file (check_of w (image_path c is.file) (Some is.file.size) (Some x.slot.device)) ≡ None =
      sym (ap (λ (b : Bool). as_refused x.job.image is.file (check_of w (image_path c is.file) (Some is.file.size) (cond b None (Some x.slot.device)))) is.install) ∙ file in
      let ok = no_refusal x.job.image is.file (check_of w (image_path c is.file) (Some is.file.size) (Some x.slot.device)) bare in
      accepted_unstated (image_path c is.file) x.slot.device w is.file.size ok.0 ok.1

module _ (t : Bool) (past : Past) (c : Configuration) (f : FactsContent) (none : IsTrue t → first_of (image_refusal c f.content (world_now past)) f.jobs ≡ None) where
  put_fits : (at : ℕ) (put : PutJob) → IsPut c f at put → PutFits t past put
  put_fits at put is =
      let path = image_path c is.file in
      let device = is.work.slot.device in
      subst (PutFits t past) (sym is.put_is) (record {
        room = record { room = λ told. check_room (world_now past) path device is.file.size (put_accepted c f (world_now past) (none told) at put is) };
        image = record { is = λ told. check_length (world_now past) path device is.file.size (put_accepted c f (world_now past) (none told) at put is) };
      })

  step_fits : (s : Step) → IsStep c f s → StepFits t past s
  step_fits (step.Run child caller) is = tt
  step_fits (step.Bad root) is = tt
  step_fits (step.Begin slot) is = tt
  step_fits (step.Put job put) is = put_fits job put is
  step_fits (step.Settle slot) is = tt
  step_fits (step.Index job) is = tt
  step_fits (step.Done job) is = tt
  step_fits (step.Primary root) is = tt
  step_fits (step.Activated root) is = tt

-- where no image is refused, each that is put fits its device
pub list_fits : (t : Bool) (past : Past) (system : System) (facts : Facts) → AreSound (system_configuration system) (facts_content facts)
    → (IsTrue t → first_of (image_refusal (system_configuration system) (manifest_content facts.manifest) (world_now past)) facts.jobs ≡ None)
    → FitsAll t past (steps_in (acts_of (system_configuration system) (facts_content facts)))
list_fits t past system facts sound none =
    let c = system_configuration system in
    let f = facts_content facts in
    let steps = steps_in (acts_of c f) in
    record { each = λ before after s is. each_between (StepFits t past) steps before after s is (each_weaker (IsStep c f) (StepFits t past) (step_fits t past c f none) steps (steps_are c f)) }
