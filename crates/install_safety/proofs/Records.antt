-- What the status file says of the slots is true, wherever an install stops.
use Rattle.std.proofs.Common.{◌≡◌, inl, inr, ℕ, ℤ, zero, suc, true, List, codes, length, replicate, slice_get, is_some, Option, Some, None, refl, sym, ◌∙◌, ap, subst}
use Rattle.std.specs.Prelude.{option_and_then, option_map}
use Rattle.std.specs.Option.{option_map_or}
use Rattle.std.proofs.lemmas.Bool.{true≢false}
use Rattle.keyfile.specs.Groups.{Text}
use Rattle.machine.specs.Past.{Past, WorldSince, world_now}
use Rattle.machine.specs.declared.world.World.{World}
use Rattle.manifest.specs.Contents.{ImageContent}
use Rattle.manifest.specs.declared.image.ImageFile.{ImageFile}
use Rattle.slot_graph.specs.declared.job.Job.{Job}
use Rattle.slot_status.specs.Changes.{finished}
use Rattle.slot_status.specs.Records.{RecordContent, no_record, record_at}
use Rattle.status_file.specs.Status.{book_in, bytes_at}
use Rattle.status_file.specs.Truth.{stored_book}
use Rattle.system_conf.specs.Configuration.{Configuration}
use Rattle.system_conf.specs.declared.slot.Slot.{Slot}
use Rattle.install_facts.specs.Facts.{FactsContent, image_of}
use Rattle.install_plan.specs.Acts.{Work, acts_of, is_alone, steps_in, work_at}
use Rattle.install_plan.specs.declared.step.Step.TheVariants as step
use Rattle.install_plan.proofs.Each.{each_step, each_weaker}
use Rattle.install_plan.proofs.JobWork.{IsWork, is_work}
use Rattle.install_steps.specs.Steps.{changed, changed_at_time, done_book, file_of, slot_at}
use Rattle.install_safety.specs.TrueRecords.{RunsNone}
use Rattle.install_safety.proofs.Books.{Claims, ClaimsSame, NotesNot, SparesStatus, finished_claims}
use Rattle.install_safety.proofs.Frames.{DiskKept}
use Rattle.install_safety.proofs.JobActs.{in_three, spare_status}
use Rattle.install_safety.proofs.JobRecords.{RecordPhase, job_phases}
use Rattle.install_safety.proofs.KeptRecords.{says_same}
use Rattle.install_safety.proofs.KeptSlots.{AreApart, NoJobAt, Passes, Spared, all_pass, slot_kept, stays_none, stays_spared}
use Rattle.install_safety.proofs.Standing.{KeptSlot, RecordsStand, claims_by}
use Rattle.install_safety.specs.Lists.{Within}

-- ---- without a status file nothing is said

blank_at : (n at : ℕ) → record_at (replicate n no_record) at ≡ no_record
blank_at zero at = refl
blank_at (suc n) zero = refl
blank_at (suc n) (suc at) = blank_at n at

nothing_said : (c : Configuration) (at : ℕ) (u : World) → c.status_file ≡ None → record_at (stored_book c u) at ≡ no_record
nothing_said c at u none = ap (λ (o : Option Text). record_at (book_in c.slots (bytes_at o u)) at) none ∙ blank_at (length c.slots) at

-- ---- the record of a job that is done

module _ (c : Configuration) (f : FactsContent) (at : ℕ) (x : Work) (file : ImageFile) (there : work_at c f at ≡ Some x) (file_is : x.image.file ≡ Some file) where
  file_there : (is : IsWork c f at x) → file_of f at ≡ Some file
  file_there is =
      ap (option_and_then (λ job. option_and_then (λ (image : ImageContent). image.file) (image_of f.content job))) is.job
      ∙ ap (option_and_then (λ (image : ImageContent). image.file)) is.image
      ∙ file_is

  slot_there : (is : IsWork c f at x) → slot_at f at ≡ Some x.job.slot
  slot_there is = ap (option_map (λ (job : Job). job.slot)) is.job

  -- what is noted of it
  done_claims : (seconds : ℤ) → f.now ≡ Some seconds → (book : List RecordContent) → Claims file (record_at (changed f (step.Done x.at) book) x.job.slot)
  done_claims seconds now book =
      let is = is_work c f at x there in
      let noted : changed f (step.Done x.at) book ≡ finished x.job.slot f.content.bundle (Some file) seconds book =
      ap (λ (o : Option ℤ). option_map_or (λ s. changed_at_time f (step.Done x.at) s book) o book) now
      ∙ ap (λ (n : ℕ). done_book f n seconds book) is.at_is
      ∙ ap (λ (o : Option ImageFile). option_map_or (λ slot. finished slot f.content.bundle o seconds book) (slot_at f at) book) (file_there is)
      ∙ ap (λ (o : Option ℕ). option_map_or (λ slot. finished slot f.content.bundle (Some file) seconds book) o book) (slot_there is) in
      subst (λ (b : List RecordContent). Claims file (record_at b x.job.slot)) (sym noted) (finished_claims x.job.slot f.content.bundle file seconds book)

-- ---- all slots

module _ (c : Configuration) (f : FactsContent) (apart : AreApart c f) (a z : Past) (book : stored_book c (world_now a) ≡ f.book) (within : Within c f f.book (steps_in (acts_of c f)) a z) (u : World) (was : WorldSince a z u) where
  disk_kept : (at : ℕ) (slot : Slot) → slice_get c.slots at ≡ Some slot → NoJobAt c f at → Spared c f slot.device → DiskKept slot.device (world_now a) u
  disk_kept at slot there none spared = (slot_kept c f apart.devices at slot there none spared f.book a z within).each u was

  -- with a status file
  module _ (path : Text) (has_file : c.status_file ≡ Some path) (seconds : ℤ) (now : f.now ≡ Some seconds) where
    kept_with : (at : ℕ) (slot : Slot) → slice_get c.slots at ≡ Some slot → NoJobAt c f at → Spared c f slot.device → KeptSlot c at slot (world_now a) u
    kept_with at slot there none spared =
        let pass = each_step (Passes f at slot.device) (acts_of c f) (all_pass c f apart.devices at slot there none spared) in
        let notes = each_weaker (Passes f at slot.device) (NotesNot f at) (λ s p. p.notes) (steps_in (acts_of c f)) pass in
        let spare = each_step (SparesStatus c) (acts_of c f) (spare_status c f) in
        let says = (says_same c f path has_file at f.book (steps_in (acts_of c f)) spare notes a z book within).each u was in
        record {
          says = subst (λ (b : List RecordContent). ClaimsSame (record_at b at) (record_at (stored_book c u) at)) (sym book) says;
          disk = disk_kept at slot there none spared;
        }

    phase_with : (at : ℕ) (x : Work) (file : ImageFile) → work_at c f at ≡ Some x → is_alone x ≡ true → x.image.file ≡ Some file → RecordPhase (RunsNone c f) c x.job.slot x.slot.device file (world_now a) u
    phase_with at x file there alone file_is =
        (job_phases (RunsNone c f) c f path has_file x.job.slot x.at x.slot.device file seconds now (done_claims c f at x file there file_is seconds now) (acts_of c f)
        (in_three c f apart.devices apart.own at x file there alone file_is) (spare_status c f) f.book a z book within).each u was

  -- and without one
  module _ (none_there : c.status_file ≡ None) where
    kept_without : (at : ℕ) (slot : Slot) → slice_get c.slots at ≡ Some slot → NoJobAt c f at → Spared c f slot.device → KeptSlot c at slot (world_now a) u
    kept_without at slot there none spared = record {
      says = claims_by (nothing_said c at u none_there ∙ sym (nothing_said c at (world_now a) none_there));
      disk = disk_kept at slot there none spared;
    }

    phase_without : (at : ℕ) (x : Work) (file : ImageFile) → RecordPhase (RunsNone c f) c x.job.slot x.slot.device file (world_now a) u
    phase_without at x file = inr (inl (λ e. let bad : None ≡ Some (codes "ok") = sym (ap (λ (r : RecordContent). r.status) (nothing_said c x.job.slot u none_there)) ∙ e in let never : ⊥ = cc in never))

  module _ (kept : (at : ℕ) (slot : Slot) → slice_get c.slots at ≡ Some slot → NoJobAt c f at → Spared c f slot.device → KeptSlot c at slot (world_now a) u)
      (phase : (at : ℕ) (x : Work) (file : ImageFile) → work_at c f at ≡ Some x → is_alone x ≡ true → x.image.file ≡ Some file → RecordPhase (RunsNone c f) c x.job.slot x.slot.device file (world_now a) u) where
    stand_by : RecordsStand c f (world_now a) u
    stand_by = record {
      kept = λ at slot there stays. kept at slot there (stays_none c f apart at stays) (stays_spared c f apart at slot there stays);
      written = phase;
      quiet = λ runs at slot there none. kept at slot there none (inr runs);
    }

  -- at each moment of the list
  pub records_stand : is_some f.now ≡ is_some c.status_file → RecordsStand c f (world_now a) u
  records_stand timed = go c.status_file refl f.now refl
    where
      go : (status : Option Text) → c.status_file ≡ status → (now : Option ℤ) → f.now ≡ now → RecordsStand c f (world_now a) u
      go None none now is = stand_by (kept_without none) (λ at x file there alone file_is. phase_without none at x file)
      go (Some path) has_file (Some seconds) is = stand_by (kept_with path has_file seconds is) (phase_with path has_file seconds is)
      go (Some path) has_file None is = absurd (true≢false (ap is_some (sym has_file) ∙ sym timed ∙ ap is_some is))
