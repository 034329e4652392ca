-- Where the records of the slots stand at a moment of an install, and that what they say is true after a stop there.
use Rattle.std.proofs.Common.{◌≡◌, inl, inr, ⊎_elim, ◌||◌, ◌&&◌, not, ℕ, Bool, true, false, List, ◌++◌, drop, length, slice_get, is_some, Option, Some, None, refl, sym, ◌∙◌, ap, subst}
use Rattle.std.specs.Prelude.{bytes_eq}
use Rattle.std.specs.List.{list_any}
use Rattle.std.proofs.lemmas.Bool.{or_parts, true≢false}
use Rattle.std.proofs.lemmas.List.{drop_at}
use Rattle.boot_model.specs.Vars.{Variables}
use Rattle.boot_state.specs.States.{is_down}
use Rattle.keyfile.specs.Groups.{Text}
use Rattle.machine.specs.Crash.{Crash}
use Rattle.machine.specs.declared.world.Span.{Span}
use Rattle.machine.specs.declared.world.World.{World}
use Rattle.manifest.specs.declared.image.ImageFile.{ImageFile}
use Rattle.slot_status.specs.Records.{RecordContent, record_at}
use Rattle.status_file.specs.Status.{book_in, bytes_at}
use Rattle.status_file.specs.Truth.{IsTrueSlot, stored_book}
use Rattle.system_conf.specs.Configuration.{Configuration}
use Rattle.system_conf.specs.declared.slot.Slot.{Slot}
use Rattle.install_facts.specs.Facts.{FactsContent}
use Rattle.install_plan.specs.Acts.{Work, is_alone, work_at}
use Rattle.install_plan.proofs.JobWork.{is_work}
use Rattle.install_safety.specs.TrueRecords.{RecordsSafe, RunsNone, StaysAsItIs, WasTouched, WasTrue}
use Rattle.install_safety.proofs.Books.{ClaimsSame, claims_joins, claims_kept, claims_refl}
use Rattle.install_safety.proofs.Frames.{DiskKept, disk_joins, disk_none, writes_joins, writes_none, writes_same}
use Rattle.install_safety.proofs.JobRecords.{RecordPhase, Untouched, true_later}
use Rattle.install_safety.proofs.KeptRecords.{stored_crash, true_kept}
use Rattle.install_safety.proofs.KeptSlots.{AreApart, JobAt, NoJobAt, job_or_none}
use Rattle.install_safety.proofs.Phases.{Phase, whole_kept}
use Rattle.install_safety.proofs.Settling.{alone_is}

-- ---- where they stand

-- a slot keeps what its record says, and its bytes
pub record KeptSlot (c : Configuration) (at : ℕ) (slot : Slot) (w u : World) : Type 0 where
  pub says : ClaimsSame (record_at (stored_book c w) at) (record_at (stored_book c u) at)
  pub disk : DiskKept slot.device w u

pub record RecordsStand (c : Configuration) (f : FactsContent) (w u : World) : Type 0 where
  pub kept : (at : ℕ) (slot : Slot) → slice_get c.slots at ≡ Some slot → StaysAsItIs c f at → KeptSlot c at slot w u
  pub written : (at : ℕ) (x : Work) (file : ImageFile) → work_at c f at ≡ Some x → is_alone x ≡ true → x.image.file ≡ Some file → RecordPhase (RunsNone c f) c x.job.slot x.slot.device file w u
  pub quiet : RunsNone c f → (at : ℕ) (slot : Slot) → slice_get c.slots at ≡ Some slot → NoJobAt c f at → KeptSlot c at slot w u

pub claims_by : {r x : RecordContent} → x ≡ r → ClaimsSame r x
claims_by {r} same = subst (λ (y : RecordContent). ClaimsSame r y) (sym same) (claims_refl r)

-- ---- what a helper leaves

-- the devices of all slots, the boot variables, the writes and the status file are as they were
pub record SlotsSpared (c : Configuration) (w u : World) : Type 0 where
  pub disks : (at : ℕ) (slot : Slot) → slice_get c.slots at ≡ Some slot → DiskKept slot.device w u
  pub vars : u.vars ≡ w.vars
  pub writes : u.writes ≡ w.writes
  pub status : bytes_at c.status_file u ≡ bytes_at c.status_file w

module _ (c : Configuration) (f : FactsContent) where
  same_book : (w u : World) → SlotsSpared c w u → stored_book c u ≡ stored_book c w
  same_book w u spared = ap (book_in c.slots) spared.status

  same_record : (at : ℕ) (w u : World) → SlotsSpared c w u → record_at (stored_book c u) at ≡ record_at (stored_book c w) at
  same_record at w u spared = ap (λ (b : List RecordContent). record_at b at) (same_book w u spared)

  device_spared : (at : ℕ) (x : Work) → work_at c f at ≡ Some x → (w u : World) → SlotsSpared c w u → DiskKept x.slot.device w u
  device_spared at x there w u spared = spared.disks x.job.slot x.slot (is_work c f at x there).slot

  -- the phases of the slots that are written
  pub phase_start : (w : World) → Phase c f w w
  phase_start w = inl refl

  pub phase_spared : (w u x : World) → SlotsSpared c u x → Phase c f w u → Phase c f w x
  phase_spared w u x spared (inl same) = inl (spared.writes ∙ same)
  phase_spared w u x spared (inr (inl down)) = inr (inl (λ at job name there has. ap (λ (vars : Variables). is_down c.boot vars name) spared.vars ∙ down at job name there has))
  phase_spared w u x spared (inr (inr stand)) = inr (inr (λ at y file there alone file_is. whole_kept y.slot.device file u x (device_spared at y there u x spared) (stand at y file there alone file_is)))

  pub phase_before : (v w u : World) → SlotsSpared c v w → Phase c f w u → Phase c f v u
  phase_before v w u spared (inl same) = inl (same ∙ spared.writes)
  phase_before v w u spared (inr later) = inr later

  -- the records
  kept_later : (at : ℕ) (slot : Slot) → slice_get c.slots at ≡ Some slot → (w u x : World) → SlotsSpared c u x → KeptSlot c at slot w u → KeptSlot c at slot w x
  kept_later at slot there w u x spared kept = record {
    says = claims_joins _ _ _ kept.says (claims_by (same_record at u x spared));
    disk = disk_joins slot.device w u x kept.disk (spared.disks at slot there);
  }

  kept_before : (at : ℕ) (slot : Slot) → slice_get c.slots at ≡ Some slot → (v w u : World) → SlotsSpared c v w → KeptSlot c at slot w u → KeptSlot c at slot v u
  kept_before at slot there v w u spared kept = record {
    says = claims_joins _ _ _ (claims_by (same_record at v w spared)) kept.says;
    disk = disk_joins slot.device v w u (spared.disks at slot there) kept.disk;
  }

  kept_start : (at : ℕ) (slot : Slot) (w : World) → KeptSlot c at slot w w
  kept_start at slot w = record { says = claims_refl (record_at (stored_book c w) at); disk = disk_none slot.device w }

  written_later : (quiet : Type 0) (at : ℕ) (device : Text) (file : ImageFile) (w u x : World) → DiskKept device u x → SlotsSpared c u x → RecordPhase quiet c at device file w u → RecordPhase quiet c at device file w x
  written_later quiet at device file w u x disk spared (inl untouched) = inl (record {
    record_is = same_record at u x spared ∙ untouched.record_is;
    writes = writes_joins device w u x untouched.writes (writes_same device u x spared.writes);
    disk = λ q. disk_joins device w u x (untouched.disk q) disk;
  })
  written_later quiet at device file w u x disk spared (inr (inl none)) = inr (inl (λ e. none (sym (ap (λ (r : RecordContent). r.status) (same_record at u x spared)) ∙ e)))
  written_later quiet at device file w u x disk spared (inr (inr says)) = inr (inr (record {
    claims = claims_kept file _ _ says.claims (claims_by (same_record at u x spared));
    stands = whole_kept device file u x disk says.stands;
  }))

  written_before : (quiet : Type 0) (at : ℕ) (device : Text) (file : ImageFile) (v w u : World) → DiskKept device v w → SlotsSpared c v w → RecordPhase quiet c at device file w u → RecordPhase quiet c at device file v u
  written_before quiet at device file v w u disk spared (inl untouched) = inl (record {
    record_is = untouched.record_is ∙ same_record at v w spared;
    writes = writes_joins device v w u (writes_same device v w spared.writes) untouched.writes;
    disk = λ q. disk_joins device v w u disk (untouched.disk q);
  })
  written_before quiet at device file v w u disk spared (inr later) = inr later

  pub stand_start : (w : World) → RecordsStand c f w w
  stand_start w = record {
    kept = λ at slot there stays. kept_start at slot w;
    written = λ at x file there alone file_is. inl (record { record_is = refl; writes = writes_none x.slot.device w; disk = λ q. disk_none x.slot.device w });
    quiet = λ runs at slot there none. kept_start at slot w;
  }

  pub stand_spared : (w u x : World) → SlotsSpared c u x → RecordsStand c f w u → RecordsStand c f w x
  stand_spared w u x spared stand = record {
    kept = λ at slot there stays. kept_later at slot there w u x spared (stand.kept at slot there stays);
    written = λ at y file there alone file_is. written_later (RunsNone c f) y.job.slot y.slot.device file w u x (device_spared at y there u x spared) spared (stand.written at y file there alone file_is);
    quiet = λ runs at slot there none. kept_later at slot there w u x spared (stand.quiet runs at slot there none);
  }

  pub stand_before : (v w u : World) → SlotsSpared c v w → RecordsStand c f w u → RecordsStand c f v u
  stand_before v w u spared stand = record {
    kept = λ at slot there stays. kept_before at slot there v w u spared (stand.kept at slot there stays);
    written = λ at y file there alone file_is. written_before (RunsNone c f) y.job.slot y.slot.device file v w u (device_spared at y there v w spared) spared (stand.written at y file there alone file_is);
    quiet = λ runs at slot there none. kept_before at slot there v w u spared (stand.quiet runs at slot there none);
  }

-- ---- what a stop leaves of that

module _ (c : Configuration) (f : FactsContent) (apart : AreApart c f) (w u v : World) (stand : RecordsStand c f w u) (crash : Crash u v) where
  file_of_alone : (at : ℕ) (x : Work) → work_at c f at ≡ Some x → is_alone x ≡ true → (file : ImageFile) × (x.image.file ≡ Some file)
  file_of_alone at x there alone = go x.image.file refl (apart.filed at x there)
    where
      go : (o : Option ImageFile) → x.image.file ≡ o → (is_some x.image.file || x.image.install) ≡ true → (file : ImageFile) × (x.image.file ≡ Some file)
      go (Some file) is source = (file, is)
      go None is source = absurd (true≢false (sym source ∙ ap (λ (o : Option ImageFile). is_some o || x.image.install) is ∙ (alone_is x alone).install))

  kept_true : (at : ℕ) (slot : Slot) → KeptSlot c at slot w u → WasTrue c at slot w → IsTrueSlot c at slot v
  kept_true at slot kept before = true_kept c at slot w u v kept.says kept.disk crash before

  not_touched : (at : ℕ) (slot : Slot) → Untouched (RunsNone c f) c at slot.device w u → WasTouched c at slot w v → ⊥
  not_touched at slot untouched (inl other) = other (ap (λ (b : List RecordContent). record_at b at) (stored_crash c u v crash) ∙ untouched.record_is)
  not_touched at slot untouched (inr wrote) =
      let writes : v.writes ≡ w.writes ++ untouched.writes.added = crash.writes ∙ untouched.writes.grows in
      let more : drop (length w.writes) v.writes ≡ untouched.writes.added = ap (drop (length w.writes)) writes ∙ drop_at w.writes untouched.writes.added (length w.writes) refl in
      true≢false (sym wrote ∙ ap (λ (spans : List Span). list_any (λ s. bytes_eq s.path slot.device) spans) more ∙ untouched.writes.none)

  written_true : (at : ℕ) (x : Work) → work_at c f at ≡ Some x → is_alone x ≡ true → WasTouched c x.job.slot x.slot w v → IsTrueSlot c x.job.slot x.slot v
  written_true at x there alone touched =
      let file = file_of_alone at x there alone in
      ⊎_elim
      (λ untouched. absurd (not_touched x.job.slot x.slot untouched touched))
      (λ later. true_later (RunsNone c f) c x.job.slot x.slot file.0 w u v crash later)
      (stand.written at x file.0 there alone file.1)

  -- where no programs are run
  alone_then : (x : Work) → x.skipped ≡ false → (x.image.pre || (x.image.install || x.image.post)) ≡ false → is_alone x ≡ true
  alone_then x kept none =
      ap (λ (b : Bool). not b && not (x.image.install || x.image.post)) kept ∙ ap not (or_parts x.image.pre (x.image.install || x.image.post) none).1

  quiet_true : RunsNone c f → (at : ℕ) (slot : Slot) → slice_get c.slots at ≡ Some slot → WasTrue c at slot w → IsTrueSlot c at slot v
  quiet_true runs at slot there before = ⊎_elim of_job (λ none. kept_true at slot (stand.quiet runs at slot there none) before) (job_or_none c f at)
    where
      some_same : {s t : Slot} → Some s ≡ Some t → s ≡ t
      some_same e = cc

      of_job : JobAt c f at → IsTrueSlot c at slot v
      of_job j =
          let x = j.work in
          let is = is_work c f j.place x j.there in
          let slot_is : x.slot ≡ slot = some_same (sym is.slot ∙ ap (slice_get c.slots) j.slot ∙ there) in
          let alone = alone_then x j.kept (runs.hooks j.place x j.there) in
          let file = file_of_alone j.place x j.there alone in
          let was : WasTrue c x.job.slot x.slot w = subst (λ (s : Slot). WasTrue c x.job.slot s w) (sym slot_is) (subst (λ (n : ℕ). WasTrue c n slot w) (sym j.slot) before) in
          let answer : IsTrueSlot c x.job.slot x.slot v = ⊎_elim
          (λ untouched. true_kept c x.job.slot x.slot w u v (claims_by untouched.record_is) (untouched.disk runs) crash was)
          (λ later. true_later (RunsNone c f) c x.job.slot x.slot file.0 w u v crash later)
          (stand.written j.place x file.0 j.there alone file.1) in
          subst (λ (n : ℕ). IsTrueSlot c n slot v) j.slot (subst (λ (s : Slot). IsTrueSlot c x.job.slot s v) slot_is answer)

  pub stand_safe : RecordsSafe c f w v
  stand_safe = record {
    kept = λ at slot there stays before. kept_true at slot (stand.kept at slot there stays) before;
    written = written_true;
    all = quiet_true;
  }
