-- The record of a slot that RAUC alone writes: as it was until an update begins, then without a claim, and at the end that of the image.
use Rattle.std.proofs.Common.{◌≡◌, ◌⊎◌, inl, inr, ⊎_elim, ℕ, ℤ, List, [], ◌∷◌, ◌++◌, codes, Option, Some, refl, sym, ◌∙◌, ap, subst, append_assoc}
use Rattle.std.specs.Prelude.{IsSomeAnd}
use Rattle.std.specs.Option.{option_map_or}
use Rattle.keyfile.specs.Groups.{Text}
use Rattle.machine.specs.Crash.{Crash}
use Rattle.machine.specs.Past.{Always, Past, world_now}
use Rattle.machine.specs.World.{disk}
use Rattle.machine.specs.declared.world.World.{World}
use Rattle.machine.proofs.Moments.{always_joins, always_now, always_start, always_weaker}
use Rattle.machine.proofs.Worlds.{crash_settled}
use Rattle.manifest.specs.declared.image.ImageFile.{ImageFile}
use Rattle.raw_writer.specs.Whole.{IsWhole}
use Rattle.slot_status.specs.Changes.{begun}
use Rattle.slot_status.specs.Records.{RecordContent, record_at}
use Rattle.status_file.specs.Truth.{IsTrueRecord, IsTrueSlot, stored_book}
use Rattle.system_conf.specs.Configuration.{Configuration}
use Rattle.system_conf.specs.declared.slot.Slot.{Slot}
use Rattle.updater_text.specs.declared.digest.Digest.{Digest}
use Rattle.install_facts.specs.Facts.{FactsContent}
use Rattle.install_plan.specs.Acts.{steps_in}
use Rattle.install_plan.specs.declared.step.Act.{Act}
use Rattle.install_plan.specs.declared.step.Act.TheVariants.{Do}
use Rattle.install_plan.specs.declared.step.Step.{Step}
use Rattle.install_plan.specs.declared.step.Step.TheVariants as step
use Rattle.install_plan.proofs.Each.{Each, OfStep, each_apart, each_append, each_step, each_weaker}
use Rattle.install_plan.proofs.Shape.{steps_more}
use Rattle.install_steps.specs.Steps.{Begun, Run, book_after, changed}
use Rattle.install_safety.proofs.Books.{BookOf, Claims, LeavesRecord, NotesNot, SparesStatus, after_step, after_steps, begun_status, claims_kept, in_step, record_left}
use Rattle.install_safety.proofs.Frames.{DiskKept, LeavesDisk, WritesElsewhere, WritesNot, disk_joins, disk_none, step_disk, step_elsewhere, writes_joins, writes_none}
use Rattle.install_safety.proofs.KeptRecords.{says_same, stored_crash}
use Rattle.install_safety.proofs.Phases.{StandsWhole, whole_kept}
use Rattle.install_safety.proofs.Settling.{Settles, settles_run}
use Rattle.install_safety.specs.Lists.{Within}
use Rattle.install_safety.proofs.Within.{run_within, within_keeps, within_splits}

-- ---- the acts, by the job

-- before the job a step leaves its record, writes to another device, and, where no programs are run, leaves its bytes
pub record Earlier (quiet : Type 0) (f : FactsContent) (at : ℕ) (device : Text) (s : Step) : Type 0 where
  pub record_is : LeavesRecord f at s
  pub writes : WritesNot device s
  pub disk : quiet → LeavesDisk device s

-- after it a step notes nothing of its image, and leaves its bytes
pub record Later (f : FactsContent) (at : ℕ) (device : Text) (s : Step) : Type 0 where
  pub notes : NotesNot f at s
  pub disk : LeavesDisk device s

-- acts that begin with the slot, put the file, and note that the job is done
pub record InThree (quiet : Type 0) (f : FactsContent) (at job : ℕ) (device : Text) (file : ImageFile) (acts : List Act) : Type 0 where
  pub front : List Act
  pub middle : List Act
  pub back : List Act
  pub is : acts ≡ front ++ Do (step.Begin at) ∷ (middle ++ Do (step.Done job) ∷ back)
  pub earlier : Each (OfStep (Earlier quiet f at device)) front
  pub notes : Each (OfStep (LeavesRecord f at)) middle
  pub settles : Settles device file middle
  pub later : Each (OfStep (Later f at device)) back

module _ (quiet : Type 0) (f : FactsContent) (at job : ℕ) (device : Text) (file : ImageFile) where
  -- acts before them
  pub three_before : (first acts : List Act) → Each (OfStep (Earlier quiet f at device)) first → InThree quiet f at job device file acts → InThree quiet f at job device file (first ++ acts)
  three_before first acts are t = record {
    front = first ++ t.front;
    middle = t.middle;
    back = t.back;
    is = ap (λ (xs : List Act). first ++ xs) t.is ∙ sym (append_assoc first t.front (Do (step.Begin at) ∷ (t.middle ++ Do (step.Done job) ∷ t.back)));
    earlier = each_append (OfStep (Earlier quiet f at device)) first t.front are t.earlier;
    notes = t.notes;
    settles = t.settles;
    later = t.later;
  }

  -- acts behind them
  pub three_behind : (acts more : List Act) → InThree quiet f at job device file acts → Each (OfStep (Later f at device)) more → InThree quiet f at job device file (acts ++ more)
  three_behind acts more t are = record {
    front = t.front;
    middle = t.middle;
    back = t.back ++ more;
    is = ap (λ (xs : List Act). xs ++ more) t.is
        ∙ append_assoc t.front (Do (step.Begin at) ∷ (t.middle ++ Do (step.Done job) ∷ t.back)) more
        ∙ ap (λ (xs : List Act). t.front ++ Do (step.Begin at) ∷ xs) (append_assoc t.middle (Do (step.Done job) ∷ t.back) more);
    earlier = t.earlier;
    notes = t.notes;
    settles = t.settles;
    later = each_append (OfStep (Later f at device)) t.back more t.later are;
  }

-- ---- the record

-- nothing was done to the slot; or its record claims nothing; or it stands whole, and its record says so
pub record Untouched (quiet : Type 0) (c : Configuration) (at : ℕ) (device : Text) (w u : World) : Type 0 where
  pub record_is : record_at (stored_book c u) at ≡ record_at (stored_book c w) at
  pub writes : WritesElsewhere device w u
  pub disk : quiet → DiskKept device w u

abbrev pub ClaimsNothing : Configuration → ℕ → World → Type 0
ClaimsNothing c at u = (record_at (stored_book c u) at).status ≡ Some (codes "ok") → ⊥

pub record SaysWhole (c : Configuration) (at : ℕ) (device : Text) (file : ImageFile) (u : World) : Type 0 where
  pub claims : Claims file (record_at (stored_book c u) at)
  pub stands : StandsWhole device file u

abbrev pub RecordPhase : Type 0 → Configuration → ℕ → Text → ImageFile → World → World → Type 0
RecordPhase quiet c at device file w u = Untouched quiet c at device w u ⊎ (ClaimsNothing c at u ⊎ SaysWhole c at device file u)

module _ (quiet : Type 0) (c : Configuration) (f : FactsContent) (path : Text) (there : c.status_file ≡ Some path) (at job : ℕ) (device : Text) (file : ImageFile) where
  abbrev Phases : World → World → Type 0
  Phases w u = RecordPhase quiet c at device file w u

  -- ---- before the job

  records_left : (book : List RecordContent) (steps : List Step) → Each (LeavesRecord f at) steps → record_at (book_after f steps book) at ≡ record_at book at
  records_left book [] leave = refl
  records_left book (s ∷ steps) leave = records_left (changed f s book) steps leave.1 ∙ record_left f at s book leave.0

  same_of : (s : Step) (book : List RecordContent) (u : World) → LeavesRecord f at s → BookOf c f path there book s u → record_at (stored_book c u) at ≡ record_at book at
  same_of s book u leaves (inl is) = ap (λ (b : List RecordContent). record_at b at) is
  same_of s book u leaves (inr is) = ap (λ (b : List RecordContent). record_at b at) is ∙ record_left f at s book leaves

  -- steps that leave the record
  record_same : (book : List RecordContent) (steps : List Step) → Each (SparesStatus c) steps → Each (LeavesRecord f at) steps → (a z : Past) → stored_book c (world_now a) ≡ book → Within c f book steps a z → Always a z (λ u. record_at (stored_book c u) at ≡ record_at book at)
  record_same book [] spare leave a z has same =
      subst (λ (q : Past). Always a q (λ u. record_at (stored_book c u) at ≡ record_at book at)) (sym same)
      (always_start a (λ u. record_at (stored_book c u) at ≡ record_at book at) (ap (λ (b : List RecordContent). record_at b at) has))
  record_same book (s ∷ steps) spare leave a z has (inl begun) =
      always_weaker a z (BookOf c f path there book s) (λ u. record_at (stored_book c u) at ≡ record_at book at) (λ u h. same_of s book u leave.0 h) (in_step c f path there s book a z spare.0 has begun)
  record_same book (s ∷ steps) spare leave a z has (inr h) =
      let did = h.1 in
      let first = always_weaker a h.0 (BookOf c f path there book s) (λ u. record_at (stored_book c u) at ≡ record_at book at) (λ u h. same_of s book u leave.0 h) (in_step c f path there s book a h.0 spare.0 has did.begun) in
      let next = after_step c f path there s book a h.0 spare.0 has did in
      always_joins a h.0 z (λ u. record_at (stored_book c u) at ≡ record_at book at) first
      (always_weaker h.0 z (λ u. record_at (stored_book c u) at ≡ record_at (changed f s book) at) (λ u. record_at (stored_book c u) at ≡ record_at book at) (λ u e. e ∙ record_left f at s book leave.0)
      (record_same (changed f s book) steps spare.1 leave.1 h.0 z next h.2))

  before_job : (book : List RecordContent) (steps : List Step) → Each (SparesStatus c) steps → Each (Earlier quiet f at device) steps → (a z : Past) → stored_book c (world_now a) ≡ book → Within c f book steps a z → Always a z (Untouched quiet c at device (world_now a))
  before_job book steps spare earlier a z has within =
      let same = record_same book steps spare (each_weaker (Earlier quiet f at device) (LeavesRecord f at) (λ s e. e.record_is) steps earlier) a z has within in
      let writes = within_keeps c f (WritesElsewhere device) (writes_none device) (writes_joins device) (WritesNot device) (step_elsewhere c f device) book steps (each_weaker (Earlier quiet f at device) (WritesNot device) (λ s e. e.writes) steps earlier) a z within in
      record {
        grows = same.grows;
        each = λ u was. record {
          record_is = same.each u was ∙ sym (ap (λ (b : List RecordContent). record_at b at) has);
          writes = writes.each u was;
          disk = λ q. (within_keeps c f (DiskKept device) (disk_none device) (disk_joins device) (LeavesDisk device) (step_disk c f device) book steps (each_weaker (Earlier quiet f at device) (LeavesDisk device) (λ s e. e.disk q) steps earlier) a z within).each u was;
        };
      }

  -- ---- after the job

  after_job : (book : List RecordContent) (steps : List Step) → Each (SparesStatus c) steps → Each (Later f at device) steps → (a z : Past) → stored_book c (world_now a) ≡ book → Claims file (record_at book at) → StandsWhole device file (world_now a) → Within c f book steps a z → Always a z (SaysWhole c at device file)
  after_job book steps spare later a z has claims stands within =
      let says = says_same c f path there at book steps spare (each_weaker (Later f at device) (NotesNot f at) (λ s l. l.notes) steps later) a z has within in
      let kept = within_keeps c f (DiskKept device) (disk_none device) (disk_joins device) (LeavesDisk device) (step_disk c f device) book steps (each_weaker (Later f at device) (LeavesDisk device) (λ s l. l.disk) steps later) a z within in
      record {
        grows = says.grows;
        each = λ u was. record {
          claims = claims_kept file (record_at book at) (record_at (stored_book c u) at) claims (says.each u was);
          stands = whole_kept device file (world_now a) u (kept.each u was) stands;
        };
      }

  -- ---- all of it

  module _ (w : World) (seconds : ℤ) (now : f.now ≡ Some seconds) (done_is : (book : List RecordContent) → Claims file (record_at (changed f (step.Done job) book) at)) where
    begun_is : (book : List RecordContent) → changed f (step.Begin at) book ≡ begun at book
    begun_is book = ap (λ (o : Option ℤ). option_map_or (λ s. begun at book) o book) now

    claims_none : (book : List RecordContent) (u : World) → stored_book c u ≡ book → ((record_at book at).status ≡ Some (codes "ok") → ⊥) → ClaimsNothing c at u
    claims_none book u is none e = none (sym (ap (λ (b : List RecordContent). (record_at b at).status) is) ∙ e)

    none_begun : (book : List RecordContent) → (record_at (changed f (step.Begin at) book) at).status ≡ Some (codes "ok") → ⊥
    none_begun book e = begun_status at book (sym (ap (λ (b : List RecordContent). (record_at b at).status) (begun_is book)) ∙ e)

    -- within a step that notes that the job is done
    in_done : (book : List RecordContent) (a z : Past) → stored_book c (world_now a) ≡ book → ((record_at book at).status ≡ Some (codes "ok") → ⊥) → StandsWhole device file (world_now a) → Begun c f book (step.Done job) a z → Always a z (Phases w)
    in_done book a z has none stands begun =
        let book_of = in_step c f path there (step.Done job) book a z tt has begun in
        let kept = within_keeps c f (DiskKept device) (disk_none device) (disk_joins device) (LeavesDisk device) (step_disk c f device) book (step.Done job ∷ []) (tt, tt) a z (inl begun) in
        record {
          grows = book_of.grows;
          each = λ u was. ⊎_elim
              (λ is. inr (inl (claims_none book u is none)))
              (λ is. inr (inr (record { claims = subst (λ (b : List RecordContent). Claims file (record_at b at)) (sym is) (done_is book); stands = whole_kept device file (world_now a) u (kept.each u was) stands })))
              (book_of.each u was);
        }

    -- from that step on
    from_done : (book : List RecordContent) (back : List Step) → Each (SparesStatus c) back → Each (Later f at device) back → (a z : Past) → stored_book c (world_now a) ≡ book → ((record_at book at).status ≡ Some (codes "ok") → ⊥) → StandsWhole device file (world_now a)
        → Within c f book (step.Done job ∷ back) a z → Always a z (Phases w)
    from_done book back spare later a z has none stands (inl begun) = in_done book a z has none stands begun
    from_done book back spare later a z has none stands (inr h) =
        let did = h.1 in
        let next = after_step c f path there (step.Done job) book a h.0 tt has did in
        let kept = within_keeps c f (DiskKept device) (disk_none device) (disk_joins device) (LeavesDisk device) (step_disk c f device) book (step.Done job ∷ []) (tt, tt) a h.0 (inl did.begun) in
        let here = whole_kept device file (world_now a) (world_now h.0) (always_now a h.0 (DiskKept device (world_now a)) kept) stands in
        always_joins a h.0 z (Phases w) (in_done book a h.0 has none stands did.begun)
        (always_weaker h.0 z (SaysWhole c at device file) (Phases w) (λ u s. inr (inr s))
        (after_job (changed f (step.Done job) book) back spare later h.0 z next (done_is book) here h.2))

    -- after the update has begun
    from_middle : (book : List RecordContent) (middle : List Act) (back : List Step) → Each (SparesStatus c) (steps_in middle) → Each (SparesStatus c) back → Each (LeavesRecord f at) (steps_in middle) → Settles device file middle → Each (Later f at device) back
        → (a z : Past) → stored_book c (world_now a) ≡ book → ((record_at book at).status ≡ Some (codes "ok") → ⊥) → Within c f book (steps_in middle ++ step.Done job ∷ back) a z → Always a z (Phases w)
    from_middle book middle back spare spare_back leave settles later a z has none within =
        ⊎_elim in_middle behind_middle (within_splits c f book (steps_in middle) (step.Done job ∷ back) a z within)
      where
        nothing : (q : Past) → Within c f book (steps_in middle) a q → Always a q (Phases w)
        nothing q h =
            always_weaker a q (λ u. record_at (stored_book c u) at ≡ record_at book at) (Phases w)
            (λ u same. inr (inl (λ e. none (sym (ap (λ (r : RecordContent). r.status) same) ∙ e)))) (record_same book (steps_in middle) spare leave a q has h)

        in_middle : Within c f book (steps_in middle) a z → Always a z (Phases w)
        in_middle h = nothing z h

        behind_middle : (b : Past) × Run c f book (steps_in middle) a b × Within c f (book_after f (steps_in middle) book) (step.Done job ∷ back) b z → Always a z (Phases w)
        behind_middle h =
            let stands = settles_run c f device file middle settles book a h.0 h.1 in
            let next = after_steps c f path there (steps_in middle) book a h.0 spare has h.1 in
            let left = records_left book (steps_in middle) leave in
            always_joins a h.0 z (Phases w) (nothing h.0 (run_within c f book (steps_in middle) a h.0 h.1))
            (from_done (book_after f (steps_in middle) book) back spare_back later h.0 z next (λ e. none (sym (ap (λ (r : RecordContent). r.status) left) ∙ e)) stands h.2)

    -- within the step that notes that it has begun
    in_begin : (book : List RecordContent) (a z : Past) → stored_book c (world_now a) ≡ book → Untouched quiet c at device w (world_now a) → Begun c f book (step.Begin at) a z → Always a z (Phases w)
    in_begin book a z has before begun =
        let book_of = in_step c f path there (step.Begin at) book a z tt has begun in
        let kept = within_keeps c f (DiskKept device) (disk_none device) (disk_joins device) (LeavesDisk device) (step_disk c f device) book (step.Begin at ∷ []) (tt, tt) a z (inl begun) in
        let writes = within_keeps c f (WritesElsewhere device) (writes_none device) (writes_joins device) (WritesNot device) (step_elsewhere c f device) book (step.Begin at ∷ []) (tt, tt) a z (inl begun) in
        record {
          grows = book_of.grows;
          each = λ u was. ⊎_elim
              (λ is. inl (record {
                record_is = ap (λ (b : List RecordContent). record_at b at) (is ∙ sym has) ∙ before.record_is;
                writes = writes_joins device w (world_now a) u before.writes (writes.each u was);
                disk = λ q. disk_joins device w (world_now a) u (before.disk q) (kept.each u was);
              }))
              (λ is. inr (inl (claims_none (changed f (step.Begin at) book) u is (none_begun book))))
              (book_of.each u was);
        }

    from_begin : (book : List RecordContent) (middle : List Act) (back : List Step) → Each (SparesStatus c) (steps_in middle) → Each (SparesStatus c) back → Each (LeavesRecord f at) (steps_in middle) → Settles device file middle → Each (Later f at device) back
        → (a z : Past) → stored_book c (world_now a) ≡ book → Untouched quiet c at device w (world_now a) → Within c f book (step.Begin at ∷ (steps_in middle ++ step.Done job ∷ back)) a z → Always a z (Phases w)
    from_begin book middle back spare spare_back leave settles later a z has before (inl begun) = in_begin book a z has before begun
    from_begin book middle back spare spare_back leave settles later a z has before (inr h) =
        let did = h.1 in
        let next = after_step c f path there (step.Begin at) book a h.0 tt has did in
        always_joins a h.0 z (Phases w) (in_begin book a h.0 has before did.begun)
        (from_middle (changed f (step.Begin at) book) middle back spare spare_back leave settles later h.0 z next (none_begun book) h.2)

  -- the whole list
  module _ (seconds : ℤ) (now : f.now ≡ Some seconds) (done_is : (book : List RecordContent) → Claims file (record_at (changed f (step.Done job) book) at)) where
    pub job_phases : (acts : List Act) → InThree quiet f at job device file acts → Each (OfStep (SparesStatus c)) acts → (book : List RecordContent) (a z : Past) → stored_book c (world_now a) ≡ book → Within c f book (steps_in acts) a z → Always a z (RecordPhase quiet c at device file (world_now a))
    job_phases acts t spare book a z has within =
        ⊎_elim in_front behind_front (within_splits c f book (steps_in t.front) (step.Begin at ∷ (steps_in t.middle ++ step.Done job ∷ steps_in t.back)) a z (subst (λ (steps : List Step). Within c f book steps a z) order within))
      where
        order : steps_in acts ≡ steps_in t.front ++ step.Begin at ∷ (steps_in t.middle ++ step.Done job ∷ steps_in t.back)
        order =
            ap steps_in t.is
            ∙ steps_more t.front (Do (step.Begin at) ∷ (t.middle ++ Do (step.Done job) ∷ t.back))
            ∙ ap (λ (xs : List Step). steps_in t.front ++ step.Begin at ∷ xs) (steps_more t.middle (Do (step.Done job) ∷ t.back))

        parts : Each (OfStep (SparesStatus c)) t.front × (Each (OfStep (SparesStatus c)) t.middle × Each (OfStep (SparesStatus c)) t.back)
        parts =
            let all = each_apart (OfStep (SparesStatus c)) t.front (Do (step.Begin at) ∷ (t.middle ++ Do (step.Done job) ∷ t.back)) (subst (Each (OfStep (SparesStatus c))) t.is spare) in
            let rest = each_apart (OfStep (SparesStatus c)) t.middle (Do (step.Done job) ∷ t.back) all.1.1 in
            (all.0, (rest.0, rest.1.1))

        earlier : Each (Earlier quiet f at device) (steps_in t.front)
        earlier = each_step (Earlier quiet f at device) t.front t.earlier

        in_front : Within c f book (steps_in t.front) a z → Always a z (RecordPhase quiet c at device file (world_now a))
        in_front h =
            always_weaker a z (Untouched quiet c at device (world_now a)) (RecordPhase quiet c at device file (world_now a)) (λ u e. inl e)
            (before_job book (steps_in t.front) (each_step (SparesStatus c) t.front parts.0) earlier a z has h)

        behind_front : (b : Past) × Run c f book (steps_in t.front) a b × Within c f (book_after f (steps_in t.front) book) (step.Begin at ∷ (steps_in t.middle ++ step.Done job ∷ steps_in t.back)) b z → Always a z (RecordPhase quiet c at device file (world_now a))
        behind_front h =
            let spare_front = each_step (SparesStatus c) t.front parts.0 in
            let first = before_job book (steps_in t.front) spare_front earlier a h.0 has (run_within c f book (steps_in t.front) a h.0 h.1) in
            let next = after_steps c f path there (steps_in t.front) book a h.0 spare_front has h.1 in
            always_joins a h.0 z (RecordPhase quiet c at device file (world_now a))
            (always_weaker a h.0 (Untouched quiet c at device (world_now a)) (RecordPhase quiet c at device file (world_now a)) (λ u e. inl e) first)
            (from_begin (world_now a) seconds now done_is (book_after f (steps_in t.front) book) t.middle (steps_in t.back) (each_step (SparesStatus c) t.middle parts.1.0) (each_step (SparesStatus c) t.back parts.1.1)
            (each_step (LeavesRecord f at) t.middle t.notes) t.settles (each_step (Later f at device) t.back t.later) h.0 z next (always_now a h.0 (Untouched quiet c at device (world_now a)) first) h.2)

-- ---- and what a stop leaves of it

module _ (quiet : Type 0) (c : Configuration) (at : ℕ) (slot : Slot) (file : ImageFile) (w u v : World) (crash : Crash u v) where
  true_of : (r : RecordContent) → Claims file r → StandsWhole slot.device file u → IsTrueRecord r (disk v slot.device)
  true_of r claims stands size digest status size_is digest_is =
      let same_size : file.size ≡ size = same_nat (sym (claims.size status) ∙ size_is) in
      let same_digest : file.digest ≡ digest = same_sum (sym (claims.digest status) ∙ digest_is) in
      subst (λ (o : Option Text). IsSomeAnd o (λ b. IsWhole b size digest)) (sym (crash_settled u v slot.device crash stands.settled))
      (subst (λ (n : ℕ). IsSomeAnd (disk u slot.device) (λ b. IsWhole b n digest)) same_size
      (subst (λ (d : Digest). IsSomeAnd (disk u slot.device) (λ b. IsWhole b file.size d)) same_digest stands.whole))
    where
      same_nat : {m n : ℕ} → Some m ≡ Some n → m ≡ n
      same_nat e = cc

      same_sum : {m n : Digest} → Some m ≡ Some n → m ≡ n
      same_sum e = cc

  stored : stored_book c v ≡ stored_book c u
  stored = stored_crash c u v crash

  -- what claims nothing is true, and so is what stands whole
  pub true_later : ClaimsNothing c at u ⊎ SaysWhole c at slot.device file u → IsTrueSlot c at slot v
  true_later (inl none) = λ size digest status size_is digest_is. absurd (none (sym (ap (λ (b : List RecordContent). (record_at b at).status) stored) ∙ status))
  true_later (inr says) = subst (λ (b : List RecordContent). IsTrueRecord (record_at b at) (disk v slot.device)) (sym stored) (true_of (record_at (stored_book c u) at) says.claims says.stands)
