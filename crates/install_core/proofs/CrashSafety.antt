-- An install is safe wherever it stops, by the course that it took.
use Rattle.std.proofs.Common.{◌≡◌, inl, inr, ◌||◌, ◌<◌, ◌+◌, ℕ, zero, suc, Bool, true, false, List, [], ◌∷◌, codes, length, slice_get, is_some, Option, Some, None, Result, Ok, Err, IsTrue, refl, sym, ◌∙◌, ap, subst, arith}
use Rattle.std.specs.Prelude.{IfOk, nat_le}
use Rattle.std.specs.List.{slice_index_or}
use Rattle.std.proofs.lemmas.List.FromFn.{get_or-map-range_with_len}
use Rattle.std.proofs.lemmas.Option.{slice_get_within}
use Rattle.boot_backends.specs.Honest.{Honest}
use Rattle.boot_backends.specs.Marked.{names_of}
use Rattle.boot_backends.proofs.Truth.{honest_splits}
use Rattle.boot_model.specs.Vars.{Variables}
use Rattle.boot_state.specs.States.{KeepsName, good}
use Rattle.keyfile.specs.Groups.{Text}
use Rattle.machine.specs.Crash.{Crash, is_in}
use Rattle.machine.specs.Past.{Always, Grows, Held, Past, world_now}
use Rattle.machine.specs.Runs.{OnlyRuns}
use Rattle.machine.specs.World.{disk_byte, file}
use Rattle.machine.specs.declared.stops.Stop.{Stop}
use Rattle.machine.specs.declared.world.World.{World}
use Rattle.machine.proofs.Joins.{unchanged_none}
use Rattle.machine.proofs.Moments.{always_now, grows_trans}
use Rattle.manifest.specs.Contents.{ImageContent}
use Rattle.manifest.specs.Reads.{image_content, image_contents}
use Rattle.manifest.specs.declared.image.Image.{Image}
use Rattle.running_system.specs.Running.{booted_by_text, is_in_use, what_runs}
use Rattle.conf_forms.specs.Lists.{keep_if}
use Rattle.slot_graph.specs.Booted.{state_of, states_of}
use Rattle.slot_graph.specs.declared.state.Booted.{Booted}
use Rattle.slot_graph.specs.declared.state.Booted.TheVariants as booted
use Rattle.slot_graph.specs.declared.state.SlotState.{SlotState}
use Rattle.slot_graph.specs.declared.state.SlotState.TheVariants as state
use Rattle.status_file.specs.Status.{book_in}
use Rattle.status_file.specs.Truth.{stored_book}
use Rattle.system_conf.specs.Configuration.{Configuration}
use Rattle.system_conf.specs.Reads.{system_configuration}
use Rattle.system_conf.specs.declared.slot.Slot.{Slot}
use Rattle.system_conf.specs.declared.system.System.{System}
use Rattle.child_steps.specs.Children.{helper_spares, mounting, umount_child}
use Rattle.child_steps.specs.Mounting.{MountEnds}
use Rattle.child_steps.specs.declared.close.Closing.{Closing}
use Rattle.child_steps.specs.declared.mounted.Mounted.{Mounted}
use Rattle.install_facts.specs.Answers.{TellsIf}
use Rattle.install_facts.specs.Facts.{AreSound, FactsContent, facts_content}
use Rattle.install_facts.specs.Gathering.{checks_in, facts_since}
use Rattle.install_facts.specs.declared.facts.Facts.{Facts}
use Rattle.install_facts.specs.declared.refusal.InstallRefusal.{InstallRefusal}
use Rattle.install_facts.specs.declared.report.Note.{Note}
use Rattle.install_facts.specs.declared.request.Request.{Request}
use Rattle.install_plan.specs.Acts.{acts_of, steps_in}
use Rattle.install_steps.proofs.SlotsApart.{classes_apart}
use Rattle.install_safety.specs.Safe.{BootedGood, HasBootname, TargetsSafe}
use Rattle.install_safety.specs.TrueRecords.{RecordsSafe}
use Rattle.install_safety.proofs.AllSafe.{are_apart}
use Rattle.install_safety.proofs.BootedName.{booted_kept}
use Rattle.install_safety.proofs.Frames.{DiskKept, disk_joins, disk_none, not_pending}
use Rattle.install_safety.proofs.Idle.{BootedIsRoot, what_runs_root}
use Rattle.install_safety.proofs.KeptSlots.{AreApart, slot_kept, stays_none, stays_spared}
use Rattle.install_safety.proofs.Names.{Keeps, name_joins, name_same}
use Rattle.install_safety.proofs.Order.{phases}
use Rattle.install_safety.proofs.Phases.{Phase, phase_safe}
use Rattle.install_safety.proofs.Records.{records_stand}
use Rattle.install_safety.proofs.Standing.{RecordsStand, SlotsSpared, phase_before, phase_spared, phase_start, stand_before, stand_safe, stand_spared, stand_start}
use Rattle.install_safety.specs.Lists.{AreInstallable, Within}
use Rattle.install_safety.proofs.Within.{progress_within, within_grows}
use Rattle.install_core.specs.Course.{Answer, Course, Follows, Installs}
use Rattle.install_core.specs.CrashSafe.{FactsSince, IsCrashSafe, StaysGood}
use Rattle.install_core.specs.Untouched.{IsSpared, Untouched}
use Rattle.install_core.specs.declared.ending.InstallEnd.{InstallEnd}
use Rattle.install_core.proofs.FactsTold.{facts_tell}
use Rattle.install_core.proofs.LeftUntouched.{ran_untouched, untouched_join, untouched_same}
use Rattle.install_core.proofs.SafeSegments.{always_spared, over_all}
use Rattle.updater_text.specs.Sinks.{Shown}

-- ---- bytes of a slot, and the name that is booted

-- a stop keeps the bytes of a disk that is kept
byte_kept : (device : Text) (w u v : World) → DiskKept device w u → Crash u v → (i : ℕ) → is_in w.pending device i ≡ false → disk_byte v device i ≡ disk_byte w device i
byte_kept device w u v kept crash i settled = crash.bytes device i (not_pending (is_in u.pending device i) (is_in w.pending device i) (kept.pending i) settled) ∙ kept.bytes i settled

good_same : (c : Configuration) (b : Booted) (w v : World) → v.vars ≡ w.vars → BootedGood c b w v
good_same c (booted.Slot root) w v same = λ name has was. ap (λ (vars : Variables). good c.boot vars (names_of c.slots) name) same ∙ was
good_same c booted.External w v same = tt
good_same c booted.Unknown w v same = tt

-- ---- nothing was touched

module _ (c : Configuration) (r : Request) (a e : Past) where
  as_told : (t : Bool) → IsTrue t → Untouched t c a e → Untouched true c a e
  as_told t told left = record { all = λ same. left.all told }

  pub none_touched : (t : Bool) → Untouched t c a e → IsCrashSafe t c r a e
  none_touched t left = record {
    running = record {
      each = λ told v held at slot there used i settled.
          let u = held.0 in
          let spared = (always_spared c a e (as_told t told left)).each u held.1 in
          byte_kept slot.device (world_now a) u v (spared.disks at slot there) held.2 i settled;
    };
    good = λ told honest v held.
        let u = held.0 in
        let spared = (always_spared c a e (as_told t told left)).each u held.1 in
        good_same c (what_runs c.slots r.given_boot (world_now a)) (world_now a) v (held.2.vars ∙ spared.vars);
    safe = λ told. inl (as_told t told left);
  }

-- ---- what the facts are

filed_at : (images : List Image) (n : ℕ) (image : ImageContent) → slice_get (image_contents images) n ≡ Some image → (is_some image.file || image.install) ≡ true
filed_at [] n image there = absurd (cc)
filed_at (i ∷ images) zero image there = let same : image_content i ≡ image = cc in subst (λ (x : ImageContent). (is_some x.file || x.install) ≡ true) same i.sourced
filed_at (i ∷ images) (suc n) image there = filed_at images n image there

-- the kernel's words are those of before
same_booted : (c : Configuration) (given : Option Text) (w u : World) → file u (codes "/proc/cmdline") ≡ file w (codes "/proc/cmdline") → what_runs c.slots given u ≡ what_runs c.slots given w
same_booted c (Some name) w u same = refl
same_booted c None w u same = ap (λ (there : Option Text). booted_by_text c.slots (keep_if (λ bytes. nat_le (length bytes) 65536) there)) same

state_found : (c : Configuration) (f : FactsContent) (b : Booted) (at : ℕ) → at < length c.slots → f.states ≡ states_of c.slots f.booted → f.booted ≡ b → slice_index_or f.states at state.Inactive ≡ state_of c.slots b at
state_found c f b at within states is =
    let zero_on : 0 + at ≡ at = omega arith in
    ap (λ (xs : List SlotState). slice_index_or xs at state.Inactive) states
    ∙ ap (λ (x : Booted). slice_index_or (states_of c.slots x) at state.Inactive) is
    ∙ get_or-map-range_with_len (state_of c.slots b) 0 (length c.slots) at at state.Inactive within zero_on

module _ (system : System) (facts : Facts) where
  abbrev conf : Configuration
  conf = system_configuration system

  abbrev content : FactsContent
  content = facts_content facts

  module _ (sound : AreSound conf content) (is_root : BootedIsRoot conf content) where
    are_installable : AreInstallable conf content
    are_installable = record {
      sound = sound;
      slots = system.sound.slots;
      root = is_root;
      classes = classes_apart facts.manifest.images facts.manifest.apart;
      filed = λ at image there. filed_at facts.manifest.images at image there;
    }

    told_apart : AreApart conf content
    told_apart = are_apart conf content are_installable

    -- ---- the steps were begun

    module _ (r : Request) (a g z e : Past) (first : Untouched true conf a g) (last : Untouched true conf z e) (booted_is : content.booted ≡ what_runs conf.slots r.given_boot (world_now a))
        (book : content.book ≡ stored_book conf (world_now g)) (within : Within conf content content.book (steps_in (acts_of conf content)) g z) where
      abbrev now_booted : Booted
      now_booted = what_runs conf.slots r.given_boot (world_now a)

      grows_z : Grows g z
      grows_z = (within_grows conf content content.book (steps_in (acts_of conf content)) g z within).grows

      honest_steps : Honest conf.boot a e → Honest conf.boot g z
      honest_steps honest =
          let to_g = (first.all refl).grows in
          let to_e = (last.all refl).grows in
          let parts = honest_splits conf.boot a g e to_g (grows_trans g z e grows_z to_e) honest in
          (honest_splits conf.boot g z e grows_z to_e parts.1).0

      -- what runs keeps its bytes
      slot_safe : (at : ℕ) (slot : Slot) → slice_get conf.slots at ≡ Some slot → is_in_use (state_of conf.slots now_booted at) ≡ true → Always a e (DiskKept slot.device (world_now a))
      slot_safe at slot there used =
          let found = state_found conf content now_booted at (slice_get_within conf.slots at slot there) sound.states booted_is in
          let in_use : is_in_use (slice_index_or content.states at state.Inactive) ≡ true = ap is_in_use found ∙ used in
          let steps = slot_kept conf content told_apart.devices at slot there (stays_none conf content told_apart at (inl in_use)) (stays_spared conf content told_apart at slot there (inl in_use)) content.book g z within in
          over_all conf (DiskKept slot.device) (disk_none slot.device)
          (λ w u x spared kept. disk_joins slot.device w u x kept (spared.disks at slot there))
          (λ v w u spared kept. disk_joins slot.device v w u (spared.disks at slot there) kept) a g z e first steps last

      -- the name that is booted keeps what it is
      name_safe : Honest conf.boot a e → (root : ℕ) (name : Text) → content.booted ≡ booted.Slot root → HasBootname conf root name → Always a e (Keeps conf name a)
      name_safe honest root name boots has =
          over_all conf (λ w u. KeepsName conf.boot (names_of conf.slots) name w.vars u.vars) (λ w. name_same conf name w.vars w.vars refl)
          (λ w u x spared keeps. name_joins conf name w.vars u.vars x.vars keeps (name_same conf name u.vars x.vars spared.vars))
          (λ v w u spared keeps. name_joins conf name v.vars w.vars u.vars (name_same conf name v.vars w.vars spared.vars) keeps) a g z e first
          (booted_kept conf content sound system.sound.slots is_root root name boots has content.book g z within (honest_steps honest)) last

      good_safe : StaysGood conf now_booted a e
      good_safe honest v held = by_root now_booted refl
        where
          by_root : (b : Booted) → now_booted ≡ b → BootedGood conf b (world_now a) v
          by_root (booted.Slot root) is = λ name has was.
              ap (λ (vars : Variables). good conf.boot vars (names_of conf.slots) name) held.2.vars
              ∙ ((name_safe honest root name (booted_is ∙ is) has).each held.0 held.1).stays_good was
          by_root booted.External is = tt
          by_root booted.Unknown is = tt

      -- the targets, and the records
      targets_safe : Honest conf.boot a e → (v : World) → Held a e v → TargetsSafe conf content (world_now a) v
      targets_safe honest v held =
          let steps = phases conf content told_apart.devices told_apart.own content.book g z (honest_steps honest) within in
          let all = over_all conf (Phase conf content) (phase_start conf content) (phase_spared conf content) (phase_before conf content) a g z e first steps last in
          phase_safe conf content (world_now a) held.0 v (all.each held.0 held.1) held.2

      steps_records : Always g z (RecordsStand conf content (world_now g))
      steps_records = record {
        grows = grows_z;
        each = λ u was. records_stand conf content told_apart g z (sym book) within u was sound.now;
      }

      records_safe : (v : World) → Held a e v → RecordsSafe conf content (world_now a) v
      records_safe v held =
          let all = over_all conf (RecordsStand conf content) (stand_start conf content) (stand_spared conf content) (stand_before conf content) a g z e first steps_records last in
          stand_safe conf content told_apart (world_now a) held.0 v (all.each held.0 held.1) held.2

      steps_stand : (t : Bool) → FactsSince conf r a e content → IsCrashSafe t conf r a e
      steps_stand t gathered = record {
        running = record {
          each = λ told v held at slot there used i settled. byte_kept slot.device (world_now a) held.0 v ((slot_safe at slot there used).each held.0 held.1) held.2 i settled;
        };
        good = λ told. good_safe;
        safe = λ told. inr (content, gathered, record { targets = targets_safe; records = records_safe });
      }

-- ---- by the course

module _ (system : System) (t : Bool) (r : Request) (old new : Past) where
  abbrev own : Configuration
  own = system_configuration system

  -- where it is told, it is so
  when_told : (IsTrue t → IsCrashSafe t own r old new) → IsCrashSafe t own r old new
  when_told stands = record {
    running = record { each = λ told. (stands told).running.each told };
    good = λ told. (stands told).good told;
    safe = λ told. (stands told).safe told;
  }

  module _ (mounted g z : Past) (bundle : Mounted) (mounts : IsTrue t → MountEnds own r.bundle old mounted (Ok bundle)) (opened : Untouched t own old mounted) (checked : OnlyRuns t (helper_spares own []) (checks_in own (world_now mounted)) mounted g)
      (last : Untouched t own z new) where
    first : Untouched t own old g
    first = untouched_join t own old mounted g opened (ran_untouched t own (checks_in own (world_now mounted)) mounted g checked)

    nothing_done : (IsTrue t → z ≡ g) → IsCrashSafe t own r old new
    nothing_done same = none_touched own r old new t (untouched_join t own old z new (untouched_same t own old g z same first) last)

    did_steps : (facts : Facts) → AreSound own (facts_content facts) → (IsTrue t → facts_since own r mounted g ≡ Some (Ok (facts_content facts))) → Within own (facts_content facts) (facts_content facts).book (steps_in (acts_of own (facts_content facts))) g z → IsTrue t → IsCrashSafe t own r old new
    did_steps facts sound gathers within told =
        let f = facts_content facts in
        let tell = facts_tell own r mounted g f (gathers told) in
        let to_mounted = as_told own r old mounted t told opened in
        let to_g = as_told own r mounted g t told (ran_untouched t own (checks_in own (world_now mounted)) mounted g checked) in
        let kernel = (always_now old mounted (IsSpared (helper_spares own []) (world_now old)) (to_mounted.all refl)).files (codes "/proc/cmdline") refl in
        let spared = always_now mounted g (SlotsSpared own (world_now mounted)) (always_spared own mounted g to_g) in
        let end = as_told own r z new t told last in
        let grows = (within_grows own f f.book (steps_in (acts_of own f)) g z within).grows in
        steps_stand system facts sound (λ root is. what_runs_root own system.sound.slots r.given_boot (world_now mounted) root (sym tell.0 ∙ is)) r old g z new (as_told own r old g t told first) end
        (tell.0 ∙ same_booted own r.given_boot (world_now old) (world_now mounted) kernel)
        (tell.1 ∙ sym (ap (book_in own.slots) spared.status)) within t
        (record {
          start = old;
          mounted = mounted;
          gathered = g;
          bundle = bundle;
          before = unchanged_none true old;
          mounts = mounts told;
          checks = record { all = λ same. checked.all told };
          told = gathers told;
          later = grows_trans g z new grows (end.all refl).grows;
        })

    worked_stands : (facts : Result Facts (Stop InstallRefusal)) (answer : Answer) (notes : List Note) → IfOk facts (λ f. AreSound own (facts_content f)) → (IsTrue t → TellsIf facts_content (facts_since own r mounted g) facts) → Follows t own g z facts answer notes → IsCrashSafe t own r old new
    worked_stands (Err stop) answer notes sound told h = nothing_done h.1
    worked_stands (Ok facts) answer notes sound told (inr h) = nothing_done h.nothing
    worked_stands (Ok facts) answer notes sound told (inl h) =
        when_told (λ is. did_steps facts sound told (progress_within t own (facts_content facts) (acts_of own (facts_content facts)) g z is h.done h.progress) is)

  course_is_safe : (answer : Answer) (closed : Closing) (unread : Bool) (notes : List Note) → Course t own r old new answer closed unread notes → IsCrashSafe t own r old new
  course_is_safe answer closed unread notes (inl h) = none_touched own r old new t (ran_untouched t own (mounting own r.bundle) old new h.kept)
  course_is_safe answer closed unread notes (inr h) =
      let works = h.worked_on.works in
      worked_stands h.mounted works.gathered h.worked_on.worked h.bundle h.ends (ran_untouched t own (mounting own r.bundle) old h.mounted h.kept) works.gathers.kept
      (ran_untouched t own (umount_child own ∷ []) h.worked_on.worked new h.worked_on.spares) works.facts answer works.after works.gathers.sound works.gathers.answers works.follows

  -- every install is safe wherever it stops
  pub install_is_safe : (stood stands : Shown → List Note → Type 0) (end : InstallEnd) → Installs t own r old new stood stands end → IsCrashSafe t own r old new
  install_is_safe stood stands end went = course_is_safe went.answer end.closing end.book_unread went.notes went.course
