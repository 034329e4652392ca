-- The acts of an install, as one of its jobs sees them: those before it, its own, and those after it.
use Rattle.std.proofs.Common.{◌≡◌, ◌≢◌, ◌≤◌, ◌<◌, ◌+◌, ⊎_elim, ◌||◌, ◌&&◌, not, ℕ, zero, suc, Bool, true, false, cond, List, [], ◌∷◌, ◌++◌, length, is_some, Option, Some, None, sym, ◌∙◌, ap, subst, arith, append_assoc}
use Rattle.std.specs.List.{flat_map, list_any, range_with_len}
use Rattle.std.specs.Option.{option_map_or, option_to_list}
use Rattle.std.proofs.lemmas.Bool.{true≢false}
use Rattle.child_steps.specs.Children.{mount_point}
use Rattle.child_steps.specs.Hooks.{handler_program}
use Rattle.child_steps.specs.declared.handlers.HandlerKind.{HandlerKind}
use Rattle.child_steps.specs.declared.handlers.HandlerKind.TheVariants as handler_kind
use Rattle.child_steps.specs.declared.hooks.HookKind.{HookKind}
use Rattle.child_steps.specs.declared.hooks.HookKind.TheVariants as hook_kind
use Rattle.keyfile.specs.Groups.{Text}
use Rattle.machine.proofs.Worlds.{bytes_eq_same}
use Rattle.manifest.specs.declared.image.ImageFile.{ImageFile}
use Rattle.system_conf.specs.Configuration.{Configuration}
use Rattle.system_conf.specs.Refusals.{same_device}
use Rattle.updater_text.specs.Paths.{is_within, lies_under}
use Rattle.install_facts.specs.Facts.{FactsContent}
use Rattle.install_plan.specs.Acts.{Work, acts_of, bad_acts, handler_acts, hook_acts, index_acts, is_alone, job_acts, job_acts_of, jobs_acts, put_acts, settle_acts, target_roots, work_acts, work_at, work_note}
use Rattle.install_plan.specs.declared.step.Act.{Act}
use Rattle.install_plan.specs.declared.step.Act.TheVariants.{Do, Tell}
use Rattle.install_plan.specs.declared.step.Step.TheVariants as step
use Rattle.install_plan.proofs.ActKinds.{OfJob, is_named, of_bads, of_handler, of_job, of_jobs}
use Rattle.install_plan.proofs.Each.{Each, OfStep, each_append, each_from, each_if}
use Rattle.install_plan.proofs.JobWork.{is_work}
use Rattle.install_steps.specs.Steps.{slot_at}
use Rattle.install_safety.specs.TrueRecords.{RunsNone}
use Rattle.install_safety.proofs.Books.{LeavesRecord, SparesStatus}
use Rattle.install_safety.proofs.Devices.{alone_spared, devices_apart, job_leaves, same_or_past, slot_of_work, within_jobs}
use Rattle.install_safety.proofs.Frames.{LeavesDisk}
use Rattle.install_safety.proofs.JobRecords.{Earlier, InThree, Later, three_before, three_behind}
use Rattle.install_safety.proofs.Order.{last_acts, of_last}
use Rattle.install_safety.proofs.Settling.{IsAlone, Settles, alone_is, before, behind, no_hook, put_is, settles_put}

-- ---- every program spares the status file

pub spared : (c : Configuration) (more : List Text) (path : Text) → c.status_file ≡ Some path → list_any (λ p. is_within p path) (option_to_list c.status_file ++ more) ≡ true
spared c more path there =
    ap (λ (o : Option Text). list_any (λ p. is_within p path) (option_to_list o ++ more)) there
    ∙ ap (λ (b : Bool). (b || lies_under path path) || list_any (λ p. is_within p path) more) (bytes_eq_same path)

pub spare_status : (c : Configuration) (f : FactsContent) → Each (OfStep (SparesStatus c)) (acts_of c f)
unfolding acts_of
spare_status c f =
    each_append (OfStep (SparesStatus c)) (handler_acts c f handler_kind.Pre 0) _ (of_handler c f (SparesStatus c) handler_kind.Pre 0 (λ is path there. spared c (mount_point c ∷ []) path there))
    (each_append (OfStep (SparesStatus c)) (bad_acts (target_roots c f)) _ (of_bads c f (SparesStatus c) (target_roots c f) (each_from (λ root. Unit {0}) (target_roots c f) (λ j root is. tt)))
    (each_append (OfStep (SparesStatus c)) (jobs_acts c f) (last_acts c f) (of_jobs c f (SparesStatus c) 0 (length f.jobs) (λ at x later there skipped. record {
      begin = tt;
      hook = λ which is path here. spared c (mount_point c ∷ []) path here;
      put = λ file is installs. tt;
      settle = tt;
      index = tt;
      done = tt;
    }))
    (of_last c f (SparesStatus c) (each_from (λ root. Unit {0} × Unit {0}) (target_roots c f) (λ j root is. (tt, tt))) (of_handler c f (SparesStatus c) handler_kind.Post (length f.jobs) (λ is path there. spared c (mount_point c ∷ []) path there)))))

-- ---- no programs are run

pub no_handler : (c : Configuration) (which : HandlerKind) → handler_program c which ≡ None → is_some (handler_program c which) ≡ true → ⊥
no_handler c which none is = true≢false (sym is ∙ ap is_some none)

pub none_named : (x : Work) (which : HookKind) → (x.image.pre || (x.image.install || x.image.post)) ≡ false → is_named x which ≡ true → ⊥
none_named x which none is = go x.image.pre x.image.install x.image.post which none is
  where
    named_in : Bool → Bool → Bool → HookKind → Bool
    named_in pre install post hook_kind.Pre = pre
    named_in pre install post hook_kind.Install = install
    named_in pre install post hook_kind.Post = post

    go : (pre install post : Bool) (which : HookKind) → (pre || (install || post)) ≡ false → named_in pre install post which ≡ true → ⊥
    go true install post which none is = true≢false none
    go false true post which none is = true≢false none
    go false false true which none is = true≢false none
    go false false false hook_kind.Pre none is = true≢false (sym is)
    go false false false hook_kind.Install none is = true≢false (sym is)
    go false false false hook_kind.Post none is = true≢false (sym is)

-- ---- the job's own acts

six : {A : Type 0} (a b d e g h rest : List A) → (a ++ (b ++ (d ++ (e ++ (g ++ h))))) ++ rest ≡ a ++ (b ++ (d ++ (e ++ (g ++ (h ++ rest)))))
six a b d e g h rest =
    append_assoc a (b ++ (d ++ (e ++ (g ++ h)))) rest
    ∙ ap (λ xs. a ++ xs) (append_assoc b (d ++ (e ++ (g ++ h))) rest
    ∙ ap (λ xs. b ++ xs) (append_assoc d (e ++ (g ++ h)) rest
    ∙ ap (λ xs. d ++ xs) (append_assoc e (g ++ h) rest
    ∙ ap (λ xs. e ++ xs) (append_assoc g h rest))))

module _ (c : Configuration) (f : FactsContent) (x : Work) (file : ImageFile) (alone : IsAlone x) (file_is : x.image.file ≡ Some file) where
  abbrev middle : List Act
  middle = hook_acts c f x hook_kind.Pre x.image.pre ++ (hook_acts c f x hook_kind.Install x.image.install ++ (put_acts c x ++ (hook_acts c f x hook_kind.Post x.image.post ++ (settle_acts x ++ index_acts c x))))

  hooks_note : (which : HookKind) (named : Bool) → Each (OfStep (LeavesRecord f x.job.slot)) (hook_acts c f x which named)
  hooks_note which true = (tt, tt)
  hooks_note which false = tt

  middle_notes : Each (OfStep (LeavesRecord f x.job.slot)) middle
  middle_notes =
      each_append (OfStep (LeavesRecord f x.job.slot)) (hook_acts c f x hook_kind.Pre x.image.pre) _ (hooks_note hook_kind.Pre x.image.pre)
      (each_append (OfStep (LeavesRecord f x.job.slot)) (hook_acts c f x hook_kind.Install x.image.install) _ (hooks_note hook_kind.Install x.image.install)
      (each_append (OfStep (LeavesRecord f x.job.slot)) (put_acts c x) _ (subst (Each (OfStep (LeavesRecord f x.job.slot))) (sym (put_is c f x file alone file_is)) (tt, tt))
      (each_append (OfStep (LeavesRecord f x.job.slot)) (hook_acts c f x hook_kind.Post x.image.post) _ (hooks_note hook_kind.Post x.image.post)
      (each_append (OfStep (LeavesRecord f x.job.slot)) (settle_acts x) (index_acts c x) (each_if (OfStep (LeavesRecord f x.job.slot)) (x.image.install || x.image.post) (Do (step.Settle x.job.slot)) tt)
      (each_if (OfStep (LeavesRecord f x.job.slot)) (not x.image.install && (x.image.adaptive && is_some c.data_directory)) (Do (step.Index x.at)) tt)))))

  middle_settles : Settles x.slot.device file middle
  middle_settles =
      before x.slot.device file (hook_acts c f x hook_kind.Pre x.image.pre) _
      (before x.slot.device file (hook_acts c f x hook_kind.Install x.image.install) _
      (behind x.slot.device file (put_acts c x) _ (settles_put c f x file alone file_is)
      (each_append (OfStep (LeavesDisk x.slot.device)) (hook_acts c f x hook_kind.Post x.image.post) _ (no_hook c f x file alone file_is hook_kind.Post x.image.post alone.post)
      (each_append (OfStep (LeavesDisk x.slot.device)) (settle_acts x) (index_acts c x) (each_if (OfStep (LeavesDisk x.slot.device)) (x.image.install || x.image.post) (Do (step.Settle x.job.slot)) tt)
      (each_if (OfStep (LeavesDisk x.slot.device)) (not x.image.install && (x.image.adaptive && is_some c.data_directory)) (Do (step.Index x.at)) tt)))))

  three_work : (quiet : Type 0) → InThree quiet f x.job.slot x.at x.slot.device file (work_acts c f x)
  three_work quiet = record {
    front = [];
    middle = middle;
    back = [];
    is = ap (λ (xs : List Act). Do (step.Begin x.job.slot) ∷ xs)
        (sym (six (hook_acts c f x hook_kind.Pre x.image.pre) (hook_acts c f x hook_kind.Install x.image.install) (put_acts c x) (hook_acts c f x hook_kind.Post x.image.post) (settle_acts x) (index_acts c x) (Do (step.Done x.at) ∷ [])));
    earlier = tt;
    notes = middle_notes;
    settles = middle_settles;
    later = tt;
  }

  three_job : (quiet : Type 0) (at : ℕ) → work_at c f at ≡ Some x → InThree quiet f x.job.slot x.at x.slot.device file (job_acts c f at)
  three_job quiet at there =
      subst (λ (o : Option Work). InThree quiet f x.job.slot x.at x.slot.device file (option_map_or (job_acts_of c f) o [])) (sym there)
      (subst (λ (b : Bool). InThree quiet f x.job.slot x.at x.slot.device file (cond b [] (work_acts c f x) ++ Tell (work_note c f x) ∷ [])) (sym alone.skipped)
      (three_behind quiet f x.job.slot x.at x.slot.device file (work_acts c f x) (Tell (work_note c f x) ∷ []) (three_work quiet) (tt, tt)))

-- ---- among all others

module _ (c : Configuration) (f : FactsContent) (devices : same_device c.slots ≡ None) (own : (j k slot : ℕ) → slot_at f j ≡ Some slot → slot_at f k ≡ Some slot → j ≡ k) where
  module _ (at : ℕ) (x : Work) (file : ImageFile) (there : work_at c f at ≡ Some x) (alone : is_alone x ≡ true) (file_is : x.image.file ≡ Some file) where
    abbrev Three : List Act → Type 0
    Three acts = InThree (RunsNone c f) f x.job.slot x.at x.slot.device file acts

    -- another job notes nothing of this slot
    slot_apart : (k : ℕ) (y : Work) → work_at c f k ≡ Some y → at ≢ k → x.job.slot ≢ y.job.slot
    slot_apart k y here ne same = ne (own at k x.job.slot (slot_of_work c f at x there) (slot_of_work c f k y here ∙ ap (λ (n : ℕ). Some n) (sym same)))

    done_apart : (k : ℕ) (y : Work) → work_at c f k ≡ Some y → at ≢ k → (slot : ℕ) → slot_at f y.at ≡ Some slot → x.job.slot ≢ slot
    done_apart k y here ne slot is same =
        let place = (is_work c f k y here).at_is in
        ne (own at k x.job.slot (slot_of_work c f at x there) (subst (λ (n : ℕ). slot_at f n ≡ Some x.job.slot) place (is ∙ ap (λ (n : ℕ). Some n) (sym same))))

    job_earlier : (k : ℕ) (y : Work) → work_at c f k ≡ Some y → at ≢ k → OfJob c f (Earlier (RunsNone c f) f x.job.slot x.slot.device) y
    job_earlier k y here ne = record {
      begin = record { record_is = slot_apart k y here ne; writes = tt; disk = λ q. tt };
      hook = λ which is. record { record_is = tt; writes = tt; disk = λ q. absurd (none_named y which (q.hooks k y here) is) };
      put = λ g is installs. record { record_is = tt; writes = devices_apart c f devices own at k x y there here ne; disk = λ q. devices_apart c f devices own at k x y there here ne };
      settle = record { record_is = tt; writes = tt; disk = λ q. tt };
      index = record { record_is = tt; writes = tt; disk = λ q. tt };
      done = record { record_is = done_apart k y here ne; writes = tt; disk = λ q. tt };
    }

    job_later : (k : ℕ) (y : Work) → at + 1 ≤ k → work_at c f k ≡ Some y → OfJob c f (Later f x.job.slot x.slot.device) y
    job_later k y later here =
        let place = (is_work c f k y here).at_is in
        let ne : at ≢ k = λ same. let bad : ⊥ = omega (arith, later, same) in bad in
        let leaves = job_leaves c f x.slot.device y (alone_spared c f at x there alone y.at (omega (arith, later, place))) (devices_apart c f devices own at k x y there here ne) in
        record {
          begin = record { notes = slot_apart k y here ne; disk = leaves.begin };
          hook = λ which is. record { notes = tt; disk = leaves.hook which is };
          put = λ file is installs. record { notes = tt; disk = leaves.put file is installs };
          settle = record { notes = tt; disk = leaves.settle };
          index = record { notes = tt; disk = leaves.index };
          done = record { notes = done_apart k y here ne; disk = leaves.done };
        }

    three_from : (from count : ℕ) → from ≤ at → at < from + count → Three (flat_map (job_acts c f) (range_with_len from count))
    three_from from zero le lt = let none : ⊥ = omega (arith, le, lt) in absurd none
    three_from from (suc count) le lt =
        ⊎_elim here (λ later. three_before (RunsNone c f) f x.job.slot x.at x.slot.device file (job_acts c f from) _ (earlier later) (three_from (from + 1) count later (omega (arith, lt)))) (same_or_past from at le)
      where
        here : at ≡ from → Three (job_acts c f from ++ flat_map (job_acts c f) (range_with_len (from + 1) count))
        here same =
            subst (λ (n : ℕ). Three (job_acts c f n ++ flat_map (job_acts c f) (range_with_len (n + 1) count))) same
            (three_behind (RunsNone c f) f x.job.slot x.at x.slot.device file (job_acts c f at) (flat_map (job_acts c f) (range_with_len (at + 1) count)) (three_job c f x file (alone_is x alone) file_is (RunsNone c f) at there)
            (of_jobs c f (Later f x.job.slot x.slot.device) (at + 1) count (λ k y later here skipped. job_later k y later here)))

        earlier : from + 1 ≤ at → Each (OfStep (Earlier (RunsNone c f) f x.job.slot x.slot.device)) (job_acts c f from)
        earlier later = of_job c f (Earlier (RunsNone c f) f x.job.slot x.slot.device) from (λ y here skipped. job_earlier from y here (λ same. let bad : ⊥ = omega (arith, later, same) in bad))

    -- all acts
    pub in_three : InThree (RunsNone c f) f x.job.slot x.at x.slot.device file (acts_of c f)
    unfolding acts_of
    in_three =
        three_before (RunsNone c f) f x.job.slot x.at x.slot.device file (handler_acts c f handler_kind.Pre 0) _
        (of_handler c f (Earlier (RunsNone c f) f x.job.slot x.slot.device) handler_kind.Pre 0 (λ is. record { record_is = tt; writes = tt; disk = λ q. absurd (no_handler c handler_kind.Pre q.before is) }))
        (three_before (RunsNone c f) f x.job.slot x.at x.slot.device file (bad_acts (target_roots c f)) _
        (of_bads c f (Earlier (RunsNone c f) f x.job.slot x.slot.device) (target_roots c f) (each_from (λ root. Earlier (RunsNone c f) f x.job.slot x.slot.device (step.Bad root)) (target_roots c f) (λ j root is. record { record_is = tt; writes = tt; disk = λ q. tt })))
        (three_behind (RunsNone c f) f x.job.slot x.at x.slot.device file (jobs_acts c f) (last_acts c f) (three_from 0 (length f.jobs) (omega arith) (omega (arith, within_jobs c f at x there)))
        (of_last c f (Later f x.job.slot x.slot.device)
        (each_from (λ root. Later f x.job.slot x.slot.device (step.Primary root) × Later f x.job.slot x.slot.device (step.Activated root)) (target_roots c f) (λ j root is. (record { notes = tt; disk = tt }, record { notes = tt; disk = tt })))
        (of_handler c f (Later f x.job.slot x.slot.device) handler_kind.Post (length f.jobs) (λ is. record { notes = tt; disk = alone_spared c f at x there alone (length f.jobs) (within_jobs c f at x there) })))))
