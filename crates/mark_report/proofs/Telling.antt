-- What there is to tell of a bundle, by the calls that were made.
use Rattle.std.proofs.Common.{◌≡◌, ◌⊎◌, ◌&&◌, inl, inr, Bool, true, false, cond, List, [], ◌∷◌, ◌++◌, Option, Some, None, Result, Ok, Err, refl, sym, ◌∙◌, ap, append_assoc}
use Rattle.std.proofs.lemmas.List.{append-nil}
use Rattle.std.specs.List.{last_or}
use Rattle.keyfile.specs.Groups.{Text}
use Rattle.machine.specs.declared.stops.Fault.{Fault}
use Rattle.machine.specs.declared.stops.Fault.TheVariants as fault
use Rattle.machine.specs.declared.stops.Stop.{Stop}
use Rattle.machine.specs.declared.stops.Stop.TheVariants as stop
use Rattle.machine.specs.declared.world.Ended.{Ended}
use Rattle.machine.specs.declared.world.RunNote.{RunNote}
use Rattle.machine.specs.declared.world.World.{World}
use Rattle.machine.specs.Past.{Past, Run, Done, Broken, Grows, Moment, failed_since, first_failed, moments_since, world_now}
use Rattle.machine.specs.Runs.{RanAll, RunSince, first_failed_but, has_failed, is_run_of, runs_since, world_after_runs}
use Rattle.machine.specs.Stops.{stop_fault}
use Rattle.machine.proofs.CallsMade.{but_before, but_counted, but_joins, but_once, failed_after_once, failed_joins, made_one, no_moments, once_grows, once_now, runs_since_of, two_after, two_fine, two_grow, two_ran}
use Rattle.machine.proofs.Moments.{did_grows, grows_trans}
use Rattle.manifest.specs.Contents.{Content}
use Rattle.manifest.specs.declared.content.Manifest.{Manifest}
use Rattle.system_conf.specs.Configuration.{Configuration}
use Rattle.child_steps.specs.Bundle.{bundle_at, manifest_path}
use Rattle.child_steps.specs.Children.{check_child, mount_child, mounting, umount_child}
use Rattle.child_steps.specs.Closing.{closing_by, closing_in, end_of_last, was_mounted}
use Rattle.child_steps.specs.Mounting.{MountBroke, MountEnds, OneRun, TwoRuns, is_success, succeeded}
use Rattle.child_steps.specs.declared.bundle.BundleRefusal.{BundleRefusal}
use Rattle.child_steps.specs.declared.close.Closing.{Closing}
use Rattle.child_steps.specs.declared.close.Closing.TheVariants as closing
use Rattle.child_steps.specs.declared.refusal.MountRefusal.{MountRefusal}
use Rattle.child_steps.specs.declared.refusal.MountRefusal.TheVariants.{Untrusted, MountFailed}
use Rattle.child_steps.proofs.Unmounting.{Closed, closed_by, is_success_of, no_success, not_check, not_mount}
use Rattle.mark_report.specs.Opening.{LoadsInfo, ReadEnds, TellsInfo, bundle_info, info_by, info_in, mount_stop, mounted_info}
use Rattle.mark_report.specs.declared.bundle_info.InfoEnd.{InfoEnd}
use Rattle.mark_report.specs.declared.bundle_info.InfoRefusal.{InfoRefusal}
use Rattle.mark_report.specs.declared.bundle_info.InfoRefusal.TheVariants.{Mount, Bundle}

-- both children were run
two_notes : (c : Configuration) (bundle : Text) (ended ended' : Ended) (a b : Past) (runs : TwoRuns (check_child c bundle) (mount_child c bundle) ended ended' a b) → RunSince a b (record { child = check_child c bundle; exit = runs.one.exit } ∷ record { child = mount_child c bundle; exit = runs.two.exit } ∷ [])
two_notes c bundle ended ended' a b runs =
    two_ran a runs.between b b (Run (check_child c bundle)) (Run (mount_child c bundle)) (record { child = check_child c bundle; exit = runs.one.exit }) (record { child = mount_child c bundle; exit = runs.two.exit }) runs.one.call runs.two.call runs.one.runs runs.two.runs

pub ran_two : (c : Configuration) (bundle : Text) (ended ended' : Ended) (a b : Past) → TwoRuns (check_child c bundle) (mount_child c bundle) ended ended' a b → RanAll (mounting c bundle) a b
ran_two c bundle ended ended' a b runs = (
  record { child = check_child c bundle; exit = runs.one.exit } ∷ record { child = mount_child c bundle; exit = runs.two.exit } ∷ [],
  refl,
  two_notes c bundle ended ended' a b runs,
)

-- ---- the bundle was mounted

tells : (manifest : Result Content BundleRefusal) (expected : Option (Result Content InfoRefusal)) (r : Result Manifest (Stop InfoRefusal)) → LoadsInfo manifest r → expected ≡ Some (bundle_info manifest) → TellsInfo expected r
tells manifest expected (Ok m) loads e = e ∙ ap (λ (x : Result Content BundleRefusal). Some (bundle_info x)) loads
tells manifest expected (Err (stop.Refused (Mount refusal))) loads e = absurd loads
tells manifest expected (Err (stop.Refused (Bundle refusal))) loads e = e ∙ ap (λ (x : Result Content BundleRefusal). Some (bundle_info x)) loads
tells manifest expected (Err (stop.Outside kind)) loads e = tt
tells manifest expected (Err stop.NoMemory) loads e = tt

module _ (c : Configuration) (bundle : Text) (a m b : Past) (end : InfoEnd) (runs : TwoRuns (check_child c bundle) (mount_child c bundle) succeeded succeeded a m) (rest : ReadEnds c m b end) where
  abbrev n : RunNote
  n = record { child = check_child c bundle; exit = runs.one.exit }

  abbrev n' : RunNote
  n' = record { child = mount_child c bundle; exit = runs.two.exit }

  closed : Closed (umount_child c) rest.read b end.closing
  closed = closed_by (umount_child c) rest.read b end.closing rest.closed

  mounts : Grows a m
  mounts = two_grow a runs.between m b (Run (check_child c bundle)) (Run (mount_child c bundle)) n n' runs.one.call runs.two.call runs.one.runs runs.two.runs

  reads : Grows m rest.read
  reads = once_grows (manifest_path c) m rest.read rest.reads

  goes_on : Grows m b
  goes_on = grows_trans m rest.read b reads closed.grows

  fine : failed_since a m ≡ None
  fine = two_fine a runs.between m b (Run (check_child c bundle)) (Run (mount_child c bundle)) n n' runs.one.call runs.two.call runs.one.runs runs.two.runs

  ran : runs_since (world_now a) (world_now b) ≡ n ∷ n' ∷ closed.notes
  ran =
      runs_since_of (world_now a) (world_now b) (n ∷ n' ∷ closed.notes)
      (closed.runs
      ∙ ap (λ (w : World). w.runs ++ closed.notes) (once_now (manifest_path c) m rest.read rest.reads)
      ∙ ap (λ (rs : List RunNote). rs ++ closed.notes) (two_notes c bundle succeeded succeeded a m runs)
      ∙ append_assoc (world_now a).runs (n ∷ n' ∷ []) closed.notes)

  checked : is_success n.exit.ended ≡ true
  checked = is_success_of runs.one.exit.ended runs.one.is

  mounted : is_success n'.exit.ended ≡ true
  mounted = is_success_of runs.two.exit.ended runs.two.is

  by_few : (notes : List RunNote) (manifest : Result Content BundleRefusal) → (notes ≡ []) ⊎ ((note : RunNote) × (notes ≡ note ∷ [])) → info_by (n ∷ n' ∷ notes) manifest ≡ Some (bundle_info manifest)
  by_few notes manifest (inl e) = ap (λ (ns : List RunNote). info_by (n ∷ n' ∷ ns) manifest) e ∙ rw checked (rw mounted refl)
  by_few notes manifest (inr h) = ap (λ (ns : List RunNote). info_by (n ∷ n' ∷ ns) manifest) h.1 ∙ rw checked (rw mounted refl)

  pub opened_answers : TellsInfo (info_in c a b) end.result
  opened_answers =
      tells (bundle_at c (world_now m)) (info_in c a b) end.result rest.answer
      (ap (λ (ns : List RunNote). info_by ns (bundle_at c (world_after_runs 2 a b))) ran
      ∙ ap (λ (w : World). info_by (n ∷ n' ∷ closed.notes) (bundle_at c w)) (two_after a runs.between m b (Run (check_child c bundle)) (Run (mount_child c bundle)) n n' runs.one.call runs.two.call runs.one.runs runs.two.runs goes_on)
      ∙ by_few closed.notes (bundle_at c (world_now m)) closed.few)

  pub opened_fails : first_failed_but (is_run_of (umount_child c)) (moments_since a b) ≡ stop_fault end.result
  opened_fails =
      but_joins (is_run_of (umount_child c)) a m b mounts goes_on fine
      ∙ but_before (is_run_of (umount_child c)) m rest.read b reads closed.grows closed.none
      ∙ but_once (is_run_of (umount_child c)) (manifest_path c) m rest.read refl rest.reads
      ∙ rest.fails

  failed_then : has_failed (is_run_of (umount_child c)) (moments_since a b) ≡ has_failed (is_run_of (umount_child c)) (moments_since rest.read b)
  failed_then =
      failed_joins (is_run_of (umount_child c)) a m b mounts goes_on fine
      ∙ failed_after_once (is_run_of (umount_child c)) (manifest_path c) m rest.read b refl rest.reads closed.grows

  abbrev closing_at : List RunNote → Bool → Closing
  closing_at notes failed = cond (was_mounted notes) (closing_by (end_of_last (umount_child c) (last_or None notes)) failed) closing.NotMounted

  both : was_mounted (n ∷ n' ∷ closed.notes) ≡ true
  both = rw checked mounted

  pub opened_closes : end.closing ≡ closing_in (umount_child c) a b
  opened_closes =
      sym (
      ap (λ (ns : List RunNote). closing_at ns (has_failed (is_run_of (umount_child c)) (moments_since a b))) ran
      ∙ ap (λ (f : Bool). closing_at (n ∷ n' ∷ closed.notes) f) failed_then
      ∙ ap (λ (is : Bool). cond is (closing_by (end_of_last (umount_child c) (last_or (Some n') closed.notes)) (has_failed (is_run_of (umount_child c)) (moments_since rest.read b))) closing.NotMounted) both
      ∙ sym (closed.says n' (not_mount c bundle))
      )

-- ---- it was not

-- what is told then, and that there was no unmount
pub record Unopened (c : Configuration) (a b : Past) (why : Stop MountRefusal) : Type 0 where
  pub answers : TellsInfo (info_in c a b) (Err (mount_stop why))
  pub fails : first_failed_but (is_run_of (umount_child c)) (moments_since a b) ≡ stop_fault {T = Manifest} (Err (mount_stop why))
  pub closes : closing.NotMounted ≡ closing_in (umount_child c) a b

no_unmount : (c : Configuration) (a b : Past) (notes : List RunNote) → runs_since (world_now a) (world_now b) ≡ notes → was_mounted notes ≡ false → closing.NotMounted ≡ closing_in (umount_child c) a b
no_unmount c a b notes ran not =
    sym (ap (λ (is : Bool). cond is (closing_by (end_of_last (umount_child c) (last_or None (runs_since (world_now a) (world_now b)))) (has_failed (is_run_of (umount_child c)) (moments_since a b))) closing.NotMounted) (ap was_mounted ran ∙ not))

none_ran : (a b : Past) → (world_now b).runs ≡ (world_now a).runs → runs_since (world_now a) (world_now b) ≡ []
none_ran a b same = runs_since_of (world_now a) (world_now b) [] (same ∙ sym (append-nil (world_now a).runs))

not_so : (x y : Ended) → x ≡ y → (y ≡ succeeded → ⊥) → is_success x ≡ false
not_so x y is not = ap is_success is ∙ no_success y not

module _ (c : Configuration) (bundle : Text) (a b : Past) where
  untrusted : (ended : Ended) → OneRun (check_child c bundle) ended a b → (ended ≡ succeeded → ⊥) → Unopened c a b (stop.Refused (Untrusted ended))
  untrusted ended run not =
      let n : RunNote = record { child = check_child c bundle; exit = run.exit } in
      let ran = runs_since_of (world_now a) (world_now b) (n ∷ []) run.runs in
      record {
        answers =
            ap (λ (ns : List RunNote). info_by ns (bundle_at c (world_after_runs 2 a b))) ran
            ∙ ap (λ (is : Bool). cond is None (Some (Err (Mount (Untrusted run.exit.ended))))) (not_so run.exit.ended ended run.is not)
            ∙ ap (λ (x : Ended). Some (Err (Mount (Untrusted x)))) run.is;
        fails = but_counted (is_run_of (umount_child c)) a b (Run (check_child c bundle)) Done run.call (not_check c bundle);
        closes = no_unmount c a b (n ∷ []) ran refl;
      }

  mount_failed : (ended : Ended) → TwoRuns (check_child c bundle) (mount_child c bundle) succeeded ended a b → (ended ≡ succeeded → ⊥) → Unopened c a b (stop.Refused (MountFailed ended))
  mount_failed ended runs not =
      let n : RunNote = record { child = check_child c bundle; exit = runs.one.exit } in
      let n' : RunNote = record { child = mount_child c bundle; exit = runs.two.exit } in
      let ran = runs_since_of (world_now a) (world_now b) (n ∷ n' ∷ []) (two_notes c bundle succeeded ended a b runs) in
      let checked = is_success_of runs.one.exit.ended runs.one.is in
      let failed = not_so runs.two.exit.ended ended runs.two.is not in
      record {
        answers =
            ap (λ (ns : List RunNote). info_by ns (bundle_at c (world_after_runs 2 a b))) ran
            ∙ ap (λ (is : Bool). cond is (Some (mounted_info runs.two.exit.ended (bundle_at c (world_after_runs 2 a b)))) None) checked
            ∙ ap (λ (is : Bool). Some (cond is (bundle_info (bundle_at c (world_after_runs 2 a b))) (Err (Mount (MountFailed runs.two.exit.ended))))) failed
            ∙ ap (λ (x : Ended). Some (Err (Mount (MountFailed x)))) runs.two.is;
        fails =
            but_joins (is_run_of (umount_child c)) a runs.between b (did_grows a runs.between (Run (check_child c bundle)) Done runs.one.call) (did_grows runs.between b (Run (mount_child c bundle)) Done runs.two.call) (ap first_failed (made_one a runs.between (Run (check_child c bundle)) Done runs.one.call))
            ∙ but_counted (is_run_of (umount_child c)) runs.between b (Run (mount_child c bundle)) Done runs.two.call (not_mount c bundle);
        closes = no_unmount c a b (n ∷ n' ∷ []) ran (ap (λ (is : Bool). is && is_success runs.two.exit.ended) checked ∙ failed);
      }

  broke : (kind : Fault) → MountBroke c bundle a b → kind ≡ fault.Run → Unopened c a b (stop.Outside kind)
  broke kind (inl did) is = record {
    answers = tt;
    fails = but_counted (is_run_of (umount_child c)) a b (Run (check_child c bundle)) Broken did (not_check c bundle) ∙ ap (λ (k : Fault). Some k) (sym is);
    closes = no_unmount c a b [] (none_ran a b did.after.1) refl;
  }
  broke kind (inr h) is =
      let n : RunNote = record { child = check_child c bundle; exit = h.1.exit } in
      record {
        answers = tt;
        fails =
            but_joins (is_run_of (umount_child c)) a h.0 b (did_grows a h.0 (Run (check_child c bundle)) Done h.1.call) (did_grows h.0 b (Run (mount_child c bundle)) Broken h.2) (ap first_failed (made_one a h.0 (Run (check_child c bundle)) Done h.1.call))
            ∙ but_counted (is_run_of (umount_child c)) h.0 b (Run (mount_child c bundle)) Broken h.2 (not_mount c bundle)
            ∙ ap (λ (k : Fault). Some k) (sym is);
        closes = no_unmount c a b (n ∷ []) (runs_since_of (world_now a) (world_now b) (n ∷ []) (h.2.after.1 ∙ h.1.runs)) refl;
      }

  wanted : (b ≡ a) ⊎ OneRun (check_child c bundle) succeeded a b → Unopened c a b stop.NoMemory
  wanted (inl same) = record {
    answers = tt;
    fails = ap (λ (ms : List Moment). first_failed_but (is_run_of (umount_child c)) ms) (no_moments a b same);
    closes = no_unmount c a b [] (none_ran a b (ap (λ (p : Past). (world_now p).runs) same)) refl;
  }
  wanted (inr run) =
      let n : RunNote = record { child = check_child c bundle; exit = run.exit } in
      record {
        answers = tt;
        fails = but_counted (is_run_of (umount_child c)) a b (Run (check_child c bundle)) Done run.call (not_check c bundle);
        closes = no_unmount c a b (n ∷ []) (runs_since_of (world_now a) (world_now b) (n ∷ []) run.runs) refl;
      }

  pub unopened : (why : Stop MountRefusal) → MountEnds c bundle a b (Err why) → Unopened c a b why
  unopened (stop.Refused (Untrusted ended)) h = untrusted ended h.0 h.1
  unopened (stop.Refused (MountFailed ended)) h = mount_failed ended h.0 h.1
  unopened (stop.Outside kind) h = broke kind h.0 h.1
  unopened stop.NoMemory h = wanted h
