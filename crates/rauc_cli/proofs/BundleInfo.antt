-- Info is carried out.
use Rattle.std.proofs.Common.{◌≡◌, ℕ, Bool, cond, List, [], Option, None, Result, Ok, Err, IsTrue, IfOk, refl, sym, ◌∙◌, ap, subst}
use Rattle.std.proofs.lemmas.List.{append-nil}
use Rattle.std.specs.List.{last_or}
use Rattle.updater_text.specs.declared.form.Form.{Form}
use Rattle.updater_text.specs.declared.stops.NoMemory.{NoMemory}
use Rattle.machine.specs.declared.stops.Fault.{Fault}
use Rattle.machine.specs.declared.stops.Stop.{Stop}
use Rattle.machine.specs.declared.stops.Stop.TheVariants as stop
use Rattle.machine.specs.declared.world.Child.{Child}
use Rattle.machine.specs.declared.world.RunNote.{RunNote}
use Rattle.machine.specs.declared.world.World.{World}
use Rattle.machine.specs.Past.{Past, Grows, moments_since, world_now}
use Rattle.machine.specs.Runs.{LeftAlone, OnlyRuns, ReadsOnce, first_failed_but, has_failed, is_run_of, runs_since, world_after_runs}
use Rattle.machine.specs.Stops.{stop_fault}
use Rattle.machine.proofs.CallsMade.{after_once, but_once, failed_after_once, once_now, runs_since_of}
use Rattle.machine.proofs.Moments.{always_now}
use Rattle.manifest.specs.Contents.{Content}
use Rattle.manifest.specs.declared.content.Manifest.{Manifest}
use Rattle.system_conf.specs.Configuration.{Configuration}
use Rattle.child_steps.specs.Bundle.{bundle_at}
use Rattle.child_steps.specs.Children.{helper_spares, umount_child}
use Rattle.child_steps.specs.Closing.{closing_by, closing_in, end_of_last, was_mounted}
use Rattle.child_steps.specs.declared.close.Closing.{Closing}
use Rattle.child_steps.specs.declared.close.Closing.TheVariants as closing
use Rattle.mark_report.specs.Opening.{TellsInfo, info_by, info_children, info_in}
use Rattle.mark_report.specs.declared.bundle_info.InfoRefusal.{InfoRefusal}
use Rattle.rauc_cli.specs.declared.outcome.Report.{Report}
use Rattle.rauc_cli.specs.Lines.{closing_warnings, fault_report, info_report}
use Rattle.rauc_cli.specs.Plans.{Plan, IsPlanned, ReportsBy, info_plan}
use Rattle.rauc_cli.specs.Ends.{Ended, SaysInfo}
use Rattle.rauc_cli.proofs.Ending.{IsQuietSince, ended_memory}

-- ---- before it began, a file was read

module _ (form : Form) (system : Configuration) (bundle path : List ℕ) (a b c : Past) (once : ReadsOnce path a b) where
  abbrev umount : Child
  umount = umount_child system

  abbrev closing_at : List RunNote → Bool → Closing
  closing_at notes failed = cond (was_mounted notes) (closing_by (end_of_last umount (last_or None notes)) failed) closing.NotMounted

  not_mounted : closing_in umount a b ≡ closing.NotMounted
  not_mounted =
      ap (λ (notes : List RunNote). closing_at notes (has_failed (is_run_of umount) (moments_since a b)))
      (runs_since_of (world_now a) (world_now b) [] (ap (λ (w : World). w.runs) (once_now path a b once) ∙ sym (append-nil (world_now a).runs)))

  pub quiet_info : IsQuietSince (info_plan form system bundle (closing_in (umount_child system) a b) (info_in system a b)) a b
  quiet_info = record {
    notes = refl;
    warnings = ap closing_warnings not_mounted;
    fault = but_once (is_run_of umount) path a b refl once;
  }

  same_closing : Grows b c → closing_in umount b c ≡ closing_in umount a c
  same_closing bc =
      ap (λ (w : World). closing_at (runs_since w (world_now c)) (has_failed (is_run_of umount) (moments_since b c))) (once_now path a b once)
      ∙ ap (λ (failed : Bool). closing_at (runs_since (world_now a) (world_now c)) failed) (sym (failed_after_once (is_run_of umount) path a b c refl once bc))

  same_answer : Grows b c → info_in system b c ≡ info_in system a c
  same_answer bc =
      ap (λ (w : World). info_by (runs_since w (world_now c)) (bundle_at system (world_after_runs 2 b c))) (once_now path a b once)
      ∙ ap (λ (w : World). info_by (runs_since (world_now a) (world_now c)) (bundle_at system w)) (sym (after_once 1 path a b c once bc))

  pub info_later : Grows b c → info_plan form system bundle (closing_in (umount_child system) b c) (info_in system b c) ≡ info_plan form system bundle (closing_in (umount_child system) a c) (info_in system a c)
  info_later bc =
      ap (λ (closed : Closing). info_plan form system bundle closed (info_in system b c)) (same_closing bc)
      ∙ ap (λ (answer : Option (Result Content InfoRefusal)). info_plan form system bundle (closing_in umount a c) answer) (same_answer bc)

-- ---- what it reports

pub says_fault : (form : Form) (kind : Fault) (closed : Closing) (result : Result Report NoMemory) → IfOk result (λ r. r ≡ fault_report [] (closing_warnings closed) kind) → SaysInfo form (Err (stop.Outside kind)) closed result
says_fault form kind closed (Ok report) is = is
says_fault form kind closed (Err memory) is = tt

module _ (t : Bool) (form : Form) (system : Configuration) (bundle : List ℕ) (a b : Past) where
  abbrev plan : Plan
  plan = info_plan form system bundle (closing_in (umount_child system) a b) (info_in system a b)

  abbrev fault : Option Fault
  fault = first_failed_but (is_run_of (umount_child system)) (moments_since a b)

  reports : (answer : Result Manifest (Stop InfoRefusal)) (closed : Closing) (report : Report) → TellsInfo (info_in system a b) answer → fault ≡ stop_fault answer → closed ≡ closing_in (umount_child system) a b → SaysInfo form answer closed (Ok report) → IsPlanned plan a b report
  reports (Ok manifest) closed report tells fails closes says =
      subst (λ (o : Option Fault). ReportsBy plan o report) (sym fails)
      (says
      ∙ sym (ap (λ (o : Option (Result Content InfoRefusal)). info_report form closed o) tells)
      ∙ ap (λ (x : Closing). info_report form x (info_in system a b)) closes)
  reports (Err (stop.Refused refusal)) closed report tells fails closes says =
      subst (λ (o : Option Fault). ReportsBy plan o report) (sym fails)
      (says
      ∙ sym (ap (λ (o : Option (Result Content InfoRefusal)). info_report form closed o) tells)
      ∙ ap (λ (x : Closing). info_report form x (info_in system a b)) closes)
  reports (Err (stop.Outside kind)) closed report tells fails closes says =
      subst (λ (o : Option Fault). ReportsBy plan o report) (sym fails)
      (says ∙ ap (λ (x : Closing). fault_report [] (closing_warnings x) kind) closes)
  reports (Err stop.NoMemory) closed report tells fails closes says = absurd says

  pub ended_info : (answer : Result Manifest (Stop InfoRefusal)) (closed : Closing) (result : Result Report NoMemory) → OnlyRuns t (helper_spares system []) (info_children system bundle) a b
      → (IsTrue t → TellsInfo (info_in system a b) answer)
      → (IsTrue t → first_failed_but (is_run_of (umount_child system)) (moments_since a b) ≡ stop_fault answer)
      → (IsTrue t → closed ≡ closing_in (umount_child system) a b)
      → SaysInfo form answer closed result → Ended t (info_plan form system bundle (closing_in (umount_child system) a b) (info_in system a b)) a b result
  ended_info answer closed (Ok report) kept tells fails closes says = record {
    on_the_way = kept.all;
    reported = λ told. reports answer closed report (tells told) (fails told) (closes told) says;
    at_the_end = λ told none. always_now a b (LeftAlone (helper_spares system []) (info_children system bundle) (world_now a)) (kept.all told);
  }
  ended_info answer closed (Err memory) kept tells fails closes says = ended_memory t plan a b memory kept.all
