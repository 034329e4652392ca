-- Status and marks are carried out.
use Rattle.std.proofs.Common.{ℕ, Bool, List, Option, Some, None, Result, Ok, Err, IsTrue, IfOk, refl}
use Rattle.updater_text.specs.declared.form.Form.{Form}
use Rattle.updater_text.specs.declared.stops.NoMemory.{NoMemory}
use Rattle.machine.specs.declared.stops.Stop.{Stop}
use Rattle.machine.specs.declared.stops.Stop.TheVariants as stop
use Rattle.machine.specs.declared.world.World.{World}
use Rattle.machine.specs.Past.{Always, Fails, Past, world_now}
use Rattle.machine.specs.Stops.{stop_fault}
use Rattle.machine.specs.World.{file}
use Rattle.machine.proofs.Moments.{always_now, always_weaker}
use Rattle.boot_backends.specs.declared.refusal.BootRefusal.{BootRefusal}
use Rattle.boot_backends.specs.Marked.{OnlyReadVars, names_of}
use Rattle.system_conf.specs.Configuration.{Configuration}
use Rattle.status_file.specs.Clock.{clock_since}
use Rattle.status_report.specs.declared.view.StatusView.{StatusView}
use Rattle.status_report.specs.Views.{TellsWorld, ViewEnds}
use Rattle.slot_marks.specs.declared.naming.Action.{Action}
use Rattle.slot_marks.specs.declared.naming.Marked.{Marked}
use Rattle.slot_marks.specs.declared.refusal.MarkRefusal.{MarkRefusal}
use Rattle.slot_marks.specs.Answers.{LeadsAt, LeadsTo, MarkAnswers, Marks, OfChosen}
use Rattle.slot_marks.specs.Noting.{new_text, noted_by}
use Rattle.rauc_cli.specs.declared.outcome.Report.{Report}
use Rattle.rauc_cli.specs.Lines.{mark_report, status_report}
use Rattle.rauc_cli.specs.Plans.{AtTheEnd, Effect, OnTheWay, Plan, mark_effect, mark_plan, marking_at, marking_with, status_plan}
use Rattle.rauc_cli.specs.Ends.{Ended, Says}
use Rattle.rauc_cli.proofs.Ending.{Meets, ended_said, quiet_report}
use Rattle.rauc_cli.proofs.Sparing.{IsMarking, not_at_all, by_commands, by_choice}

-- ---- status

module _ (t : Bool) (form : Form) (detailed : Bool) (system : Configuration) (given : Option (List ℕ)) (a b : Past) where
  abbrev telling : Plan
  telling = status_plan form detailed system given (world_now a) (world_now b)

  abbrev reads : World → Type 0
  reads = OnlyReadVars system.boot (names_of system.slots) (world_now a)

  told_so : (view : Result StatusView (Stop BootRefusal)) → Always a b reads
      → IfOk view (TellsWorld system given (world_now a)) → ViewEnds system a b view → Meets telling (AtTheEnd telling.effect (world_now a) (world_now b)) (status_report form detailed system) view
  told_so (Ok view) kept world ends = ((Ok view, (world, ends), refl), always_now a b reads kept)
  told_so (Err (stop.Refused why)) kept world ends = ((Err why, ends, refl), always_now a b reads kept)
  told_so (Err (stop.Outside kind)) kept world ends = tt
  told_so (Err stop.NoMemory) kept world ends = tt

  pub ended_status : (view : Result StatusView (Stop BootRefusal)) (result : Result Report NoMemory) → (IsTrue t → Always a b (OnlyReadVars system.boot (names_of system.slots) (world_now a)))
      → (IsTrue t → IfOk view (TellsWorld system given (world_now a))) → (IsTrue t → ViewEnds system a b view) → Fails t a b (stop_fault view) → Says (status_report form detailed system) view result
      → Ended t (status_plan form detailed system given (world_now a) (world_now b)) a b result
  ended_status view result kept world ends fails says =
      ended_said t telling (quiet_report _ _) a b (status_report form detailed system) kept view result fails (λ told. told_so view (kept told) (world told) (ends told)) says

-- ---- marks

module _ (system : Configuration) (act : Action) (a b : Past) where
  with_text : (at : ℕ) (path : List ℕ) (text : Option (List ℕ)) → LeadsTo system path at a b text → Always a b (OnTheWay (marking_with a.boot system at path text) (world_now a))
  with_text at path None same = same
  with_text at path (Some text) leads = always_weaker a b _ _ (λ u h. (leads.read, h)) leads.moments

  at_place : (noted : Option (List ℕ)) (at : ℕ) → LeadsAt system act noted a b at → Always a b (OnTheWay (marking_at a.boot system act noted (clock_since a b) (world_now a) at) (world_now a))
  at_place None at leads = always_weaker a b _ _ (λ u h. (leads.read, h)) leads.moments
  at_place (Some path) at leads = with_text at path (new_text system.slots (file (world_now a) path) at (clock_since a b)) leads

  on_the_way : (choice : Result ℕ MarkRefusal) → OfChosen choice a b (LeadsAt system act (noted_by system act) a b) → Always a b (OnTheWay (mark_effect a.boot system act choice (clock_since a b) (world_now a)) (world_now a))
  on_the_way (Ok at) leads = at_place (noted_by system act) at leads
  on_the_way (Err why) same = same

module _ (t : Bool) (system : Configuration) (act : Action) (choice : Result ℕ MarkRefusal) (a b : Past) where
  abbrev marking_plan : Plan
  marking_plan = mark_plan a.boot system act choice (clock_since a b) (world_now a) (world_now b)

  abbrev Left : World → Type 0
  Left = OnTheWay marking_plan.effect (world_now a)

  at_end : {e : Effect} → IsMarking e → OnTheWay e (world_now a) (world_now b) → AtTheEnd e (world_now a) (world_now b)
  at_end not_at_all way = way
  at_end (by_commands machine commands put) way = way

  marked_so : (marked : Result Marked (Stop MarkRefusal)) → Always a b Left → MarkAnswers system act (noted_by system act) choice (clock_since a b) (world_now a) (world_now b) marked
      → Meets marking_plan (AtTheEnd marking_plan.effect (world_now a) (world_now b)) (mark_report system.slots) marked
  marked_so (Ok marked) way answers = ((Ok marked, answers, refl), at_end (by_choice a.boot system act choice (clock_since a b) (world_now a)) (always_now a b Left way))
  marked_so (Err (stop.Refused why)) way answers = ((Err why, answers, refl), at_end (by_choice a.boot system act choice (clock_since a b) (world_now a)) (always_now a b Left way))
  marked_so (Err (stop.Outside kind)) way answers = tt
  marked_so (Err stop.NoMemory) way answers = tt

  pub ended_mark : (marked : Result Marked (Stop MarkRefusal)) (result : Result Report NoMemory) → Marks t system act (noted_by system act) choice a b marked → Says (mark_report system.slots) marked result
      → Ended t (mark_plan a.boot system act choice (clock_since a b) (world_now a) (world_now b)) a b result
  ended_mark marked result marks says =
      ended_said t marking_plan (quiet_report _ _) a b (mark_report system.slots) (λ told. on_the_way system act a b choice (marks.leads told)) marked result marks.fails
      (λ told. marked_so marked (on_the_way system act a b choice (marks.leads told)) (marks.answers told)) says
