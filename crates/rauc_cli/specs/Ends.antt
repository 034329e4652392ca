-- How the program ends.
use Rattle.std.specs.Prelude.{◌≡◌, ◌≤◌, ◌⊎◌, ℕ, Bool, true, IsTrue, List, [], ◌++◌, ◌&&◌, Option, Some, None, Result, Ok, Err, IfOk}
use Rattle.updater_text.specs.Counts.{CountRose}
use Rattle.updater_text.specs.Sinks.{Shown, WritesBoth, WritesText}
use Rattle.updater_text.specs.declared.stops.NoMemory.{NoMemory}
use Rattle.machine.specs.declared.stops.Stop.{Stop}
use Rattle.machine.specs.declared.stops.Stop.TheVariants as stop
use Rattle.machine.specs.declared.world.World.{World}
use Rattle.machine.specs.Past.{Past, Always, Held, world_now}
use Rattle.rauc_words.specs.Table.{command_of, conf_path, slot_word}
use Rattle.rauc_words.specs.declared.asked.Asked.{Asked}
use Rattle.rauc_words.specs.declared.asked.Asked.TheVariants as asked
use Rattle.rauc_words.specs.declared.asked.Command.{Command}
use Rattle.rauc_words.specs.declared.asked.Command.TheVariants.{Install, WriteSlot, Info, Status, Mark}
use Rattle.rauc_words.specs.declared.asked.Run.{Run}
use Rattle.system_conf.specs.Configuration.{Configuration}
use Rattle.system_conf.specs.declared.slot.Slot.{Slot}
use Rattle.slot_marks.specs.declared.naming.Action.{Action}
use Rattle.slot_marks.specs.declared.naming.Marked.{Marked}
use Rattle.slot_marks.specs.Answers.{MarkedFor}
use Rattle.status_report.specs.declared.view.StatusView.{StatusView}
use Rattle.updater_text.specs.declared.form.Form.{Form}
use Rattle.manifest.specs.Contents.{Content}
use Rattle.manifest.specs.Reads.{manifest_content}
use Rattle.manifest.specs.declared.content.Manifest.{Manifest}
use Rattle.child_steps.specs.declared.close.Closing.{Closing}
use Rattle.child_steps.specs.declared.close.Closing.TheVariants as closing
use Rattle.install_facts.specs.declared.report.Note.{Note}
use Rattle.install_core.specs.Course.{Answer, IsEnd}
use Rattle.install_core.specs.CrashSafe.{IsCrashSafe}
use Rattle.install_core.specs.declared.ending.InstallEnd.{InstallEnd}
use Rattle.install_notes.specs.Lines.{note_lines}
use Rattle.mark_report.specs.declared.bundle_info.InfoRefusal.{InfoRefusal}
use Rattle.mark_report.specs.declared.bundle_info.InfoRefusal.TheVariants.{Mount, Bundle}
use Rattle.slot_writer.specs.declared.refusal.SlotWritten.{SlotWritten}
use Rattle.slot_writer.specs.Checks.{NamesSlot}
use Rattle.running_system.specs.Running.{RunningKept}
use Rattle.status_file.specs.Truth.{TruthKept}
use Rattle.rauc_cli.specs.Conf.{system_at}
use Rattle.rauc_cli.specs.declared.conf.NoSystem.{NoSystem}
use Rattle.rauc_cli.specs.declared.conf.NoSystem.TheVariants.{Missing, Bad}
use Rattle.rauc_cli.specs.declared.outcome.Outcome.{Outcome}
use Rattle.rauc_cli.specs.declared.outcome.Outcome.TheVariants as end
use Rattle.rauc_cli.specs.declared.outcome.Report.{Report}
use Rattle.rauc_cli.specs.declared.outcome.Finish.{Finish}
use Rattle.rauc_cli.specs.declared.outcome.Ran.{Ran}
use Rattle.rauc_cli.specs.Lines.{boot_refusal_report, closing_warnings, fault_report, help_report, info_refusal_report, install_report, installed_line, mark_refusal_report, marked_report, memory_after, no_system_report, outside, slot_refusal_report, told_report, usage_report, view_report, written_report}
use Rattle.rauc_cli.specs.Plans.{Effect, Front, Plan, AfterAStop, AtTheEnd, IsPlanned, OnTheWay, booted_for, fault_in, plan_of, request_of, slots_for}

-- ---- texts: told or not, a report's texts are those of its outcome

-- write-slot, by the outcome; a slot that a refusal names by its place has the name that the words give
abbrev pub SlotTexts : List ℕ → List ℕ → Outcome → Report → Type 0
SlotTexts slot image end.Done report = (written : SlotWritten) × (report ≡ written_report slot written)
SlotTexts slot image (end.Slot refusal) report = (slots : List Slot) × NamesSlot slots slot image refusal × (report ≡ slot_refusal_report slots image refusal)
SlotTexts slot image (end.Outside kind) report = report ≡ outside kind
SlotTexts slot image outcome report = ⊥

-- info, by the outcome; the bundle was mounted where its manifest was read, and not where the mount was refused
abbrev pub InfoTexts : Form → Outcome → Report → Type 0
InfoTexts form end.Done report =
    (content : Content) × (closed : Closing) × (closed ≡ closing.NotMounted → ⊥) × (report ≡ told_report form closed content)
InfoTexts form (end.Info (Mount refusal)) report = report ≡ info_refusal_report closing.NotMounted (Mount refusal)
InfoTexts form (end.Info (Bundle refusal)) report =
    (closed : Closing) × (closed ≡ closing.NotMounted → ⊥) × (report ≡ info_refusal_report closed (Bundle refusal))
InfoTexts form (end.Outside kind) report = (closed : Closing) × (report ≡ fault_report [] (closing_warnings closed) kind)
InfoTexts form outcome report = ⊥

-- status, by the outcome
abbrev pub StatusTexts : Form → Bool → Outcome → Report → Type 0
StatusTexts form detailed end.Done report = (system : Configuration) × (view : StatusView) × (report ≡ view_report form detailed system view)
StatusTexts form detailed (end.Boot why) report = report ≡ boot_refusal_report why
StatusTexts form detailed (end.Outside kind) report = report ≡ outside kind
StatusTexts form detailed outcome report = ⊥

-- a mark, by the outcome; what is marked is such a slot as the word may name, and a refusal such a one as the word may have
abbrev pub MarkTexts : Action → List ℕ → Outcome → Report → Type 0
MarkTexts act who end.Done report = (slots : List Slot) × (marked : Marked) × MarkedFor slots act who (Ok marked) × (report ≡ marked_report marked)
MarkTexts act who (end.Mark why) report = (slots : List Slot) × MarkedFor slots act who (Err (stop.Refused why)) × (report ≡ mark_refusal_report slots why)
MarkTexts act who (end.Outside kind) report = report ≡ outside kind
MarkTexts act who outcome report = ⊥

-- an install; a refusal that names a slot by its place has a name from some list of slots
pub record InstallTexts (bundle : List ℕ) (report : Report) : Type 0 where
  pub slots : List Slot
  pub answer : Answer
  pub notes : List Note
  pub end : InstallEnd
  pub line : IsEnd slots answer end
  pub is : report ≡ install_report (installed_line bundle) notes end

-- each command
abbrev pub CommandTexts : Command → Report → Type 0
CommandTexts (Install bundle ignored) report = InstallTexts bundle report
CommandTexts (WriteSlot slot image) report = SlotTexts slot image report.outcome report
CommandTexts (Info bundle form) report = InfoTexts form report.outcome report
CommandTexts (Status form detailed) report = StatusTexts form detailed report.outcome report
CommandTexts (Mark act who) report = MarkTexts act (slot_word who) report.outcome report

-- a command, or the lack of a system for it
abbrev pub RunTexts : Run → Outcome → Report → Type 0
RunTexts run end.NoConfig report = report ≡ no_system_report (conf_path run.place) Missing
RunTexts run (end.BadConfig refusal) report = report ≡ no_system_report (conf_path run.place) (Bad refusal)
RunTexts run outcome report = CommandTexts run.command report

-- what words ask for: `Help` exactly for help, and `Usage` exactly for words that ask for nothing
abbrev pub HasTexts : Option Asked → Report → Type 0
HasTexts (Some (asked.Run run)) report = RunTexts run report.outcome report
HasTexts (Some asked.Help) report = report ≡ help_report
HasTexts None report = report ≡ usage_report

-- ---- lines that are put as they come

-- those of the notes of an install
abbrev pub NoteLines : List ℕ → Type 0
NoteLines lines = (notes : List Note) × (lines ≡ note_lines notes)

-- other commands have none
abbrev pub CommandLines : Command → List ℕ → Type 0
CommandLines (Install bundle ignored) lines = NoteLines lines
CommandLines command lines = lines ≡ []

abbrev pub HasLines : Option Asked → List ℕ → Type 0
HasLines (Some (asked.Run run)) lines = CommandLines run.command lines
HasLines asked lines = lines ≡ []

-- out of memory, behind such lines
abbrev pub LacksMemory : Option Asked → Report → Type 0
LacksMemory asked report = (lines : List ℕ) × HasLines asked lines × (report ≡ memory_after lines)

-- a report with these lines in front of it
abbrev pub behind : List ℕ → Result Report NoMemory → Result Report NoMemory
behind lines (Ok report) = Ok (record report { out = lines ++ report.out })
behind lines (Err memory) = Err memory

-- ---- counts

-- counts never fall, and a fault of the outside is answered only where that of faults rose
abbrev pub OutcomeCounted : ℕ → ℕ → ℕ → ℕ → Outcome → Type 0
OutcomeCounted faults faults' wants wants' (end.Outside kind) = CountRose faults faults' × (wants ≤ wants')
OutcomeCounted faults faults' wants wants' outcome = (faults ≤ faults') × (wants ≤ wants')

-- the outcome of a call that has a report, or ran out of memory for one
abbrev pub outcome_in : Result Report NoMemory → Outcome
outcome_in (Ok report) = report.outcome
outcome_in (Err memory) = end.NoMemory

-- ---- a command

-- what is reported of a call by its answer
abbrev pub Says : {A R : Type 0} → (Result A R → Report) → Result A (Stop R) → Result Report NoMemory → Type 0
Says report_of (Ok a) (Ok report) = report ≡ report_of (Ok a)
Says report_of (Err (stop.Refused why)) (Ok report) = report ≡ report_of (Err why)
Says report_of (Err (stop.Outside kind)) (Ok report) = report ≡ outside kind
Says report_of (Err stop.NoMemory) (Ok report) = ⊥
Says report_of answer (Err memory) = Unit {0}

-- what is reported of info
abbrev pub SaysInfo : Form → Result Manifest (Stop InfoRefusal) → Closing → Result Report NoMemory → Type 0
SaysInfo form (Ok manifest) closed (Ok report) = report ≡ told_report form closed (manifest_content manifest)
SaysInfo form (Err (stop.Refused refusal)) closed (Ok report) = report ≡ info_refusal_report closed refusal
SaysInfo form (Err (stop.Outside kind)) closed (Ok report) = report ≡ fault_report [] (closing_warnings closed) kind
SaysInfo form (Err stop.NoMemory) closed (Ok report) = ⊥
SaysInfo form answer closed (Err memory) = Unit {0}

-- a plan was carried out, with this report, or memory ran out
pub record Ended (tells : Bool) (plan : Plan) (old new : Past) (result : Result Report NoMemory) : Type 0 where
  pub on_the_way : IsTrue tells → Always old new (OnTheWay plan.effect (world_now old))
  pub reported : IsTrue tells → IfOk result (IsPlanned plan old new)
  pub at_the_end : IsTrue tells → IfOk result (λ report. fault_in plan old new ≡ None → AtTheEnd plan.effect (world_now old) (world_now new))

-- it was carried out, and such lines were put on a sink: the report behind them is one of those, with such texts
pub record RunsBy (tells : Bool) (plan : Plan) (Texts : Report → Type 0) (Lines : List ℕ → Type 0) (old new : Past) (out out' : Shown) (ran : Ran) : Type 0 where
  pub lines : List ℕ
  pub are : Lines lines
  pub put : WritesText out out' lines true ran.whole
  pub ended : Ended tells plan old new (behind lines ran.report)
  pub texts : IfOk (behind lines ran.report) Texts

-- the rest of a report went to the two sinks, where what was put before it on the first is whole or not
pub record TellsRest (out err : Shown × Shown) (whole : Bool) (text_out text_err : List ℕ) (told : Bool) : Type 0 where
  pub out_whole : Bool
  pub err_whole : Bool
  pub on_out : WritesText out.0 out.1 text_out whole out_whole
  pub on_err : WritesText err.0 err.1 text_err true err_whole
  pub both : told ≡ (out_whole && err_whole)

-- ---- the program; a pair has what stands before the call and what stands after it

-- the outcome and what went to the two sinks are one report: its texts are those of its outcome, and where told it is a planned one, unless memory ran out
pub record Reports (tells : Bool) (words : List (List ℕ)) (past : Past × Past) (out err : Shown × Shown) (finish : Finish) : Type 0 where
  pub report : Report
  pub outcome : finish.outcome ≡ report.outcome
  pub put : WritesBoth out.0 out.1 err.0 err.1 report.out report.err finish.told
  pub texts : LacksMemory (command_of words) report ⊎ HasTexts (command_of words) report
  pub planned : IsTrue tells → LacksMemory (command_of words) report ⊎ IsPlanned (plan_of words past.0 past.1) past.0 past.1 report

-- where told: each world since, inside the calls too, is on the way of the plan, and where all was done the end is the plan's
pub record CarriesOut (tells : Bool) (words : List (List ℕ)) (past : Past × Past) (outcome : Outcome) : Type 0 where
  pub on_the_way : IsTrue tells → Always past.0 past.1 (OnTheWay (plan_of words past.0 past.1).effect (world_now past.0))
  pub at_the_end : IsTrue tells → outcome ≡ end.Done → AtTheEnd (plan_of words past.0 past.1).effect (world_now past.0) (world_now past.1)

-- where a slot is written: what the status file says of a slot stays true
abbrev pub TruthOf : Effect → Bool → Past → Past → Type 0
TruthOf (Front system image written) tells old new = TruthKept tells system old new
TruthOf effect tells old new = Unit {0}

-- an install, with a configuration: all that holds of it wherever the power stops
abbrev pub CommandStands : Bool → Configuration → Option (List ℕ) → Command → Past → Past → Type 0
CommandStands tells system given (Install bundle ignored) old new = IsCrashSafe tells system (request_of given bundle ignored) old new
CommandStands tells system given command old new = Unit {0}

abbrev pub SystemStands : Bool → Run → Result Configuration NoSystem → Past → Past → Type 0
SystemStands tells run (Ok system) old new = CommandStands tells system run.place.given run.command old new
SystemStands tells run (Err refusal) old new = Unit {0}

-- the same by the words, with the configuration of the start
abbrev pub AskedStands : Bool → Option Asked → Past → Past → Type 0
AskedStands tells (Some (asked.Run run)) old new = SystemStands tells run (system_at (world_now old) (conf_path run.place)) old new
AskedStands tells asks old new = Unit {0}

-- where told, and wherever the power stops: only what the plan may change has changed, what runs keeps its bytes, and an install is safe
pub record StandsAStop (tells : Bool) (words : List (List ℕ)) (past : Past × Past) : Type 0 where
  pub held : IsTrue tells → (v : World) → Held past.0 past.1 v → AfterAStop (plan_of words past.0 past.1).effect (world_now past.0) v
  pub running : RunningKept tells (slots_for (command_of words) (world_now past.0)) (booted_for (command_of words) (world_now past.0)) past.0 past.1
  pub truth : TruthOf (plan_of words past.0 past.1).effect tells past.0 past.1
  pub install : AskedStands tells (command_of words) past.0 past.1

-- told or not: `Help` comes exactly where the words ask for help, and `Usage` exactly where they ask for nothing
abbrev pub AsksFor : Option Asked → Outcome → Type 0
AsksFor (Some (asked.Run run)) end.Help = ⊥
AsksFor (Some (asked.Run run)) end.Usage = ⊥
AsksFor (Some (asked.Run run)) outcome = Unit {0}
AsksFor (Some asked.Help) outcome = (outcome ≡ end.Help) ⊎ (outcome ≡ end.NoMemory)
AsksFor None outcome = (outcome ≡ end.Usage) ⊎ (outcome ≡ end.NoMemory)

-- why the program ends so: by its words; with a fault only where one was counted; and where none was, and memory did not run out, as planned
pub record HasCause (tells : Bool) (words : List (List ℕ)) (past : Past × Past) (faults wants : ℕ × ℕ) (outcome : Outcome) : Type 0 where
  pub asked : AsksFor (command_of words) outcome
  pub counted : OutcomeCounted faults.0 faults.1 wants.0 wants.1 outcome
  pub complete : IsTrue tells → (CountRose faults.0 faults.1 → ⊥) → (outcome ≡ end.NoMemory) ⊎ ((report : Report) × (plan_of words past.0 past.1).Reports report × (outcome ≡ report.outcome))
