-- What a call of the program comes to, from its words and from the past since its start.
use Rattle.std.specs.Prelude.{◌≡◌, ◌⊎◌, ℕ, ℤ, Bool, true, false, List, [], Option, Some, None, Result, Ok, Err}
use Rattle.boot_model.specs.Vars.{Variables}
use Rattle.boot_model.specs.declared.boot_kind.BootKind.{BootKind}
use Rattle.boot_commands.specs.declared.command.Command.{Command as BootCommand}
use Rattle.boot_commands.specs.Effects.{commands_of}
use Rattle.boot_backends.specs.declared.refusal.BootRefusal.{BootRefusal}
use Rattle.boot_backends.specs.Marked.{OnlyReadVars, names_of}
use Rattle.boot_backends.specs.Through.{StoppedThrough, Through}
use Rattle.machine.specs.declared.stops.Fault.{Fault}
use Rattle.machine.specs.declared.stops.Stop.{Stop}
use Rattle.machine.specs.declared.stops.Stop.TheVariants as stop
use Rattle.machine.specs.World.{file, with_file}
use Rattle.machine.specs.declared.world.World.{World}
use Rattle.machine.specs.declared.world.Child.{Child}
use Rattle.machine.specs.declared.world.Spares.{Spares}
use Rattle.machine.specs.Past.{Call, Fails, Past, moments_since, world_now}
use Rattle.machine.specs.Runs.{LeftAlone, LeftByAStop, first_failed_but, is_run_of, runs_since}
use Rattle.machine.specs.Frames.{SameBut, Unchanged}
use Rattle.rauc_words.specs.declared.asked.Asked.{Asked}
use Rattle.rauc_words.specs.declared.asked.Asked.TheVariants as asked
use Rattle.rauc_words.specs.declared.asked.Command.{Command}
use Rattle.rauc_words.specs.declared.asked.Command.TheVariants.{Install, WriteSlot, Info, Status, Mark}
use Rattle.rauc_words.specs.declared.asked.Run.{Run}
use Rattle.rauc_words.specs.Table.{command_of, conf_path, slot_word}
use Rattle.system_conf.specs.Configuration.{Configuration}
use Rattle.system_conf.specs.declared.slot.Slot.{Slot}
use Rattle.slot_graph.specs.declared.state.Booted.{Booted}
use Rattle.slot_marks.specs.declared.naming.Action.{Action}
use Rattle.slot_marks.specs.declared.naming.Action.TheVariants as action
use Rattle.slot_marks.specs.declared.naming.Marked.{Marked}
use Rattle.slot_marks.specs.declared.refusal.MarkRefusal.{MarkRefusal}
use Rattle.slot_marks.specs.Answers.{MarkAnswers}
use Rattle.slot_marks.specs.Marking.{bootname_text, choice, mark_of}
use Rattle.slot_marks.specs.Noting.{new_text, noted_by}
use Rattle.status_file.specs.Clock.{clock_since}
use Rattle.status_report.specs.declared.view.StatusView.{StatusView}
use Rattle.status_report.specs.Views.{TellsWorld, ViewCause}
use Rattle.slot_writer.specs.declared.refusal.SlotRefusal.{SlotRefusal}
use Rattle.slot_writer.specs.declared.refusal.SlotWritten.{SlotWritten}
use Rattle.updater_text.specs.declared.form.Form.{Form}
use Rattle.child_steps.specs.Children.{helper_spares, umount_child}
use Rattle.child_steps.specs.Closing.{closing_in}
use Rattle.child_steps.specs.declared.close.Closing.{Closing}
use Rattle.install_facts.specs.declared.report.Note.{Note}
use Rattle.install_facts.specs.declared.request.Request.{Request}
use Rattle.install_core.specs.Course.{Answer, Course, IsEnd}
use Rattle.install_core.specs.Done.{DoneAtSuccess}
use Rattle.install_core.specs.Faults.{FaultTold}
use Rattle.install_core.specs.Untouched.{LeavesUntouched}
use Rattle.install_core.specs.declared.ending.InstallEnd.{InstallEnd}
use Rattle.manifest.specs.Contents.{Content}
use Rattle.mark_report.specs.declared.bundle_info.InfoRefusal.{InfoRefusal}
use Rattle.mark_report.specs.Opening.{info_children, info_in}
use Rattle.running_system.specs.Running.{what_runs}
use Rattle.slot_writer.specs.Slots.{IsPut, PutKept, PutStopped, slot_answer}
use Rattle.rauc_cli.specs.declared.conf.NoSystem.{NoSystem}
use Rattle.rauc_cli.specs.declared.outcome.Report.{Report}
use Rattle.rauc_cli.specs.Conf.{system_at}
use Rattle.rauc_cli.specs.Lines.{closing_warnings, fault_report, help_report, info_report, install_report, installed_line, mark_report, no_system_report, outside, slot_report, status_report, usage_report}

-- ---- effects: what a command may change

-- a path, and the bytes that are put there
abbrev pub Put : Type 0
Put = List ℕ × List ℕ

-- nothing
-- or the front of the device of one slot, once the status file says that an update of it has begun
-- or what these children need not leave alone
-- or nothing but that what reads the variables of this boot loader is run
-- or the variables of the machine's boot loader, by these commands, whatever was read before; and this file, where one is put
-- or what an install changes, of which its course tells
pub data Effect : Type 0 where
  Nothing : Effect
  Front : (system : Configuration) (image : List ℕ) (written : SlotWritten) → Effect
  Children : (spares : Spares) (children : List Child) → Effect
  Reading : (boot : BootKind) (names : List (List ℕ)) → Effect
  Marking : (machine : BootKind) (commands : Variables → List BootCommand) (put : Option Put) → Effect
  Installing : Effect

-- from the world w, or, where a file is put, from w with that file
abbrev pub From : Option Put → World → (World → Type 0) → Type 0
From None w P = P w
From (Some put) w P = P w ⊎ P (with_file w put.0 put.1)

-- each world u on the way, inside the calls too
abbrev pub OnTheWay : Effect → World → World → Type 0
OnTheWay Nothing w u = u ≡ w
OnTheWay (Front system image written) w u = PutKept system (Ok written) w u
OnTheWay (Children spares children) w u = LeftAlone spares children w u
OnTheWay (Reading boot names) w u = OnlyReadVars boot names w u
OnTheWay (Marking machine commands put) w u = (read : Variables) × From put w (λ x. Through machine (commands read) x u)
OnTheWay Installing w u = Unit {0}

-- the world v at the end, where all was done
abbrev pub AtTheEnd : Effect → World → World → Type 0
AtTheEnd Nothing w v = v ≡ w
AtTheEnd (Front system image written) w v = IsPut system image written w v
AtTheEnd (Children spares children) w v = LeftAlone spares children w v
AtTheEnd (Reading boot names) w v = OnlyReadVars boot names w v
AtTheEnd (Marking machine commands put) w v = (read : Variables) × From put w (λ x. Through machine (commands read) x v)
AtTheEnd Installing w v = Unit {0}

-- the world v that a stop of the power may leave
abbrev pub AfterAStop : Effect → World → World → Type 0
AfterAStop Nothing w v = SameBut (λ path i. ⊥) w v
AfterAStop (Front system image written) w v = PutStopped system (Ok written) w v
AfterAStop (Children spares children) w v = LeftByAStop spares children w v
AfterAStop (Reading boot names) w v = (u : World) × OnlyReadVars boot names w u × SameBut (λ path i. ⊥) u v
AfterAStop (Marking machine commands put) w v = (read : Variables) × From put w (λ x. StoppedThrough machine (commands read) x v)
AfterAStop Installing w v = Unit {0}

-- ---- plans: what is reported, and what may be changed

-- what may be reported where no call failed; the lines on out and the warnings on err that stand also where one did; the calls whose failure changes none of that; and what may be changed
pub record Plan : Type 1 where
  pub Reports : Report → Type 0
  pub notes : List ℕ
  pub warnings : List ℕ
  pub passes : Call → Bool
  pub effect : Effect

-- to report such a thing, with no lines beside it, and each call that fails counts
abbrev pub to_report_by : (Report → Type 0) → Effect → Plan
to_report_by reports effect = record { Reports = reports; notes = []; warnings = []; passes = λ call. false; effect = effect }

-- to report just this
abbrev pub to_report : Report → Effect → Plan
to_report report effect = to_report_by (λ r. r ≡ report) effect

-- the kind of the first call since old that failed, but for those that are passed over
abbrev pub fault_in : Plan → Past → Past → Option Fault
fault_in plan old new = first_failed_but plan.passes (moments_since old new)

-- the report is one of those, or that of the first call that failed
abbrev pub ReportsBy : Plan → Option Fault → Report → Type 0
ReportsBy plan None report = plan.Reports report
ReportsBy plan (Some kind) report = report ≡ fault_report plan.notes plan.warnings kind

-- the same by the past since old
abbrev pub IsPlanned : Plan → Past → Past → Report → Type 0
IsPlanned plan old new report = ReportsBy plan (fault_in plan old new) report

-- ---- the plan of each command

-- write-slot, by its answer
abbrev pub slot_plan : Configuration → List ℕ → List ℕ → Result SlotWritten SlotRefusal → Plan
slot_plan system slot image (Ok written) = to_report (slot_report system.slots slot image (Ok written)) (Front system image written)
slot_plan system slot image (Err refusal) = to_report (slot_report system.slots slot image (Err refusal)) Nothing

-- info, by what came of the unmount and by its answer; an unmount that failed is a warning, and no fault
abbrev pub info_plan : Form → Configuration → List ℕ → Closing → Option (Result Content InfoRefusal) → Plan
info_plan form system bundle closed answer = record {
  Reports = λ r. r ≡ info_report form closed answer;
  notes = [];
  warnings = closing_warnings closed;
  passes = is_run_of (umount_child system);
  effect = Children (helper_spares system []) (info_children system bundle);
}

-- status: the view, by the world and by what the programs printed, or why one of them did not serve
abbrev pub StatusAnswers : Configuration → Option (List ℕ) → World → World → Result StatusView BootRefusal → Type 0
StatusAnswers system given w v (Ok view) = TellsWorld system given w view × ViewCause system (runs_since w v) (Ok view)
StatusAnswers system given w v (Err why) = ViewCause system (runs_since w v) (Err (stop.Refused why))

abbrev pub status_plan : Form → Bool → Configuration → Option (List ℕ) → World → World → Plan
status_plan form detailed system given w v =
    to_report_by (λ r. (answer : Result StatusView BootRefusal) × StatusAnswers system given w v answer × (r ≡ status_report form detailed system answer))
    (Reading system.boot (names_of system.slots))

-- an answer, as a call gives it that no fault stopped
abbrev pub answered : {A R : Type 0} → Result A R → Result A (Stop R)
answered (Ok a) = Ok a
answered (Err why) = Err (stop.Refused why)

-- what a mark of the slot at a place may change, with the new text of the status file, where one is written
abbrev pub marking : BootKind → Configuration → Action → ℕ → Option Put → Effect
marking machine system act at put = Marking machine (commands_of system.boot (names_of system.slots) (mark_of act) (bootname_text system.slots at)) put

-- nothing, where there is no new text
abbrev pub marking_with : BootKind → Configuration → ℕ → List ℕ → Option (List ℕ) → Effect
marking_with machine system at path None = Nothing
marking_with machine system at path (Some text) = marking machine system action.Active at (Some (path, text))

-- by the status file that is written, where there is one, and by what the clock said
abbrev pub marking_at : BootKind → Configuration → Action → Option (List ℕ) → Option ℤ → World → ℕ → Effect
marking_at machine system act None clock w at = marking machine system act at None
marking_at machine system act (Some path) clock w at =
    marking_with machine system at path (new_text system.slots (file w path) at clock)

-- by the slot that is chosen, where one is
abbrev pub mark_effect : BootKind → Configuration → Action → Result ℕ MarkRefusal → Option ℤ → World → Effect
mark_effect machine system act (Ok at) clock w = marking_at machine system act (noted_by system act) clock w at
mark_effect machine system act (Err why) clock w = Nothing

-- a mark, by the slot that is chosen, by what the clock said, and by the runs
abbrev pub mark_plan : BootKind → Configuration → Action → Result ℕ MarkRefusal → Option ℤ → World → World → Plan
mark_plan machine system act choice clock w v =
    to_report_by (λ r. (answer : Result Marked MarkRefusal) × MarkAnswers system act (noted_by system act) choice clock w v (answered answer) × (r ≡ mark_report system.slots answer))
    (mark_effect machine system act choice clock w)

-- an install since old ended so, with these notes: its course, and what `install` says beside it
pub record InstallEnds (c : Configuration) (r : Request) (old new : Past) (notes : List Note) (end : InstallEnd) : Type 0 where
  pub answer : Answer
  pub course : Course true c r old new answer end.closing end.book_unread notes
  pub is : IsEnd c.slots answer end
  pub done : DoneAtSuccess true c r old end
  pub untouched : LeavesUntouched true c r old new end
  pub fails : FaultTold true old new end

-- the configuration was read; then came an install that ended so, and this is reported of it
pub record InstallReported (c : Configuration) (r : Request) (old new : Past) (report : Report) : Type 0 where
  pub loaded : Past
  pub unchanged : Unchanged true old loaded
  pub fine : Fails true old loaded None
  pub notes : List Note
  pub end : InstallEnd
  pub ends : InstallEnds c r loaded new notes end
  pub is : report ≡ install_report (installed_line r.bundle) notes end

-- or a call failed before that, which changed nothing
pub record NotBegun (old new : Past) (report : Report) : Type 0 where
  pub kind : Fault
  pub unchanged : Unchanged true old new
  pub fails : Fails true old new (Some kind)
  pub is : report ≡ outside kind

-- an install, which tells itself of the calls that failed
abbrev pub install_plan : Configuration → Request → Past → Past → Plan
install_plan c r old new = record {
  Reports = λ report. InstallReported c r old new report ⊎ NotBegun old new report;
  notes = [];
  warnings = [];
  passes = λ call. true;
  effect = Installing;
}

-- what the words ask an install for
abbrev pub request_of : Option (List ℕ) → List ℕ → Bool → Request
request_of given bundle ignored = record { bundle = bundle; given_boot = given; ignore_compatible = ignored }

-- each command, with its configuration and the name that counts as booted, where one is given
abbrev pub command_plan : Past → Past → Configuration → Option (List ℕ) → Command → Plan
command_plan old new system given (Install bundle ignored) = install_plan system (request_of given bundle ignored) old new
command_plan old new system given (WriteSlot slot image) =
    slot_plan system slot image (slot_answer system given slot image (world_now old))
command_plan old new system given (Info bundle form) =
    info_plan form system bundle (closing_in (umount_child system) old new) (info_in system old new)
command_plan old new system given (Status form detailed) = status_plan form detailed system given (world_now old) (world_now new)
command_plan old new system given (Mark act who) =
    mark_plan old.boot system act (choice system.slots given (slot_word who) (world_now old)) (clock_since old new) (world_now old) (world_now new)

-- a command, where its configuration can be had
abbrev pub system_plan : Past → Past → Run → Result Configuration NoSystem → Plan
system_plan old new run (Ok system) = command_plan old new system run.place.given run.command
system_plan old new run (Err refusal) = to_report (no_system_report (conf_path run.place) refusal) Nothing

abbrev pub asked_plan : Past → Past → Option Asked → Plan
asked_plan old new None = to_report usage_report Nothing
asked_plan old new (Some asked.Help) = to_report help_report Nothing
asked_plan old new (Some (asked.Run run)) = system_plan old new run (system_at (world_now old) (conf_path run.place))

-- what words come to
abbrev pub plan_of : List (List ℕ) → Past → Past → Plan
plan_of words old new = asked_plan old new (command_of words)

-- ---- what runs

abbrev pub slots_by : Result Configuration NoSystem → List Slot
slots_by (Ok system) = system.slots
slots_by (Err refusal) = []

-- the slots of the configuration that words name: none where there is none, or it is refused
abbrev pub slots_for : Option Asked → World → List Slot
slots_for (Some (asked.Run run)) w = slots_by (system_at w (conf_path run.place))
slots_for (Some asked.Help) w = []
slots_for None w = []

-- the name that counts as booted, where words give one
abbrev pub given_by : Option Asked → Option (List ℕ)
given_by (Some (asked.Run run)) = run.place.given
given_by (Some asked.Help) = None
given_by None = None

-- what is booted in a world, as far as words name a configuration
abbrev pub booted_for : Option Asked → World → Booted
booted_for asked w = what_runs (slots_for asked w) (given_by asked) w
