-- What is put on standard output and standard error, and the exit status.
use Rattle.std.specs.Prelude.{ℕ, Bool, true, false, List, [], ◌++◌, codes, decimal, unwrap_or, Option, Some, None, Result, Ok, Err}
use Rattle.std.specs.Option.{option_map_or}
use Rattle.hex.specs.Hex.{encode_lower}
use Rattle.machine.specs.declared.stops.Fault.{Fault}
use Rattle.machine.specs.declared.stops.Stop.{Stop}
use Rattle.machine.specs.declared.stops.Stop.TheVariants as stop
use Rattle.machine.specs.Faults.{fault_cause}
use Rattle.keyfile.specs.Causes.{key_cause}
use Rattle.updater_text.specs.declared.form.Form.{Form}
use Rattle.manifest.specs.Contents.{Content}
use Rattle.child_steps.specs.Causes.{closing_cause}
use Rattle.child_steps.specs.declared.close.Closing.{Closing}
use Rattle.mark_report.specs.Causes.{info_cause}
use Rattle.mark_report.specs.Info.{info_text}
use Rattle.mark_report.specs.declared.bundle_info.InfoRefusal.{InfoRefusal}
use Rattle.rauc_cli.specs.declared.conf.BadConf.{BadConf}
use Rattle.rauc_cli.specs.declared.conf.BadConf.TheVariants as bad
use Rattle.rauc_cli.specs.declared.conf.NoSystem.{NoSystem}
use Rattle.rauc_cli.specs.declared.conf.NoSystem.TheVariants.{Missing, Bad}
use Rattle.install_facts.specs.declared.refusal.InstallRefusal.{InstallRefusal}
use Rattle.install_facts.specs.declared.report.Note.{Note}
use Rattle.install_steps.specs.declared.running.Installed.{Installed}
use Rattle.install_core.specs.declared.ending.InstallEnd.{InstallEnd}
use Rattle.install_notes.specs.Lines.{note_lines}
use Rattle.system_conf.specs.Causes.{conf_cause}
use Rattle.slot_writer.specs.declared.refusal.SlotRefusal.{SlotRefusal}
use Rattle.slot_writer.specs.Causes.{slot_cause}
use Rattle.slot_writer.specs.declared.refusal.SlotWritten.{SlotWritten}
use Rattle.boot_backends.specs.declared.refusal.BootRefusal.{BootRefusal}
use Rattle.report_lines.specs.Lines.{text_if}
use Rattle.boot_backends.specs.Words.{boot_cause}
use Rattle.slot_marks.specs.Causes.{mark_cause}
use Rattle.slot_marks.specs.declared.naming.Marked.{Marked}
use Rattle.slot_marks.specs.declared.refusal.MarkRefusal.{MarkRefusal}
use Rattle.status_report.specs.Texts.{status_text}
use Rattle.status_report.specs.declared.view.StatusView.{StatusView}
use Rattle.system_conf.specs.Configuration.{Configuration}
use Rattle.system_conf.specs.declared.slot.Slot.{Slot}
use Rattle.rauc_cli.specs.declared.outcome.Outcome.{Outcome}
use Rattle.rauc_cli.specs.declared.outcome.Outcome.TheVariants as end
use Rattle.rauc_cli.specs.declared.outcome.Report.{Report}

-- the exit status: 0 done or help, 1 refused, 2 a fault of the outside or not all told, 3 out of memory
abbrev pub status_of : Outcome → Bool → ℕ
status_of outcome false = 2
status_of end.Done true = 0
status_of end.Help true = 0
status_of (end.Outside kind) true = 2
status_of end.NoMemory true = 3
status_of outcome true = 1

-- the line of a slot that was written
abbrev pub written_head : List ℕ → ℕ → List ℕ
written_head slot size = codes "slot " ++ (slot ++ (codes " written: " ++ (decimal size ++ codes " bytes, sha256 ")))

abbrev pub written_line : List ℕ → ℕ → List ℕ → List ℕ
written_line slot size digest = written_head slot size ++ encode_lower digest ++ codes "\n"

-- the warning of a status file that cannot be read
abbrev pub unread_warning : Bool → List ℕ
unread_warning unread = text_if unread (codes "warning: status file unreadable\n")

-- the report of a slot that was written
abbrev pub written_report : List ℕ → SlotWritten → Report
written_report slot written = record { outcome = end.Done; out = written_line slot written.size written.digest.0; err = unread_warning written.book_unread }

-- why a configuration is refused
abbrev pub bad_conf_cause : BadConf → List ℕ
bad_conf_cause (bad.Key fault) = key_cause fault
bad_conf_cause (bad.Conf refusal) = conf_cause refusal

-- why there is no system, from the path of its configuration
abbrev pub system_cause : List ℕ → NoSystem → List ℕ
system_cause path Missing = codes "no configuration " ++ path
system_cause path (Bad refusal) = codes "configuration: " ++ bad_conf_cause refusal

-- one line on standard error
abbrev pub error_line : List ℕ → List ℕ
error_line cause = codes "rauc: " ++ (cause ++ codes "\n")

-- the report of one such line, and nothing else
abbrev pub error_report : Outcome → List ℕ → Report
error_report outcome cause = record { outcome = outcome; out = []; err = error_line cause }

-- the report of help
abbrev pub help_report : Report
help_report = record { outcome = end.Help; out = codes "usage: rauc [-c FILE] [--override-boot-slot=NAME] COMMAND\ncommands: install BUNDLE, info BUNDLE, status [ACTION [SLOT]], write-slot SLOT IMAGE, service\n"; err = [] }

-- words that are no command
abbrev pub usage_report : Report
usage_report = error_report end.Usage (codes "bad usage, see rauc --help")

-- the report of a machine call that failed, after lines on standard output and warnings on standard error
abbrev pub fault_report : List ℕ → List ℕ → Fault → Report
fault_report notes warnings kind = record { outcome = end.Outside kind; out = notes; err = warnings ++ error_line (fault_cause kind) }

abbrev pub outside : Fault → Report
outside kind = fault_report [] [] kind

-- out of memory, after these lines on standard output
abbrev pub memory_after : List ℕ → Report
memory_after lines = record { outcome = end.NoMemory; out = lines; err = error_line (codes "out of memory") }

abbrev pub memory_report : Report
memory_report = memory_after []

-- ---- info

-- the warning of a bundle that was not unmounted
abbrev pub warning_line : List ℕ → List ℕ
warning_line why = codes "warning: bundle not unmounted: " ++ (why ++ codes "\n")

-- none where it was, or was never mounted
abbrev pub closing_warnings : Closing → List ℕ
closing_warnings closed = option_map_or warning_line (closing_cause closed) []

-- the report of what the manifest of a bundle says
abbrev pub told_report : Form → Closing → Content → Report
told_report form closed content = record { outcome = end.Done; out = info_text form content; err = closing_warnings closed }

-- the report of a bundle that is refused
abbrev pub info_refusal_report : Closing → InfoRefusal → Report
info_refusal_report closed refusal = record { outcome = end.Info refusal; out = []; err = closing_warnings closed ++ error_line (info_cause refusal) }

-- the report of what there is to tell; there is none where memory ran out
abbrev pub info_report : Form → Closing → Option (Result Content InfoRefusal) → Report
info_report form closed None = memory_report
info_report form closed (Some (Ok content)) = told_report form closed content
info_report form closed (Some (Err refusal)) = info_refusal_report closed refusal

-- ---- the configuration, and write-slot

-- no system to work on
abbrev pub system_outcome : NoSystem → Outcome
system_outcome Missing = end.NoConfig
system_outcome (Bad refusal) = end.BadConfig refusal

abbrev pub no_system_report : List ℕ → NoSystem → Report
no_system_report path refusal = error_report (system_outcome refusal) (system_cause path refusal)

-- a slot that is not written
abbrev pub slot_refusal_report : List Slot → List ℕ → SlotRefusal → Report
slot_refusal_report slots image refusal = error_report (end.Slot refusal) (slot_cause slots image refusal)

-- what came of write-slot
abbrev pub slot_report : List Slot → List ℕ → List ℕ → Result SlotWritten SlotRefusal → Report
slot_report slots slot image (Ok written) = written_report slot written
slot_report slots slot image (Err refusal) = slot_refusal_report slots image refusal

-- ---- status, and marks

-- what is told of the slots
abbrev pub view_report : Form → Bool → Configuration → StatusView → Report
view_report form detailed system view = record { outcome = end.Done; out = status_text system view form detailed; err = unread_warning view.book_unread }

-- the programs of the boot loader did not tell
abbrev pub boot_refusal_report : BootRefusal → Report
boot_refusal_report why = error_report (end.Boot why) (boot_cause why)

abbrev pub status_report : Form → Bool → Configuration → Result StatusView BootRefusal → Report
status_report form detailed system (Ok view) = view_report form detailed system view
status_report form detailed system (Err why) = boot_refusal_report why

-- a slot was marked
abbrev pub marked_report : Marked → Report
marked_report marked = record { outcome = end.Done; out = marked.line ++ codes "\n"; err = unread_warning marked.book_unread }

-- or was not
abbrev pub mark_refusal_report : List Slot → MarkRefusal → Report
mark_refusal_report slots why = error_report (end.Mark why) (mark_cause slots why)

abbrev pub mark_report : List Slot → Result Marked MarkRefusal → Report
mark_report slots (Ok marked) = marked_report marked
mark_report slots (Err why) = mark_refusal_report slots why

-- ---- an install

-- the last line of an install that is done
abbrev pub installed_line : List ℕ → List ℕ
installed_line bundle = codes "Installing " ++ (bundle ++ codes " succeeded\n")

-- the warnings of an install
abbrev pub install_warnings : Bool → Closing → List ℕ
install_warnings unread closed = unread_warning unread ++ closing_warnings closed

-- an install that is done, which put these notes
abbrev pub installed_report : List ℕ → List Note → List ℕ → Report
installed_report last notes warnings = record { outcome = end.Done; out = note_lines notes ++ last; err = warnings }

abbrev pub stop_outcome : Stop InstallRefusal → Outcome
stop_outcome (stop.Refused why) = end.Install why
stop_outcome (stop.Outside kind) = end.Outside kind
stop_outcome stop.NoMemory = end.NoMemory

-- the line of a stop; where there is none, memory was out
abbrev pub stop_line : Option (List ℕ) → List ℕ
stop_line line = error_line (unwrap_or line (codes "out of memory"))

-- an install that stopped
abbrev pub stopped_report : List Note → List ℕ → Stop InstallRefusal → Option (List ℕ) → Report
stopped_report notes warnings stop line = record { outcome = stop_outcome stop; out = note_lines notes; err = warnings ++ stop_line line }

abbrev pub report_by : List ℕ → List Note → List ℕ → Option (List ℕ) → Result Installed (Stop InstallRefusal) → Report
report_by last notes warnings line (Ok installed) = installed_report last notes warnings
report_by last notes warnings line (Err stop) = stopped_report notes warnings stop line

-- what is reported of an install, with its last line and its notes
abbrev pub install_report : List ℕ → List Note → InstallEnd → Report
install_report last notes end = report_by last notes (install_warnings end.book_unread end.closing) end.line end.result
