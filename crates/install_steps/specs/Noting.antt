-- What the status file notes of an install.
use Rattle.std.specs.Prelude.{◌≡◌, ◌<◌, ◌⊎◌, ℕ, ℤ, Bool, IsTrue, List, length, Option, Some, None, Result, Err, OnOk, ⊤}
use Rattle.machine.specs.Past.{Always, Fails, Past, world_now}
use Rattle.machine.specs.Stops.{stop_fault}
use Rattle.machine.specs.declared.stops.Stop.{Stop}
use Rattle.slot_status.specs.Records.{RecordContent}
use Rattle.slot_status.specs.Refusals.{activate_refusal, finish_refusal}
use Rattle.system_conf.specs.Configuration.{Configuration}
use Rattle.install_facts.specs.Facts.{FactsContent}
use Rattle.install_facts.specs.declared.refusal.InstallRefusal.{InstallRefusal}
use Rattle.install_steps.specs.Steps.{BookReads, EitherOf, with_book}
use Rattle.install_facts.specs.Facts.{facts_content}
use Rattle.install_facts.specs.declared.facts.Facts.{Facts}
use Rattle.install_facts.specs.declared.refusal.InstallRefusal.TheVariants.{Status}
use Rattle.machine.specs.declared.stops.Stop.TheVariants.{Refused, NoMemory}
use Rattle.slot_status.specs.declared.refusal.StatusRefusal.{StatusRefusal}
use Rattle.updater_text.specs.declared.stops.Lack.{Lack}
use Rattle.updater_text.specs.declared.stops.Lack.TheVariants as lack
use Rattle.install_steps.specs.Steps.{changed, slot_at}
use Rattle.install_plan.specs.declared.step.Step.{Step}
use Rattle.install_plan.specs.declared.step.Step.TheVariants as step

-- nothing is refused
abbrev pub NotRefused : {T : Type 0} → Result T (Stop InstallRefusal) → Type 0
NotRefused (Err (Refused why)) = ⊥
NotRefused result = Unit {0}

abbrev pub status_stop : Lack StatusRefusal → Stop InstallRefusal
status_stop (lack.Refused why) = Refused (Status why)
status_stop lack.NoMemory = NoMemory

-- the record of a slot can note this at this time
abbrev pub CanFinish : List RecordContent → Option ℕ → ℤ → Type 0
CanFinish book None seconds = ⊥
CanFinish book (Some slot) seconds = (slot < length book) × (finish_refusal book slot seconds ≡ None)

abbrev pub CanNoteAt : FactsContent → Step → ℤ → Type 0
CanNoteAt f (step.Begin slot) seconds = slot < length f.book
CanNoteAt f (step.Done job) seconds = CanFinish f.book (slot_at f job) seconds
CanNoteAt f (step.Activated root) seconds = (root < length f.book) × (activate_refusal f.book root seconds ≡ None)
CanNoteAt f other seconds = Unit {0}

-- the book of these facts can note a step, at the time that was asked
abbrev pub CanNote : FactsContent → Step → Type 0
CanNote f s = (seconds : ℤ) → f.now ≡ Some seconds → CanNoteAt f s seconds

-- the facts are the same but for the book, which notes the step
pub record ChangesBook (s : Step) (old new : Facts) : Type 0 where
  pub is : facts_content new ≡ record (facts_content old) { book = changed (facts_content old) s old.book }

-- where told: the status file is the one before or has the text of this book, and it has that where it is done; the text is read again as this book, or nothing was done
pub record NotesBook (tells : Bool) (c : Configuration) (book : List RecordContent) (old new : Past) (result : Result ⊤ (Stop InstallRefusal)) : Type 0 where
  pub moments : IsTrue tells → Always old new (EitherOf (world_now old) (with_book c book (world_now old)))
  pub after : IsTrue tells → OnOk result (world_now new ≡ with_book c book (world_now old))
  pub reads : BookReads c book ⊎ (IsTrue tells → new ≡ old)
  pub reads_done : OnOk result (BookReads c book)
  pub fails : Fails tells old new (stop_fault result)
