-- How far the steps of an install came, and why they stopped.
use Rattle.std.specs.Prelude.{◌≡◌, ◌≤◌, ◌++◌, Bool, IsTrue, List, [], ◌∷◌, length, Option, Result, Ok, Err, OnErr, OnOk, ⊤}
use Rattle.machine.specs.Past.{Fails, Past, world_now}
use Rattle.machine.specs.Stops.{stop_fault}
use Rattle.machine.specs.declared.stops.Stop.{Stop}
use Rattle.raw_writer.specs.declared.put.Written.{Written}
use Rattle.slot_status.specs.Changes.{changed_at}
use Rattle.system_conf.specs.Configuration.{Configuration}
use Rattle.updater_text.specs.Sinks.{Shown}
use Rattle.install_facts.specs.Facts.{FactsContent}
use Rattle.install_facts.specs.Notes.{AddsNotes}
use Rattle.install_facts.specs.declared.refusal.InstallRefusal.{InstallRefusal}
use Rattle.install_facts.specs.declared.report.Note.{Note}
use Rattle.install_plan.specs.Acts.{notes_in, steps_in}
use Rattle.install_steps.specs.Causes.{StepCause}
use Rattle.install_steps.specs.Doing.{CanDo, DoesStep, StepFits, written_by}
use Rattle.install_steps.specs.Steps.{Begun, Run, book_after, changed}
use Rattle.install_steps.specs.declared.running.JobEnd.{JobEnd}
use Rattle.install_plan.specs.declared.step.Act.{Act}
use Rattle.install_plan.specs.declared.step.Act.TheVariants.{Do, Tell}
use Rattle.install_plan.specs.declared.step.Step.{Step}
use Rattle.install_plan.specs.declared.step.Step.TheVariants as step

-- ---- what was done with the images

-- how an image was put is noted at its job
abbrev pub with_written : Step → Option Written → List JobEnd → List JobEnd
with_written (step.Put job put) written ends = changed_at job (λ e. record e { written = written }) ends
with_written other written ends = ends

-- after steps
abbrev pub ends_after : List Step → List JobEnd → List JobEnd
ends_after [] ends = ends
ends_after (s ∷ steps) ends = ends_after steps (with_written s (written_by s) ends)

-- ---- what has to hold before the first step

-- the facts with the book after a step
abbrev pub facts_after : FactsContent → Step → FactsContent
facts_after f s = record f { book = changed f s f.book }

-- each step can be done after those before it
abbrev pub CanDoAll : Configuration → FactsContent → List Step → Type 0
CanDoAll c f [] = Unit {0}
CanDoAll c f (s ∷ steps) = CanDo c f s × CanDoAll c (facts_after f s) steps

-- and it fits, however the others leave its image and its device
pub record FitsAll (tells : Bool) (past : Past) (steps : List Step) : Type 0 where
  pub each : (before after : List Step) (s : Step) → steps ≡ before ++ s ∷ after → StepFits tells past s

-- ---- one act

-- a step can be done and fits; a note is as short as a report takes it
abbrev pub CanAct : Bool → Configuration → FactsContent → Past → Act → Type 0
CanAct tells c f past (Do s) = CanDo c f s × StepFits tells past s
CanAct tells c f past (Tell n) = length n.text ≤ 279

-- a step is done, or stops; where it is done, the facts have its book, and an image that it put is noted at its job; no note is told
pub record DoesNoted (tells : Bool) (c : Configuration) (f : FactsContent × FactsContent) (s : Step) (past : Past × Past) (ends : List JobEnd × List JobEnd) (stood stands : Shown → List Note → Type 0) (result : Result ⊤ (Stop InstallRefusal)) : Type 0 where
  pub does : DoesStep tells c f.0 s past.0 past.1 result
  pub facts : OnOk result (f.1 ≡ facts_after f.0 s)
  pub ends_are : OnOk result (ends.1 ≡ with_written s (written_by s) ends.0)
  pub ends_stay : OnErr result (ends.1 ≡ ends.0)
  pub notes : AddsNotes stood stands []

-- a note is told, and nothing else changes
pub record TellsNote (f : FactsContent × FactsContent) (n : Note) (past : Past × Past) (ends : List JobEnd × List JobEnd) (stood stands : Shown → List Note → Type 0) (result : Result ⊤ (Stop InstallRefusal)) : Type 0 where
  pub done : result ≡ Ok tt
  pub past_is : past.1 ≡ past.0
  pub facts : f.1 ≡ f.0
  pub ends_are : ends.1 ≡ ends.0
  pub notes : AddsNotes stood stands (n ∷ [])

-- what an act comes to
abbrev pub DoesAct : Bool → Configuration → FactsContent × FactsContent → Act → Past × Past → List JobEnd × List JobEnd → (Shown → List Note → Type 0) → (Shown → List Note → Type 0) → Result ⊤ (Stop InstallRefusal) → Type 0
DoesAct tells c f (Do s) past ends stood stands result = DoesNoted tells c f s past ends stood stands result
DoesAct tells c f (Tell n) past ends stood stands result = TellsNote f n past ends stood stands result

-- ---- how far they came

-- why the steps stopped: at one that was begun, after all those before it
pub record StoppedAt (tells : Bool) (c : Configuration) (f : FactsContent) (done rest : List Act) (s z : Past) (stop : Stop InstallRefusal) : Type 0 where
  pub at : Step
  pub later : List Act
  pub order : rest ≡ Do at ∷ later
  pub begun : IsTrue tells → Begun c f (book_after f (steps_in done) f.book) at s z
  pub cause : IsTrue tells → StepCause c f at (world_now s) (world_now z) stop

-- all acts were done, or a step stopped
abbrev pub ComesTo : Bool → Configuration → FactsContent → List Act → List Act → Past → Past → Result ⊤ (Stop InstallRefusal) → Type 0
ComesTo tells c f done rest s z (Ok x) = (rest ≡ []) × (IsTrue tells → z ≡ s)
ComesTo tells c f done rest s z (Err stop) = StoppedAt tells c f done rest s z stop

-- the acts that were done, in order, and what came after them
pub record Progress (tells : Bool) (c : Configuration) (f : FactsContent) (acts : List Act) (old new : Past) (result : Result ⊤ (Stop InstallRefusal)) : Type 0 where
  pub done : List Act
  pub rest : List Act
  pub reached : Past
  pub order : acts ≡ done ++ rest
  pub ran : IsTrue tells → Run c f f.book (steps_in done) old reached
  pub comes_to : ComesTo tells c f done rest reached new result
  pub fails : Fails tells old new (stop_fault result)

-- with these ends of the jobs, and the notes of what was done
pub record RunsActs (tells : Bool) (c : Configuration) (f : FactsContent) (acts : List Act) (past : Past × Past) (ends : List JobEnd × List JobEnd) (stood stands : Shown → List Note → Type 0) (result : Result ⊤ (Stop InstallRefusal)) : Type 0 where
  pub progress : Progress tells c f acts past.0 past.1 result
  pub ends_are : ends.1 ≡ ends_after (steps_in progress.done) ends.0
  pub notes : AddsNotes stood stands (notes_in progress.done)
