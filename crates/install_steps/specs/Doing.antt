-- What has to hold before a step, and what doing it comes to.
use Rattle.std.specs.Prelude.{◌≡◌, ◌<◌, Bool, true, false, IsTrue, length, Option, Some, None, Result, Ok, Err, IfErr, OnOk, ⊤}
use Rattle.boot_backends.specs.Marked.{is_boot_name}
use Rattle.machine.specs.Calls.{WriteFits}
use Rattle.machine.specs.Past.{Fails, Past, world_now}
use Rattle.machine.specs.Spares.{is_boot}
use Rattle.machine.specs.Stops.{stop_fault}
use Rattle.machine.specs.declared.stops.Stop.{Stop}
use Rattle.raw_writer.specs.Putting.{HasLength, written_whole}
use Rattle.raw_writer.specs.declared.put.PutJob.{PutJob}
use Rattle.raw_writer.specs.declared.put.Written.{Written}
use Rattle.system_conf.specs.Configuration.{Configuration}
use Rattle.install_facts.specs.Facts.{FactsContent}
use Rattle.install_facts.specs.declared.refusal.InstallRefusal.{InstallRefusal}
use Rattle.install_steps.specs.Causes.{StepCause}
use Rattle.install_steps.specs.Noting.{CanNote}
use Rattle.install_steps.specs.Steps.{Begun, Did, bootname_of}
use Rattle.install_plan.specs.declared.step.Step.{Step}
use Rattle.install_plan.specs.declared.step.Step.TheVariants as step

-- the book has a record of each slot, and can note the step
pub record CanChange (c : Configuration) (f : FactsContent) (s : Step) : Type 0 where
  pub all : length f.book ≡ length c.slots
  pub can : CanNote f s

-- the step names what there is: a program that is none of the boot loader, a bootname, a slot; and its record can change
abbrev pub CanDo : Configuration → FactsContent → Step → Type 0
CanDo c f (step.Run child caller) = is_boot child.class ≡ false
CanDo c f (step.Bad root) = is_boot_name c.slots (bootname_of c root) ≡ true
CanDo c f (step.Primary root) = is_boot_name c.slots (bootname_of c root) ≡ true
CanDo c f (step.Begin slot) = CanChange c f (step.Begin slot)
CanDo c f (step.Done job) = CanChange c f (step.Done job)
CanDo c f (step.Activated root) = CanChange c f (step.Activated root)
CanDo c f (step.Put job put) = Unit {0}
CanDo c f (step.Settle slot) = slot < length c.slots
CanDo c f (step.Index job) = Unit {0}

-- where told, the image has its size, and its device has room for that
pub record PutFits (tells : Bool) (past : Past) (put : PutJob) : Type 0 where
  pub room : WriteFits tells past put.device put.size
  pub image : HasLength tells past put.image put.size

abbrev pub StepFits : Bool → Past → Step → Type 0
StepFits tells past (step.Put job put) = PutFits tells past put
StepFits tells past other = Unit {0}

-- how an image was put, where the step puts one
abbrev pub written_by : Step → Option Written
written_by (step.Put job put) = Some (written_whole put.digest)
written_by other = None

-- a step that puts no image
abbrev pub without_image : Result ⊤ (Stop InstallRefusal) → Result (Option Written) (Stop InstallRefusal)
without_image (Ok x) = Ok None
without_image (Err stop) = Err stop

-- where told: the past lies within the step, which is done or stopped so, and no call failed or the one that is told
pub record DoesStep {T : Type 0} (tells : Bool) (c : Configuration) (f : FactsContent) (s : Step) (old new : Past) (result : Result T (Stop InstallRefusal)) : Type 0 where
  pub begun : IsTrue tells → Begun c f f.book s old new
  pub did : IsTrue tells → OnOk result (Did c f f.book s old new)
  pub cause : IsTrue tells → IfErr result (StepCause c f s (world_now old) (world_now new))
  pub fails : Fails tells old new (stop_fault result)
