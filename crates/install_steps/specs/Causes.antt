-- Why a step stops.
use Rattle.std.specs.Prelude.{◌≡◌, Bool, IsTrue, [], ◌∷◌, Result, Ok, Err, OnOk, ⊤}
use Rattle.boot_commands.specs.declared.command.Mark.{Mark}
use Rattle.boot_commands.specs.declared.command.Mark.TheVariants as mark
use Rattle.boot_backends.specs.Causes.{MarkCause}
use Rattle.boot_backends.specs.Marked.{names_of}
use Rattle.boot_backends.specs.Systems.{Keeps, Leads, Leaves}
use Rattle.boot_backends.specs.declared.refusal.BootRefusal.{BootRefusal}
use Rattle.child_steps.specs.Mounting.{succeeded}
use Rattle.machine.specs.Past.{Fails, Past, world_now}
use Rattle.machine.specs.Runs.{runs_since}
use Rattle.machine.specs.Stops.{stop_fault}
use Rattle.machine.specs.declared.stops.Stop.{Stop}
use Rattle.machine.specs.declared.stops.Stop.TheVariants.{Refused, Outside, NoMemory}
use Rattle.machine.specs.declared.world.Ended.{Ended}
use Rattle.machine.specs.declared.world.Exit.{Exit}
use Rattle.machine.specs.declared.world.World.{World}
use Rattle.keyfile.specs.Groups.{Text}
use Rattle.machine.specs.declared.world.Child.{Child}
use Rattle.system_conf.specs.Configuration.{Configuration}
use Rattle.install_facts.specs.Facts.{FactsContent}
use Rattle.install_facts.specs.declared.refusal.InstallRefusal.{InstallRefusal}
use Rattle.install_facts.specs.declared.refusal.InstallRefusal.TheVariants.{Boot, HandlerFailed, HookFailed}
use Rattle.install_plan.specs.declared.step.Caller.{Caller}
use Rattle.install_plan.specs.declared.step.Caller.TheVariants as caller
use Rattle.install_plan.specs.declared.step.Step.{Step}
use Rattle.install_plan.specs.declared.step.Step.TheVariants as step
use Rattle.install_steps.specs.Steps.{RanOnce, bootname_of}
use Rattle.install_steps.specs.Putting.{OtherDigest}

-- the refusal of a program that ended so, by what it was run for
abbrev pub failed_refusal : Caller → Ended → InstallRefusal
failed_refusal (caller.Handler which) ended = HandlerFailed which ended
failed_refusal (caller.Hook which slot) ended = HookFailed which slot ended

-- the child was run once, and did not end with 0
pub record FailedOnce (child : Child) (caller : Caller) (w v : World) (why : InstallRefusal) : Type 0 where
  pub exit : Exit
  pub ran : runs_since w v ≡ record { child = child; exit = exit } ∷ []
  pub failed : exit.ended ≡ succeeded → ⊥
  pub is : why ≡ failed_refusal caller exit.ended

-- why a step is refused, by the worlds before it and after it; what only looks or notes is not
abbrev pub StepRefused : Configuration → FactsContent → Step → World → World → InstallRefusal → Type 0
StepRefused c f (step.Run child caller) w v why = FailedOnce child caller w v why
StepRefused c f (step.Bad root) w v why = (refusal : BootRefusal) × (why ≡ Boot refusal) × MarkCause c.boot (names_of c.slots) mark.Bad (bootname_of c root) (runs_since w v) (Err (Refused refusal))
StepRefused c f (step.Primary root) w v why = (refusal : BootRefusal) × (why ≡ Boot refusal) × MarkCause c.boot (names_of c.slots) mark.Primary (bootname_of c root) (runs_since w v) (Err (Refused refusal))
StepRefused c f (step.Put job put) w v why = OtherDigest f job put w v why
StepRefused c f other w v why = ⊥

-- why a step stops
abbrev pub StepCause : Configuration → FactsContent → Step → World → World → Stop InstallRefusal → Type 0
StepCause c f s w v (Refused why) = StepRefused c f s w v why
StepCause c f s w v (Outside kind) = Unit {0}
StepCause c f s w v NoMemory = Unit {0}

-- how a program ends that is run for a step
abbrev pub ProgramEnds : Child → Caller → World → World → Result ⊤ (Stop InstallRefusal) → Type 0
ProgramEnds child caller w v (Ok x) = RanOnce child w v
ProgramEnds child caller w v (Err (Refused why)) = FailedOnce child caller w v why
ProgramEnds child caller w v (Err (Outside kind)) = Unit {0}
ProgramEnds child caller w v (Err NoMemory) = Unit {0}

-- ---- marks of bootnames

abbrev pub boot_stop : Stop BootRefusal → Stop InstallRefusal
boot_stop (Refused why) = Refused (Boot why)
boot_stop (Outside kind) = Outside kind
boot_stop NoMemory = NoMemory

-- the answer by the runs
abbrev pub MarkAnswers : Configuration → Mark → Text → World → World → Result ⊤ (Stop InstallRefusal) → Type 0
MarkAnswers c m name w v (Ok x) = MarkCause c.boot (names_of c.slots) m name (runs_since w v) (Ok tt)
MarkAnswers c m name w v (Err (Refused why)) = (refusal : BootRefusal) × (why ≡ Boot refusal) × MarkCause c.boot (names_of c.slots) m name (runs_since w v) (Err (Refused refusal))
MarkAnswers c m name w v (Err (Outside kind)) = Unit {0}
MarkAnswers c m name w v (Err NoMemory) = Unit {0}

-- where told: the first of the mark's commands were run at each moment, other names keep what they are, all of them served where it is done, and no call failed or the one that is told
pub record BootMarks (tells : Bool) (c : Configuration) (m : Mark) (name : Text) (old new : Past) (result : Result ⊤ (Stop InstallRefusal)) : Type 0 where
  pub leads : IsTrue tells → Leads c m name old new
  pub keeps : IsTrue tells → Keeps c name old new
  pub leaves : IsTrue tells → OnOk result (Leaves c m name old new)
  pub answers : IsTrue tells → MarkAnswers c m name (world_now old) (world_now new) result
  pub fails : Fails tells old new (stop_fault result)
