-- A bootname was marked, as a step.
use Rattle.std.proofs.Common.{◌≡◌, inl, ℕ, Bool, List, Option, Result, Ok, Err, IsTrue, sym, subst}
use Rattle.std.specs.Prelude.{⊤, OnOk}
use Rattle.boot_commands.specs.Effects.{commands_of}
use Rattle.boot_commands.specs.declared.command.Mark.{Mark}
use Rattle.boot_commands.specs.declared.command.Mark.TheVariants as mark
use Rattle.boot_backends.specs.Marked.{names_of}
use Rattle.boot_backends.specs.Systems.{Leads, LeavesDown}
use Rattle.boot_backends.specs.Through.{Through}
use Rattle.machine.specs.Past.{Always, Past, world_now}
use Rattle.machine.specs.declared.stops.Stop.{Stop}
use Rattle.machine.specs.declared.stops.Stop.TheVariants.{Refused, Outside, NoMemory}
use Rattle.machine.proofs.Moments.{always_weaker}
use Rattle.raw_writer.specs.declared.put.Written.{Written}
use Rattle.system_conf.specs.Configuration.{Configuration}
use Rattle.install_facts.specs.Facts.{FactsContent}
use Rattle.install_facts.specs.declared.refusal.InstallRefusal.{InstallRefusal}
use Rattle.install_plan.specs.declared.step.Step.{Step}
use Rattle.install_plan.specs.declared.step.Step.TheVariants as step
use Rattle.install_steps.specs.Causes.{BootMarks}
use Rattle.install_steps.specs.Doing.{DoesStep, without_image}
use Rattle.install_steps.specs.Steps.{Begun, MarkPart, bootname_of}

-- the first of the commands were run, whatever was read
mark_part : (c : Configuration) (m : Mark) (name : List ℕ) (a z : Past) → Leads c m name a z → Always a z (MarkPart a.boot c m name (world_now a))
mark_part c m name a z led =
    always_weaker a z (Through a.boot (commands_of c.boot (names_of c.slots) m name led.read) (world_now a)) (MarkPart a.boot c m name (world_now a)) (λ u t. (led.read, t)) led.moments

module _ (t : Bool) (c : Configuration) (f : FactsContent) (root : ℕ) (a z : Past) where
  begun_bad : (result : Result ⊤ (Stop InstallRefusal)) → BootMarks t c mark.Bad (bootname_of c root) a z result → IsTrue t → Begun c f f.book (step.Bad root) a z
  begun_bad result marks told = record { part = mark_part c mark.Bad (bootname_of c root) a z (marks.leads told); keeps = marks.keeps told; reads = inl tt }

  bad : (result : Result ⊤ (Stop InstallRefusal)) → BootMarks t c mark.Bad (bootname_of c root) a z result → (IsTrue t → OnOk result (LeavesDown c (bootname_of c root) a z)) → DoesStep t c f (step.Bad root) a z (without_image result)
  bad (Ok x) marks down = record {
    begun = begun_bad (Ok x) marks;
    did = λ told. record { begun = begun_bad (Ok x) marks told; after = marks.answers told; marks = (marks.leaves told, down told); reads = tt };
    cause = λ told. tt;
    fails = marks.fails;
  }
  bad (Err (Refused why)) marks down = record { begun = begun_bad (Err (Refused why)) marks; did = λ told. tt; cause = marks.answers; fails = marks.fails }
  bad (Err (Outside kind)) marks down = record { begun = begun_bad (Err (Outside kind)) marks; did = λ told. tt; cause = λ told. tt; fails = marks.fails }
  bad (Err NoMemory) marks down = record { begun = begun_bad (Err NoMemory) marks; did = λ told. tt; cause = λ told. tt; fails = marks.fails }

  begun_primary : (result : Result ⊤ (Stop InstallRefusal)) → BootMarks t c mark.Primary (bootname_of c root) a z result → IsTrue t → Begun c f f.book (step.Primary root) a z
  begun_primary result marks told = record { part = mark_part c mark.Primary (bootname_of c root) a z (marks.leads told); keeps = marks.keeps told; reads = inl tt }

  primary : (result : Result ⊤ (Stop InstallRefusal)) → BootMarks t c mark.Primary (bootname_of c root) a z result → DoesStep t c f (step.Primary root) a z (without_image result)
  primary (Ok x) marks = record {
    begun = begun_primary (Ok x) marks;
    did = λ told. record { begun = begun_primary (Ok x) marks told; after = marks.answers told; marks = marks.leaves told; reads = tt };
    cause = λ told. tt;
    fails = marks.fails;
  }
  primary (Err (Refused why)) marks = record { begun = begun_primary (Err (Refused why)) marks; did = λ told. tt; cause = marks.answers; fails = marks.fails }
  primary (Err (Outside kind)) marks = record { begun = begun_primary (Err (Outside kind)) marks; did = λ told. tt; cause = λ told. tt; fails = marks.fails }
  primary (Err NoMemory) marks = record { begun = begun_primary (Err NoMemory) marks; did = λ told. tt; cause = λ told. tt; fails = marks.fails }

  -- as the step that it is, with the answer of a step that puts no image
  module _ (s : Step) (result : Result ⊤ (Stop InstallRefusal)) (answer : Result (Option Written) (Stop InstallRefusal)) (no_image : answer ≡ without_image result) where
    as_step : (other : Step) → s ≡ other → DoesStep t c f other a z (without_image result) → DoesStep t c f s a z answer
    as_step other is does =
        subst (λ (x : Step). DoesStep t c f x a z answer) (sym is)
        (subst (λ (r : Result (Option Written) (Stop InstallRefusal)). DoesStep t c f other a z r) (sym no_image) does)

    pub does_bad : s ≡ step.Bad root → BootMarks t c mark.Bad (bootname_of c root) a z result → (IsTrue t → OnOk result (LeavesDown c (bootname_of c root) a z)) → DoesStep t c f s a z answer
    does_bad is marks down = as_step (step.Bad root) is (bad result marks down)

    pub does_primary : s ≡ step.Primary root → BootMarks t c mark.Primary (bootname_of c root) a z result → DoesStep t c f s a z answer
    does_primary is marks = as_step (step.Primary root) is (primary result marks)
