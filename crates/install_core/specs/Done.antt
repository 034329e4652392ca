-- An install that is done.
use Rattle.std.specs.Prelude.{◌≡◌, Bool, IsTrue, Some, Ok}
use Rattle.machine.specs.Past.{Past}
use Rattle.system_conf.specs.Configuration.{Configuration}
use Rattle.child_steps.specs.Mounting.{MountEnds}
use Rattle.child_steps.specs.declared.mounted.Mounted.{Mounted}
use Rattle.install_facts.specs.Facts.{FactsContent}
use Rattle.install_facts.specs.Gathering.{facts_since}
use Rattle.install_facts.specs.declared.request.Request.{Request}
use Rattle.install_plan.specs.Acts.{acts_of, steps_in}
use Rattle.install_steps.specs.Progress.{ends_after}
use Rattle.install_steps.specs.Steps.{Run}
use Rattle.install_steps.specs.declared.running.Installed.{Installed}
use Rattle.install_core.specs.Preparing.{ends_of}
use Rattle.install_core.specs.declared.ending.InstallEnd.{InstallEnd}

-- the bundle was mounted, these facts were gathered, and then all steps of their list were done, in order
pub record IsDone (tells : Bool) (c : Configuration) (r : Request) (old : Past) (installed : Installed) : Type 0 where
  pub mounted : Past
  pub gathered : Past
  pub worked : Past
  pub bundle : Mounted
  pub facts : FactsContent
  pub mounts : IsTrue tells → MountEnds c r.bundle old mounted (Ok bundle)
  pub gathers : IsTrue tells → facts_since c r mounted gathered ≡ Some (Ok facts)
  pub ran : IsTrue tells → Run c facts facts.book (steps_in (acts_of c facts)) gathered worked
  pub jobs : installed.jobs ≡ ends_after (steps_in (acts_of c facts)) (ends_of facts)

-- success is answered after that alone
pub record DoneAtSuccess (tells : Bool) (c : Configuration) (r : Request) (old : Past) (end : InstallEnd) : Type 0 where
  pub done : (installed : Installed) → end.result ≡ Ok installed → IsDone tells c r old installed
