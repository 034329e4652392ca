-- What an install leaves wherever it stops: the slots that run, and those that it writes.
use Rattle.std.specs.Prelude.{◌≡◌, ◌<◌, ℕ, true, length, Some, IsSomeAnd, option_and_then, slice_get}
use Rattle.boot_backends.specs.Marked.{names_of}
use Rattle.boot_state.specs.States.{good, primary}
use Rattle.keyfile.specs.Groups.{Text}
use Rattle.machine.specs.World.{disk}
use Rattle.machine.specs.declared.world.World.{World}
use Rattle.manifest.specs.declared.image.ImageFile.{ImageFile}
use Rattle.raw_writer.specs.Whole.{IsWhole}
use Rattle.slot_graph.specs.declared.job.Job.{Job}
use Rattle.slot_graph.specs.declared.state.Booted.{Booted}
use Rattle.slot_graph.specs.declared.state.Booted.TheVariants as booted
use Rattle.system_conf.specs.Configuration.{Configuration}
use Rattle.install_facts.specs.Facts.{FactsContent}
use Rattle.install_plan.specs.Acts.{Work, is_alone, work_at}

-- each slot that RAUC alone writes begins with bytes of its image's size and SHA-256
abbrev pub AllWhole : Configuration → FactsContent → World → Type 0
AllWhole c f v =
    (at : ℕ) (x : Work) (file : ImageFile) → work_at c f at ≡ Some x → is_alone x ≡ true → x.image.file ≡ Some file
    → IsSomeAnd (disk v x.slot.device) (λ bytes. IsWhole bytes file.size file.digest)

-- the slot at a place has this bootname
abbrev pub HasBootname : Configuration → ℕ → Text → Type 0
HasBootname c at name = option_and_then (λ s. s.bootname) (slice_get c.slots at) ≡ Some name

-- the boot loader boots next the root over the slot of a job
pub record BootsTarget (c : Configuration) (f : FactsContent) (v : World) : Type 0 where
  pub name : Text
  pub primary : primary c.boot v.vars (names_of c.slots) ≡ Some name
  pub at : ℕ
  pub job : Job
  pub there : slice_get f.jobs at ≡ Some job
  pub root : HasBootname c job.root name

-- once a write was begun since w, a target is booted next only while all that RAUC alone writes is whole
abbrev pub TargetsSafe : Configuration → FactsContent → World → World → Type 0
TargetsSafe c f w v = length w.writes < length v.writes → BootsTarget c f v → AllWhole c f v

-- the root that is booted is good, where it was good in w
abbrev pub BootedGood : Configuration → Booted → World → World → Type 0
BootedGood c (booted.Slot root) w v =
    (name : Text) → HasBootname c root name → good c.boot w.vars (names_of c.slots) name ≡ true → good c.boot v.vars (names_of c.slots) name ≡ true
BootedGood c b w v = Unit {0}
