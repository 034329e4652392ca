-- What an install leaves wherever the power stops: the headline of this program.
use Rattle.std.specs.Prelude.{◌≡◌, ◌⊎◌, Bool, true, IsTrue, [], Some, Ok}
use Rattle.boot_backends.specs.Honest.{Honest}
use Rattle.machine.specs.Frames.{Unchanged}
use Rattle.machine.specs.Past.{Grows, Held, Past, world_now}
use Rattle.machine.specs.Runs.{OnlyRuns}
use Rattle.machine.specs.declared.world.World.{World}
use Rattle.running_system.specs.Running.{RunningKept, what_runs}
use Rattle.slot_graph.specs.declared.state.Booted.{Booted}
use Rattle.system_conf.specs.Configuration.{Configuration}
use Rattle.child_steps.specs.Children.{helper_spares}
use Rattle.child_steps.specs.Mounting.{MountEnds}
use Rattle.child_steps.specs.declared.mounted.Mounted.{Mounted}
use Rattle.install_facts.specs.Facts.{FactsContent}
use Rattle.install_facts.specs.Gathering.{checks_in, facts_since}
use Rattle.install_facts.specs.declared.request.Request.{Request}
use Rattle.install_safety.specs.Safe.{BootedGood, TargetsSafe}
use Rattle.install_safety.specs.TrueRecords.{RecordsSafe}
use Rattle.install_core.specs.Untouched.{Untouched}

-- the facts of the install since old: where nothing had changed its bundle was mounted, and then they were gathered, while only the bundle's own check was run
pub record FactsSince (c : Configuration) (r : Request) (old new : Past) (f : FactsContent) : Type 0 where
  pub start : Past
  pub mounted : Past
  pub gathered : Past
  pub bundle : Mounted
  pub before : Unchanged true old start
  pub mounts : MountEnds c r.bundle start mounted (Ok bundle)
  pub checks : OnlyRuns true (helper_spares c []) (checks_in c (world_now mounted)) mounted gathered
  pub told : facts_since c r mounted gathered ≡ Some (Ok f)
  pub later : Grows gathered new

-- wherever the power stops since old: a target is booted next only while all that RAUC alone writes is whole, and what the status file says is true
pub record SafeBy (c : Configuration) (f : FactsContent) (old new : Past) : Type 0 where
  pub targets : Honest c.boot old new → (v : World) → Held old new v → TargetsSafe c f (world_now old) v
  pub records : (v : World) → Held old new v → RecordsSafe c f (world_now old) v

-- by the facts that were gathered; where none were, nothing was touched
abbrev pub SafeByFacts : Configuration → Request → Past → Past → Type 0
SafeByFacts c r old new = Untouched true c old new ⊎ ((f : FactsContent) × FactsSince c r old new f × SafeBy c f old new)

-- wherever the power stops since old, a booted root that was good is good
abbrev pub StaysGood : Configuration → Booted → Past → Past → Type 0
StaysGood c b old new = Honest c.boot old new → (v : World) → Held old new v → BootedGood c b (world_now old) v

-- where told, and wherever the power stops, inside a call too: what runs keeps its bytes and stays good, and the rest is safe by the facts
pub record IsCrashSafe (tells : Bool) (c : Configuration) (r : Request) (old new : Past) : Type 0 where
  pub running : RunningKept tells c.slots (what_runs c.slots r.given_boot (world_now old)) old new
  pub good : IsTrue tells → StaysGood c (what_runs c.slots r.given_boot (world_now old)) old new
  pub safe : IsTrue tells → SafeByFacts c r old new
