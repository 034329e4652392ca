-- What an install leaves alone before its first step.
use Rattle.std.specs.Prelude.{◌≡◌, ◌⊎◌, ◌||◌, ℕ, Bool, true, false, IsTrue, List, [], Some, Ok, Err}
use Rattle.machine.specs.declared.stops.Stop.TheVariants.{Refused}
use Rattle.machine.specs.declared.world.Spares.{Spares}
use Rattle.machine.specs.declared.world.World.{World}
use Rattle.machine.specs.Past.{Always, Past, world_now}
use Rattle.machine.specs.Spares.{has_disk, has_file, is_kernels, spans_of}
use Rattle.machine.specs.World.{disk, disk_length, file}
use Rattle.raw_writer.specs.declared.check.PutRefusal.TheVariants.{ImageDigest}
use Rattle.system_conf.specs.Configuration.{Configuration}
use Rattle.child_steps.specs.Children.{helper_spares}
use Rattle.install_facts.specs.Facts.{FactsContent}
use Rattle.install_facts.specs.Gathering.{facts_since}
use Rattle.install_facts.specs.declared.request.Request.{Request}
use Rattle.install_facts.specs.declared.refusal.InstallRefusal.{InstallRefusal}
use Rattle.install_facts.specs.declared.refusal.InstallRefusal.TheVariants as why
use Rattle.install_core.specs.declared.ending.InstallEnd.{InstallEnd}

-- a refusal that comes before the first step; the others come from one
abbrev pub comes_before : InstallRefusal → Bool
comes_before (why.Image image name (ImageDigest stated found)) = false
comes_before (why.HandlerFailed which ended) = false
comes_before (why.HookFailed which slot ended) = false
comes_before (why.Boot refusal) = false
comes_before other = true

-- the disks, files and variables that these spare are as they were, nothing was written, and no length changed
pub record IsSpared (spares : Spares) (old w : World) : Type 0 where
  pub writes : w.writes ≡ old.writes
  pub lengths : (path : List ℕ) → disk_length w path ≡ disk_length old path
  pub disks : (path : List ℕ) → IsTrue (has_disk spares path) → disk w path ≡ disk old path
  pub pending : (path : List ℕ) → IsTrue (has_disk spares path) → spans_of w.pending path ≡ spans_of old.pending path
  pub files : (path : List ℕ) → IsTrue (is_kernels path || has_file spares path) → file w path ≡ file old path
  pub vars : IsTrue spares.boot → w.vars ≡ old.vars

-- where told: at each moment since, inside the calls too, so were the devices of all slots, the status file and the boot variables
pub record Untouched (tells : Bool) (c : Configuration) (old new : Past) : Type 0 where
  pub all : IsTrue tells → Always old new (IsSpared (helper_spares c []) (world_now old))

-- the facts were gathered, so that the first step could begin
pub record HasFacts (tells : Bool) (c : Configuration) (r : Request) (old : Past) : Type 0 where
  pub mounted : Past
  pub gathered : Past
  pub facts : FactsContent
  pub told : IsTrue tells → facts_since c r mounted gathered ≡ Some (Ok facts)

-- all that is left alone after a refusal that comes before the first step, and after any answer without the facts
pub record LeavesUntouched (tells : Bool) (c : Configuration) (r : Request) (old new : Past) (end : InstallEnd) : Type 0 where
  pub refused : (refusal : InstallRefusal) → end.result ≡ Err (Refused refusal) → comes_before refusal ≡ true → Untouched tells c old new
  pub unless : Untouched tells c old new ⊎ HasFacts tells c r old
