-- How a bundle is mounted, by the calls that were made.
use Rattle.std.specs.Prelude.{◌≡◌, ◌⊎◌, ◌==◌, Bool, false, [], ◌∷◌, Option, Some, None, Result, Ok, Err}
use Rattle.keyfile.specs.Groups.{Text}
use Rattle.machine.specs.declared.calls.RunStop.{RunStop}
use Rattle.machine.specs.declared.calls.RunStop.TheVariants as run
use Rattle.machine.specs.declared.stops.Fault.{Fault}
use Rattle.machine.specs.declared.stops.Fault.TheVariants as fault
use Rattle.machine.specs.declared.stops.Stop.{Stop}
use Rattle.machine.specs.declared.stops.Stop.TheVariants as stop
use Rattle.machine.specs.declared.world.Child.{Child}
use Rattle.machine.specs.declared.world.Ended.{Ended}
use Rattle.machine.specs.declared.world.Ended.TheVariants.{Code, Signal}
use Rattle.machine.specs.declared.world.Exit.{Exit}
use Rattle.machine.specs.Past.{Past, Run, Done, Broken, Fails, IsCall}
use Rattle.machine.specs.Runs.{RunSince}
use Rattle.system_conf.specs.Configuration.{Configuration}
use Rattle.child_steps.specs.Children.{check_child, mount_child, umount_child}
use Rattle.child_steps.specs.declared.mount.ChildSet.{ChildSet}
use Rattle.child_steps.specs.declared.mounted.Mounted.{Mounted}
use Rattle.child_steps.specs.declared.refusal.MountRefusal.{MountRefusal}
use Rattle.child_steps.specs.declared.refusal.MountRefusal.TheVariants.{Untrusted, MountFailed}

-- one call was made since: it ran this child, which ended so
pub record OneRun (child : Child) (ended : Ended) (old new : Past) : Type 0 where
  pub exit : Exit
  pub call : IsCall old new (Run child) Done
  pub runs : RunSince old new (record { child = child; exit = exit } ∷ [])
  pub is : exit.ended ≡ ended

-- two were, one after the other
pub record TwoRuns (first second : Child) (ended ended' : Ended) (old new : Past) : Type 0 where
  pub between : Past
  pub one : OneRun first ended old between
  pub two : OneRun second ended' between new

-- the end of a child that was run by one call; it has none where the call failed, or was not made for want of memory
abbrev pub ChildEnds : Child → Past → Past → Result Ended RunStop → Type 0
ChildEnds child old new (Ok ended) = OneRun child ended old new
ChildEnds child old new (Err run.Failed) = IsCall old new (Run child) Broken
ChildEnds child old new (Err run.NoMemory) = new ≡ old

abbrev pub ended_fault : Result Ended RunStop → Option Fault
ended_fault (Ok ended) = None
ended_fault (Err run.Failed) = Some fault.Run
ended_fault (Err run.NoMemory) = None

abbrev pub ChildFails : Bool → Past → Past → Result Ended RunStop → Type 0
ChildFails tells old new result = Fails tells old new (ended_fault result)

-- the child did what it is for
abbrev pub succeeded : Ended
succeeded = Code 0

abbrev pub is_success : Ended → Bool
is_success (Code code) = code == 0
is_success Signal = false

-- one child of the two was run and succeeded; or it did not, with this refusal; or it gave no end
abbrev pub StepEnds : {T : Type 0} → Child → (Ended → MountRefusal) → Past → Past → Result T (Stop MountRefusal) → Type 0
StepEnds child refused old new (Ok x) = OneRun child succeeded old new
StepEnds child refused old new (Err (stop.Refused refusal)) = (ended : Ended) × OneRun child ended old new × (ended ≡ succeeded → ⊥) × (refusal ≡ refused ended)
StepEnds child refused old new (Err (stop.Outside kind)) = IsCall old new (Run child) Broken × (kind ≡ fault.Run)
StepEnds child refused old new (Err stop.NoMemory) = new ≡ old

abbrev pub child_stop : RunStop → Stop MountRefusal
child_stop run.Failed = stop.Outside fault.Run
child_stop run.NoMemory = stop.NoMemory

-- the children for a bundle
abbrev pub children_of : Configuration → Text → ChildSet
children_of c bundle = record { check = check_child c bundle; mount = mount_child c bundle; umount = umount_child c }

-- the call that runs one of the two failed, and was the last
abbrev pub MountBroke : Configuration → Text → Past → Past → Type 0
MountBroke c bundle old new =
    IsCall old new (Run (check_child c bundle)) Broken
    ⊎ ((between : Past) × OneRun (check_child c bundle) succeeded old between × IsCall between new (Run (mount_child c bundle)) Broken)

-- the bundle was checked and mounted; or one of the two children did not succeed, and was the last; or its call failed; or memory ran out before it
abbrev pub MountEnds : Configuration → Text → Past → Past → Result Mounted (Stop MountRefusal) → Type 0
MountEnds c bundle old new (Ok mounted) = TwoRuns (check_child c bundle) (mount_child c bundle) succeeded succeeded old new
MountEnds c bundle old new (Err (stop.Refused (Untrusted ended))) = OneRun (check_child c bundle) ended old new × (ended ≡ succeeded → ⊥)
MountEnds c bundle old new (Err (stop.Refused (MountFailed ended))) =
    TwoRuns (check_child c bundle) (mount_child c bundle) succeeded ended old new × (ended ≡ succeeded → ⊥)
MountEnds c bundle old new (Err (stop.Outside kind)) = MountBroke c bundle old new × (kind ≡ fault.Run)
MountEnds c bundle old new (Err stop.NoMemory) = (new ≡ old) ⊎ OneRun (check_child c bundle) succeeded old new
