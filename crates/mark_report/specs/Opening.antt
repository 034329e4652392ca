-- How a bundle is opened to tell of it.
use Rattle.std.specs.Prelude.{◌≡◌, ◌++◌, ℕ, List, [], ◌∷◌, Option, Some, None, Result, Ok, Err, if◌then◌else◌}
use Rattle.updater_text.specs.Counts.{CountRose}
use Rattle.keyfile.specs.Groups.{Text}
use Rattle.machine.specs.declared.stops.Stop.{Stop}
use Rattle.machine.specs.declared.stops.Stop.TheVariants as stop
use Rattle.machine.specs.declared.world.Child.{Child}
use Rattle.machine.specs.declared.world.Ended.{Ended}
use Rattle.machine.specs.declared.world.RunNote.{RunNote}
use Rattle.machine.specs.Past.{Past, failed_since, world_now}
use Rattle.machine.specs.Runs.{ReadsOnce, runs_since, world_after_runs}
use Rattle.machine.specs.Stops.{StopCounted, stop_fault}
use Rattle.manifest.specs.Contents.{Content}
use Rattle.manifest.specs.Reads.{manifest_content}
use Rattle.manifest.specs.declared.content.Manifest.{Manifest}
use Rattle.system_conf.specs.Configuration.{Configuration}
use Rattle.child_steps.specs.Bundle.{bundle_at, manifest_path}
use Rattle.child_steps.specs.Children.{mounting, umount_child}
use Rattle.child_steps.specs.Closing.{ClosingEnds, was_mounted}
use Rattle.child_steps.specs.Mounting.{is_success}
use Rattle.child_steps.specs.declared.bundle.BundleRefusal.{BundleRefusal}
use Rattle.child_steps.specs.declared.close.Closing.{Closing}
use Rattle.child_steps.specs.declared.close.Closing.TheVariants as closing
use Rattle.child_steps.specs.declared.refusal.MountRefusal.{MountRefusal}
use Rattle.child_steps.specs.declared.refusal.MountRefusal.TheVariants.{Untrusted, MountFailed}
use Rattle.mark_report.specs.declared.bundle_info.InfoEnd.{InfoEnd}
use Rattle.mark_report.specs.declared.bundle_info.InfoRefusal.{InfoRefusal}
use Rattle.mark_report.specs.declared.bundle_info.InfoRefusal.TheVariants.{Mount, Bundle}

-- stops and answers, as they are passed on
abbrev pub mount_stop : Stop MountRefusal → Stop InfoRefusal
mount_stop (stop.Refused refusal) = stop.Refused (Mount refusal)
mount_stop (stop.Outside kind) = stop.Outside kind
mount_stop stop.NoMemory = stop.NoMemory

abbrev pub bundle_result : Result Manifest (Stop BundleRefusal) → Result Manifest (Stop InfoRefusal)
bundle_result (Ok manifest) = Ok manifest
bundle_result (Err (stop.Refused refusal)) = Err (stop.Refused (Bundle refusal))
bundle_result (Err (stop.Outside kind)) = Err (stop.Outside kind)
bundle_result (Err stop.NoMemory) = Err stop.NoMemory

-- ---- what there is to tell of a bundle

abbrev pub bundle_info : Result Content BundleRefusal → Result Content InfoRefusal
bundle_info (Ok content) = Ok content
bundle_info (Err refusal) = Err (Bundle refusal)

-- after the mount: what the manifest says
abbrev pub mounted_info : Ended → Result Content BundleRefusal → Result Content InfoRefusal
mounted_info ended manifest = if is_success ended then bundle_info manifest else Err (Mount (MountFailed ended))

-- by the ends of the children, and by what the manifest says: a child that did not succeed is told, and none was run after it; where there is nothing to tell, a call failed or memory ran out
abbrev pub info_by : List RunNote → Result Content BundleRefusal → Option (Result Content InfoRefusal)
info_by [] manifest = None
info_by (check ∷ []) manifest = if is_success check.exit.ended then None else Some (Err (Mount (Untrusted check.exit.ended)))
info_by (check ∷ mount ∷ []) manifest = if is_success check.exit.ended then Some (mounted_info mount.exit.ended manifest) else None
info_by (check ∷ mount ∷ umount ∷ later) manifest =
    if was_mounted (check ∷ mount ∷ umount ∷ later) then Some (bundle_info manifest) else None

-- what there is to tell of the bundle that was opened since old: its manifest is read in the first world in which the mount has ended
abbrev pub info_in : Configuration → Past → Past → Option (Result Content InfoRefusal)
info_in c old new = info_by (runs_since (world_now old) (world_now new)) (bundle_at c (world_after_runs 2 old new))

-- the answer is this one, unless a call failed or it was out of memory
abbrev pub TellsInfo : Option (Result Content InfoRefusal) → Result Manifest (Stop InfoRefusal) → Type 0
TellsInfo expected (Ok manifest) = expected ≡ Some (Ok (manifest_content manifest))
TellsInfo expected (Err (stop.Refused refusal)) = expected ≡ Some (Err refusal)
TellsInfo expected (Err (stop.Outside kind)) = Unit {0}
TellsInfo expected (Err stop.NoMemory) = Unit {0}

-- the children that open and close a bundle, in order
abbrev pub info_children : Configuration → Text → List Child
info_children c bundle = mounting c bundle ++ umount_child c ∷ []

-- ---- a bundle that was mounted is read, and then unmounted

-- the answer is what the manifest says, unless a call failed or it was out of memory
abbrev pub LoadsInfo : Result Content BundleRefusal → Result Manifest (Stop InfoRefusal) → Type 0
LoadsInfo meaning (Ok manifest) = meaning ≡ Ok (manifest_content manifest)
LoadsInfo meaning (Err (stop.Refused (Mount refusal))) = ⊥
LoadsInfo meaning (Err (stop.Refused (Bundle refusal))) = meaning ≡ Err refusal
LoadsInfo meaning (Err (stop.Outside kind)) = Unit {0}
LoadsInfo meaning (Err stop.NoMemory) = Unit {0}

-- the manifest was read, and from that past on the bundle was unmounted; the call that failed before the unmount is the one that is told
pub record ReadEnds (c : Configuration) (old new : Past) (end : InfoEnd) : Type 0 where
  pub read : Past
  pub reads : ReadsOnce (manifest_path c) old read
  pub answer : LoadsInfo (bundle_at c (world_now old)) end.result
  pub fails : failed_since old read ≡ stop_fault end.result
  pub closed : ClosingEnds (umount_child c) read new end.closing

-- ---- counts

-- the counts that rose where the unmount failed, or had no memory
abbrev pub ClosingRose : ℕ → ℕ → ℕ → ℕ → Closing → Type 0
ClosingRose faults faults' wants wants' closing.Failed = CountRose faults faults'
ClosingRose faults faults' wants wants' closing.NoMemory = CountRose wants wants'
ClosingRose faults faults' wants wants' _ = Unit {0}

-- told or not: the bundle was mounted where its manifest was read, and not where the mount was refused
abbrev pub ClosesAs : Result Manifest (Stop InfoRefusal) → Closing → Type 0
ClosesAs (Ok manifest) closed = closed ≡ closing.NotMounted → ⊥
ClosesAs (Err (stop.Refused (Mount refusal))) closed = closed ≡ closing.NotMounted
ClosesAs (Err (stop.Refused (Bundle refusal))) closed = closed ≡ closing.NotMounted → ⊥
ClosesAs (Err (stop.Outside kind)) closed = Unit {0}
ClosesAs (Err stop.NoMemory) closed = Unit {0}

-- counts never fall; they rose where the answer or the unmount says that a call failed or had no memory
pub record InfoCounted (faults faults' wants wants' : ℕ) (end : InfoEnd) : Type 0 where
  pub answer : StopCounted faults faults' wants wants' end.result
  pub closing : ClosingRose faults faults' wants wants' end.closing
  pub closes : ClosesAs end.result end.closing
