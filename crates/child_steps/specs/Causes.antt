-- What is wrong with a bundle, in words.
use Rattle.std.specs.Prelude.{◌++◌, codes, Option, Some, None}
use Rattle.keyfile.specs.Causes.{key_cause}
use Rattle.keyfile.specs.Groups.{Text}
use Rattle.machine.specs.Endings.{ended_text}
use Rattle.manifest.specs.Causes.{manifest_cause}
use Rattle.child_steps.specs.declared.bundle.BundleRefusal.{BundleRefusal}
use Rattle.child_steps.specs.declared.bundle.BundleRefusal.TheVariants.{NoManifest, BadKeys, BadManifest}
use Rattle.child_steps.specs.declared.close.Closing.{Closing}
use Rattle.child_steps.specs.declared.close.Closing.TheVariants as closing
use Rattle.child_steps.specs.declared.refusal.CheckRefusal.{CheckRefusal}
use Rattle.child_steps.specs.declared.refusal.CheckRefusal.TheVariants.{Rejected, CheckFailed}
use Rattle.child_steps.specs.declared.refusal.MountRefusal.{MountRefusal}
use Rattle.child_steps.specs.declared.refusal.MountRefusal.TheVariants.{Untrusted, MountFailed}

-- why a bundle is not mounted
abbrev pub mount_cause : MountRefusal → Text
mount_cause (Untrusted ended) = codes "bundle is not trusted: " ++ ended_text ended
mount_cause (MountFailed ended) = codes "bundle mount failed: " ++ ended_text ended

-- why the manifest of a bundle is not read
abbrev pub bundle_cause : BundleRefusal → Text
bundle_cause NoManifest = codes "no manifest"
bundle_cause (BadKeys fault) = codes "manifest: " ++ key_cause fault
bundle_cause (BadManifest refusal) = codes "manifest: " ++ manifest_cause refusal

-- why a bundle is not installed, by its own hook
abbrev pub check_cause : CheckRefusal → Text
check_cause (Rejected line) = codes "bundle rejected: " ++ line
check_cause (CheckFailed ended) = codes "install-check failed: " ++ ended_text ended

-- why a bundle is still mounted, where it may be
abbrev pub closing_cause : Closing → Option Text
closing_cause closing.NotMounted = None
closing_cause closing.Unmounted = None
closing_cause (closing.Ended ended) = Some (ended_text ended)
closing_cause closing.Failed = Some (codes "run")
closing_cause closing.NoMemory = Some (codes "out of memory")
