-- The manifest of a bundle that is mounted.
use Rattle.std.specs.Prelude.{◌≡◌, List, ◌++◌, codes, Option, Some, None, Result, Ok, Err}
use Rattle.updater_text.specs.declared.stops.Lack.{Lack}
use Rattle.updater_text.specs.declared.stops.Lack.TheVariants as lack
use Rattle.keyfile.specs.Groups.{Group, Text}
use Rattle.keyfile.specs.Reading.{read_of}
use Rattle.keyfile.specs.declared.fault.KeyFault.{KeyFault}
use Rattle.machine.specs.declared.stops.Stop.{Stop}
use Rattle.machine.specs.declared.stops.Stop.TheVariants as stop
use Rattle.machine.specs.declared.world.World.{World}
use Rattle.machine.specs.World.{file}
use Rattle.manifest.specs.Contents.{Content}
use Rattle.manifest.specs.Reads.{manifest_content}
use Rattle.manifest.specs.Refusals.{manifest_of}
use Rattle.manifest.specs.declared.content.Manifest.{Manifest}
use Rattle.manifest.specs.declared.refusal.ManifestRefusal.{ManifestRefusal}
use Rattle.system_conf.specs.Configuration.{Configuration}
use Rattle.child_steps.specs.Children.{mount_point}
use Rattle.child_steps.specs.declared.bundle.BundleRefusal.{BundleRefusal}
use Rattle.child_steps.specs.declared.bundle.BundleRefusal.TheVariants.{NoManifest, BadKeys, BadManifest}

-- the path of the manifest
abbrev pub manifest_path : Configuration → Text
manifest_path c = mount_point c ++ codes "/manifest.raucm"

abbrev pub of_groups : Result Content ManifestRefusal → Result Content BundleRefusal
of_groups (Ok content) = Ok content
of_groups (Err refusal) = Err (BadManifest refusal)

abbrev pub of_file : Result (List Group) KeyFault → Result Content BundleRefusal
of_file (Ok groups) = of_groups (manifest_of groups)
of_file (Err fault) = Err (BadKeys fault)

-- a key file, and what its groups say
abbrev pub of_bytes : Text → Result Content BundleRefusal
of_bytes bytes = of_file (read_of bytes)

-- what the manifest's file says, where there is one
abbrev pub manifest_in : Option Text → Result Content BundleRefusal
manifest_in None = Err NoManifest
manifest_in (Some bytes) = of_bytes bytes

-- what the manifest says of the bundle that is mounted in a world, or why that is not read
abbrev pub bundle_at : Configuration → World → Result Content BundleRefusal
bundle_at c w = manifest_in (file w (manifest_path c))

-- the call answered by what the bytes say, or out of memory
abbrev pub ReadsManifest : Result Content BundleRefusal → Result Manifest (Lack BundleRefusal) → Type 0
ReadsManifest meaning (Ok manifest) = meaning ≡ Ok (manifest_content manifest)
ReadsManifest meaning (Err (lack.Refused refusal)) = meaning ≡ Err refusal
ReadsManifest meaning (Err lack.NoMemory) = Unit {0}

-- the call answered by what the file says, unless a call failed or it was out of memory
abbrev pub LoadsManifest : Result Content BundleRefusal → Result Manifest (Stop BundleRefusal) → Type 0
LoadsManifest meaning (Ok manifest) = meaning ≡ Ok (manifest_content manifest)
LoadsManifest meaning (Err (stop.Refused refusal)) = meaning ≡ Err refusal
LoadsManifest meaning (Err (stop.Outside kind)) = Unit {0}
LoadsManifest meaning (Err stop.NoMemory) = Unit {0}
