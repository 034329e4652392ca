-- Which calls an install makes while it gathers what it goes by, and which of them failed.
use Rattle.std.specs.Prelude.{◌≡◌, ◌||◌, Bool, true, false, IsTrue, Option, Some, codes, bytes_eq}
use Rattle.std.specs.Option.{option_map_or}
use Rattle.child_steps.specs.Bundle.{manifest_path}
use Rattle.machine.specs.Past.{Call, Clock, File, Past, Run, Size, moments_since}
use Rattle.machine.specs.Runs.{has_failed}
use Rattle.machine.specs.declared.stops.Fault.{Fault}
use Rattle.system_conf.specs.Configuration.{Configuration}

-- what tells what is booted, and the status file
abbrev pub is_first_call : Configuration → Call → Bool
is_first_call c (File path) = bytes_eq path (codes "/proc/cmdline") || option_map_or (bytes_eq path) c.status_file false
is_first_call c call = false

-- the bundle's manifest, and its own check
abbrev pub is_bundle_call : Configuration → Call → Bool
is_bundle_call c (File path) = bytes_eq path (manifest_path c)
is_bundle_call c (Run child) = true
is_bundle_call c call = false

-- the mounts, the lengths of images and devices, and the clock
abbrev pub is_target_call : Call → Bool
is_target_call (File path) = bytes_eq path (codes "/proc/mounts")
is_target_call (Size path) = true
is_target_call (Clock seconds) = true
is_target_call call = false

-- those up to the note that the manifest is accepted
abbrev pub is_early_call : Configuration → Call → Bool
is_early_call c call = is_first_call c call || is_bundle_call c call

-- those after the status file was read
abbrev pub is_later_call : Configuration → Call → Bool
is_later_call c call = is_bundle_call c call || is_target_call call

-- where told: the call that failed since is one of these
pub record FailsIn (tells : Bool) (asked : Call → Bool) (old new : Past) (fault : Option Fault) : Type 0 where
  pub failed : IsTrue tells → (kind : Fault) → fault ≡ Some kind → has_failed asked (moments_since old new) ≡ true
