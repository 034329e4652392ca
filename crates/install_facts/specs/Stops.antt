-- Stops of the calls below, as an install passes them on.
use Rattle.std.specs.Prelude.{◌≡◌, ◌⊎◌, ℕ, Bool, true, false}
use Rattle.updater_text.specs.declared.stops.Lack.{Lack}
use Rattle.updater_text.specs.declared.stops.Lack.TheVariants as lack
use Rattle.keyfile.specs.Groups.{Text}
use Rattle.raw_writer.specs.declared.check.PutRefusal.{PutRefusal}
use Rattle.machine.specs.declared.calls.CallStop.{CallStop}
use Rattle.machine.specs.declared.calls.CallStop.TheVariants as call
use Rattle.machine.specs.declared.stops.Fault.{Fault}
use Rattle.machine.specs.declared.stops.Stop.{Stop}
use Rattle.machine.specs.declared.stops.Stop.TheVariants.{Refused, Outside, NoMemory}
use Rattle.child_steps.specs.declared.bundle.BundleRefusal.{BundleRefusal}
use Rattle.child_steps.specs.declared.refusal.CheckRefusal.{CheckRefusal}
use Rattle.install_facts.specs.declared.refusal.InstallRefusal.{InstallRefusal}
use Rattle.install_facts.specs.declared.refusal.InstallRefusal.TheVariants.{Bundle, Check, Image}
use Rattle.install_facts.specs.declared.refusal.InstallRefusal.TheVariants as why

abbrev pub call_stop : Fault → CallStop → Stop InstallRefusal
call_stop kind call.Failed = Outside kind
call_stop kind call.NoMemory = NoMemory

abbrev pub bundle_stop : Stop BundleRefusal → Stop InstallRefusal
bundle_stop (Refused why) = Refused (Bundle why)
bundle_stop (Outside kind) = Outside kind
bundle_stop NoMemory = NoMemory

abbrev pub check_stop : Stop CheckRefusal → Stop InstallRefusal
check_stop (Refused why) = Refused (Check why)
check_stop (Outside kind) = Outside kind
check_stop NoMemory = NoMemory

-- with the image's place and name, unless memory is out for that
abbrev pub ImageStopped : ℕ → Text → Stop PutRefusal → Stop InstallRefusal → Type 0
ImageStopped at name (Refused why) stop = (stop ≡ Refused (Image at name why)) ⊎ (stop ≡ NoMemory)
ImageStopped at name (Outside kind) stop = stop ≡ Outside kind
ImageStopped at name NoMemory stop = stop ≡ NoMemory

-- ---- when a refusal comes

-- before the manifest was accepted
abbrev pub is_early : InstallRefusal → Bool
is_early (why.Mount x) = true
is_early why.BootedUnknown = true
is_early (why.Bundle x) = true
is_early (why.Compatible s b) = true
is_early (why.Check x) = true
is_early other = false

-- told or not, a refusal is one of these
abbrev pub IsEarly : Stop InstallRefusal → Type 0
IsEarly (Refused why) = is_early why ≡ true
IsEarly (Outside kind) = Unit {0}
IsEarly NoMemory = Unit {0}

abbrev pub IsEarlyLack : Lack InstallRefusal → Type 0
IsEarlyLack (lack.Refused why) = is_early why ≡ true
IsEarlyLack lack.NoMemory = Unit {0}

-- told or not, a refusal is none of these
abbrev pub IsLate : Stop InstallRefusal → Type 0
IsLate (Refused why) = is_early why ≡ false
IsLate (Outside kind) = Unit {0}
IsLate NoMemory = Unit {0}
