-- The configuration that a text says, and the system that a file says.
use Rattle.std.specs.Prelude.{◌≡◌, ℕ, List, Option, Some, None, Result, Ok, Err}
use Rattle.updater_text.specs.declared.stops.Lack.{Lack}
use Rattle.updater_text.specs.declared.stops.Lack.TheVariants as lack
use Rattle.machine.specs.declared.stops.Stop.{Stop}
use Rattle.machine.specs.declared.stops.Stop.TheVariants as stop
use Rattle.machine.specs.declared.world.World.{World}
use Rattle.machine.specs.World.{file}
use Rattle.keyfile.specs.Groups.{Group}
use Rattle.keyfile.specs.Reading.{read_of}
use Rattle.keyfile.specs.declared.fault.KeyFault.{KeyFault}
use Rattle.system_conf.specs.Configuration.{Configuration}
use Rattle.system_conf.specs.Refusals.{system_of}
use Rattle.system_conf.specs.Reads.{system_configuration}
use Rattle.system_conf.specs.declared.conf_refusal.ConfRefusal.{ConfRefusal}
use Rattle.system_conf.specs.declared.system.System.{System}
use Rattle.rauc_cli.specs.declared.conf.BadConf.{BadConf}
use Rattle.rauc_cli.specs.declared.conf.BadConf.TheVariants.{Key, Conf}
use Rattle.rauc_cli.specs.declared.conf.NoSystem.{NoSystem}
use Rattle.rauc_cli.specs.declared.conf.NoSystem.TheVariants.{Missing, Bad}

abbrev pub of_groups : Result Configuration ConfRefusal → Result Configuration BadConf
of_groups (Ok conf) = Ok conf
of_groups (Err refusal) = Err (Conf refusal)

abbrev pub of_file : Result (List Group) KeyFault → Result Configuration BadConf
of_file (Ok groups) = of_groups (system_of groups)
of_file (Err fault) = Err (Key fault)

-- a key file, and what its groups say
abbrev pub conf_of : List ℕ → Result Configuration BadConf
conf_of bytes = of_file (read_of bytes)

-- the call answered by what the text says, or out of memory
abbrev pub ReadsConf : Result Configuration BadConf → Result System (Lack BadConf) → Type 0
ReadsConf meaning (Ok system) = meaning ≡ Ok (system_configuration system)
ReadsConf meaning (Err (lack.Refused refusal)) = meaning ≡ Err refusal
ReadsConf meaning (Err lack.NoMemory) = Unit {0}

abbrev pub of_conf : Result Configuration BadConf → Result Configuration NoSystem
of_conf (Ok conf) = Ok conf
of_conf (Err refusal) = Err (Bad refusal)

-- what a configuration's file says, where there is one
abbrev pub system_in : Option (List ℕ) → Result Configuration NoSystem
system_in None = Err Missing
system_in (Some bytes) = of_conf (conf_of bytes)

-- the system of the configuration at a path, or why there is none
abbrev pub system_at : World → List ℕ → Result Configuration NoSystem
system_at w path = system_in (file w path)

-- the call answered by what the file says, unless a call failed or it was out of memory
abbrev pub LoadsSystem : Result Configuration NoSystem → Result System (Stop NoSystem) → Type 0
LoadsSystem meaning (Ok system) = meaning ≡ Ok (system_configuration system)
LoadsSystem meaning (Err (stop.Refused refusal)) = meaning ≡ Err refusal
LoadsSystem meaning (Err (stop.Outside kind)) = Unit {0}
LoadsSystem meaning (Err stop.NoMemory) = Unit {0}
