-- What reading a configuration answers.
use Rattle.std.specs.Prelude.{◌≡◌, Option, Some, None, Result, Ok, Err}
use Rattle.updater_text.specs.declared.stops.Lack.{Lack}
use Rattle.updater_text.specs.declared.stops.Lack.TheVariants as lack
use Rattle.system_conf.specs.Configuration.{Configuration}
use Rattle.system_conf.specs.declared.conf_refusal.ConfRefusal.{ConfRefusal}
use Rattle.system_conf.specs.declared.system.System.{System}

-- the configuration of a system
abbrev pub system_configuration : System → Configuration
system_configuration s = record { compatible = s.compatible; boot = s.boot; mount_prefix = s.mount_prefix; status_file = s.status_file; data_directory = s.data_directory; pre_install = s.pre_install; post_install = s.post_install; helpers = s.helpers; slots = s.slots }

-- the call answered by what the configuration means
abbrev pub Reads : Result Configuration ConfRefusal → Result System (Lack ConfRefusal) → Type 0
Reads meaning (Ok system) = meaning ≡ Ok (system_configuration system)
Reads meaning (Err (lack.Refused why)) = meaning ≡ Err why
Reads meaning (Err lack.NoMemory) = Unit {0}

-- the call passed where no refusal holds, and gave the refusal that does
abbrev pub Checks : Option ConfRefusal → Result (Unit {0}) (Lack ConfRefusal) → Type 0
Checks refusal (Ok passed) = refusal ≡ None
Checks refusal (Err (lack.Refused why)) = refusal ≡ Some why
Checks refusal (Err lack.NoMemory) = Unit {0}
