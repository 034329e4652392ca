-- The keys that a configuration must have.
use Rattle.std.specs.Prelude.{List, [], ◌∷◌, ◌++◌, codes, map, Option, if◌then◌else◌}
use Rattle.std.specs.Str.{bytes_eq}
use Rattle.keyfile.specs.Groups.{Text, Group}
use Rattle.conf_forms.specs.Lists.{first_of}
use Rattle.conf_forms.specs.SlotNames.{slot_groups}
use Rattle.conf_forms.specs.Walks.{missing_key}
use Rattle.system_conf.specs.Values.{loader_of}

-- the mandatory key of each slot, with its group
abbrev pub device_keys : List Group → List (Text × Text)
device_keys groups = map (λ group. (group, codes "device")) (slot_groups groups)

-- the mandatory key of a custom boot loader
abbrev pub custom_keys : List Group → List (Text × Text)
custom_keys groups = if bytes_eq (loader_of groups) (codes "custom") then (codes "handlers", codes "bootloader-custom-backend") ∷ [] else []

-- each mandatory key with its group
abbrev pub mandatory : List Group → List (Text × Text)
mandatory groups = (codes "system", codes "compatible") ∷ (codes "system", codes "bootloader") ∷ (device_keys groups ++ custom_keys groups)

-- the first of them that has no value
abbrev pub first_missing : List Group → Option (Text × Text)
first_missing groups = first_of (missing_key groups) (mandatory groups)
