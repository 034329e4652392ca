-- Slots that have the same.
use Rattle.std.specs.Prelude.{ℕ, Bool, false, List, take, Option, Some, None, if◌then◌else◌}
use Rattle.std.specs.Option.{option_map_or}
use Rattle.std.specs.List.{enumerate_from}
use Rattle.std.specs.Str.{bytes_eq}
use Rattle.keyfile.specs.Groups.{Text}
use Rattle.conf_forms.specs.Lists.{first_of}
use Rattle.system_conf.specs.Values.{is_at}
use Rattle.system_conf.specs.declared.duplicates.Shared.{Shared}
use Rattle.system_conf.specs.declared.duplicates.Shared.TheVariants as shared
use Rattle.system_conf.specs.declared.slot.Slot.{Slot}

-- both have one device
abbrev pub has_same_device : Slot → Slot → Bool
has_same_device a b = bytes_eq a.device b.device

-- both have a bootname, and the same
abbrev pub has_same_bootname : Slot → Slot → Bool
has_same_bootname a b = option_map_or (λ name. is_at a.bootname name) b.bootname false

-- the names of two slots of which the test holds, the earlier one first
abbrev pub pair_if : (Slot → Slot → Bool) → Slot → Slot → Option (Text × Text)
pair_if test later earlier = if test earlier later then Some (earlier.name, later.name) else None

-- a slot at its place, with the first of the earlier ones that make such a pair with it
abbrev pub pair_with : (Slot → Slot → Bool) → List Slot → ℕ × Slot → Option (Text × Text)
pair_with test slots later = first_of (pair_if test later.1) (take later.0 slots)

-- the first slot that makes such a pair with an earlier one
abbrev pub first_pair : (Slot → Slot → Bool) → List Slot → Option (Text × Text)
first_pair test slots = first_of (pair_with test slots) (enumerate_from 0 slots)

-- the test by the code's word for it
abbrev pub test_for : Shared → Slot → Slot → Bool
test_for shared.Device = has_same_device
test_for shared.Bootname = has_same_bootname
