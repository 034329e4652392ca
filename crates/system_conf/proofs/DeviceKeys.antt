-- The mandatory keys of the slots that were read.
use Rattle.std.proofs.Common.{◌≡◌, List, map, codes, sym, ◌∙◌}
use Rattle.keyfile.specs.Groups.{Text, Group}
use Rattle.conf_forms.specs.Lists.{first_of}
use Rattle.conf_forms.specs.Walks.{missing_key}
use Rattle.system_conf.specs.Mandatory.{device_keys}
use Rattle.conf_forms.specs.SlotNames.{parts, slot_parts, slot_groups}
use Rattle.conf_forms.specs.declared.slot_name.SlotGroup.{SlotGroup}
use Rattle.conf_forms.proofs.FirstOf.{first_of-map}
use Rattle.system_conf.proofs.SlotGroups.{first_of-groups}

pub first_of-device_keys : (groups : List Group) (slots : List SlotGroup) → map parts slots ≡ slot_parts groups
    → first_of (λ (s : SlotGroup). missing_key groups (s.group.now, codes "device")) slots ≡ first_of (missing_key groups) (device_keys groups)
first_of-device_keys groups slots h =
    first_of-groups (λ (g : Text). missing_key groups (g, codes "device")) groups slots h ∙ sym (first_of-map (missing_key groups) (λ (g : Text). (g, codes "device")) (slot_groups groups))
