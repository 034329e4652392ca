-- The slots of the groups that were read.
use Rattle.std.proofs.Common.{◌≡◌, List, [], ◌∷◌, map, Option, refl, sym, ◌∙◌, ap}
use Rattle.keyfile.specs.Groups.{Text, Group}
use Rattle.conf_forms.specs.declared.slot_name.SlotGroup.{SlotGroup}
use Rattle.conf_forms.specs.Lists.{first_of}
use Rattle.conf_forms.specs.SlotNames.{parts, slot_parts, slot_groups}
use Rattle.conf_forms.proofs.SlotNames.{groups_read}
use Rattle.system_conf.specs.declared.slot.Slot.{Slot}
use Rattle.system_conf.specs.Slots.{slot_of, slots_of}
use Rattle.conf_forms.proofs.FirstOf.{first_of-map}

-- the first answer along them
pub first_of-groups : {B : Type 0} (f : Text → Option B) (groups : List Group) (slots : List SlotGroup) → map parts slots ≡ slot_parts groups → first_of (λ (s : SlotGroup). f s.group.now) slots ≡ first_of f (slot_groups groups)
first_of-groups f groups slots h = sym (first_of-map f (λ (s : SlotGroup). s.group.now) slots) ∙ ap (first_of f) (groups_read groups slots h)

-- the slots of the groups that were read
pub slots_read : (groups : List Group) (slots : List SlotGroup) → map parts slots ≡ slot_parts groups → map (λ (s : SlotGroup). slot_of groups s.group.now) slots ≡ slots_of groups
slots_read groups slots h = sym (map_twice slots) ∙ ap (map (slot_of groups)) (groups_read groups slots h)
  where
    map_twice : (slots : List SlotGroup) → map (slot_of groups) (map (λ (s : SlotGroup). s.group.now) slots) ≡ map (λ (s : SlotGroup). slot_of groups s.group.now) slots
    map_twice [] = refl
    map_twice (s ∷ slots) = ap (λ (more : List Slot). slot_of groups s.group.now ∷ more) (map_twice slots)
