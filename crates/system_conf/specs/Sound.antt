-- What holds of every system.
use Rattle.std.specs.Prelude.{Bool, true, IsTrue, List, length, map, nat_lt, is_none}
use Rattle.std.specs.Option.{option_map_or}
use Rattle.std.specs.List.{IsDistinct, list_all}
use Rattle.std.specs.Str.{bytes_eq}
use Rattle.conf_forms.specs.Lists.{first_of}
use Rattle.system_conf.specs.Configuration.{Configuration}
use Rattle.system_conf.specs.Formed.{are_apart, are_helpers_formed, are_values_formed, is_boot_formed, is_slot_formed}
use Rattle.system_conf.specs.OwnFiles.{own_device, own_files}
use Rattle.system_conf.specs.Refusals.{child_boot_name, parent_cycle, same_bootname, same_device, too_many}
use Rattle.system_conf.specs.declared.slot.Slot.{Slot}

-- each parent is the place of a slot
abbrev pub parents_stand : List Slot → Bool
parents_stand slots = list_all (λ s. option_map_or (λ p. nat_lt p (length slots)) s.parent true) slots

-- the slots have names of their own, are at most 64, share no device and no bootname; their chains of parents end at slots, and no child has a bootname
pub record AreSlotsSound (slots : List Slot) : Type 0 where
  pub names_differ : IsDistinct bytes_eq (map (λ s. s.name) slots)
  pub few : IsTrue (is_none (too_many slots))
  pub devices_differ : IsTrue (is_none (same_device slots))
  pub bootnames_differ : IsTrue (is_none (same_bootname slots))
  pub parents_stand : IsTrue (parents_stand slots)
  pub chains_end : IsTrue (is_none (parent_cycle slots))
  pub no_bootable_child : IsTrue (is_none (child_boot_name slots))
  pub formed : IsTrue (list_all is_slot_formed slots)

-- the slots are sound, all values have their forms, no device is a place of the updater, and none of these is another
pub record IsSound (c : Configuration) : Type 0 where
  pub slots : AreSlotsSound c.slots
  pub values_formed : IsTrue (are_values_formed c)
  pub boot_formed : IsTrue (is_boot_formed c.boot)
  pub helpers_formed : IsTrue (are_helpers_formed c.helpers)
  pub devices_apart : IsTrue (is_none (first_of (own_device (own_files c)) c.slots))
  pub places_apart : IsTrue (are_apart c)
