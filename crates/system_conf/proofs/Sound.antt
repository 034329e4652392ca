-- A configuration that is not refused is sound.
use Rattle.std.proofs.Common.{◌≡◌, true, List, map, Option, None, sym, ◌∙◌, ap, subst}
use Rattle.std.specs.Prelude.{is_none}
use Rattle.std.specs.List.{IsDistinct}
use Rattle.std.specs.Str.{bytes_eq}
use Rattle.keyfile.specs.Groups.{Group}
use Rattle.conf_forms.specs.Lists.{first_of}
use Rattle.system_conf.specs.Configuration.{Configuration, configuration}
use Rattle.system_conf.specs.Settings.{settings_of}
use Rattle.system_conf.specs.declared.settings.Settings.{Settings}
use Rattle.system_conf.specs.declared.slot.Slot.{Slot}
use Rattle.system_conf.specs.OwnFiles.{own_device, own_files, own_files_of}
use Rattle.system_conf.specs.Refusals.{child_boot_name, device_is_file, first_some, group_refusals, no_parent, parent_cycle, same_bootname, same_device, slot_refusals, too_many}
use Rattle.system_conf.specs.Slots.{slots_of}
use Rattle.system_conf.specs.Sound.{AreSlotsSound, IsSound}
use Rattle.system_conf.specs.Values.{data_directory_of, mount_prefix_of, status_file_of}
use Rattle.system_conf.proofs.Apart.{places_apart}
use Rattle.system_conf.proofs.Differ.{IsDistinct-slots_of}
use Rattle.system_conf.proofs.Soundness.{boot_file-boot_of, left_none, parents_read, right_none}
use Rattle.system_conf.proofs.WellFormed.{bad_value_none, boot_formed, helpers_formed, missing_none, nothing_own, slots_formed, values_formed}

own_same : (groups : List Group) → own_files (configuration groups) ≡ own_files_of groups
unfolding configuration
own_same groups = λ i. record { status_file = status_file_of groups; grub_file = boot_file-boot_of groups i; data_directory = data_directory_of groups; mount_prefix = mount_prefix_of groups }

none_true : {A : Type 0} (o : Option A) → o ≡ None → is_none o ≡ true
none_true o e = ap is_none e

slots_sound : (groups : List Group) → IsDistinct bytes_eq (map (λ (g : Group). g.0) groups) → first_some (group_refusals groups) ≡ None → first_some (slot_refusals groups (slots_of groups)) ≡ None → AreSlotsSound (slots_of groups)
slots_sound groups differ groups_pass slots_pass =
    let slots = slots_of groups in
    let h = sym slots_pass in
    let h1 = right_none (too_many slots) _ h in
    let h2 = right_none (same_device slots) _ h1 in
    let h3 = right_none (same_bootname slots) _ h2 in
    let h4 = right_none (no_parent groups) _ h3 in
    let h5 = right_none (parent_cycle slots) _ h4 in
    record {
      names_differ = IsDistinct-slots_of groups differ;
      few = none_true (too_many slots) (left_none (too_many slots) _ h);
      devices_differ = none_true (same_device slots) (left_none (same_device slots) _ h1);
      bootnames_differ = none_true (same_bootname slots) (left_none (same_bootname slots) _ h2);
      parents_stand = parents_read groups;
      chains_end = none_true (parent_cycle slots) (left_none (parent_cycle slots) _ h4);
      no_bootable_child = none_true (child_boot_name slots) (left_none (child_boot_name slots) _ h5);
      formed = slots_formed groups (missing_none groups (sym groups_pass)) (bad_value_none groups (sym groups_pass));
    }

no_own_device : (groups : List Group) → first_some (slot_refusals groups (slots_of groups)) ≡ None → device_is_file groups (slots_of groups) ≡ None
no_own_device groups slots_pass =
    let slots = slots_of groups in
    let h3 = right_none (same_bootname slots) _ (right_none (same_device slots) _ (right_none (too_many slots) _ (sym slots_pass))) in
    let h6 = right_none (child_boot_name slots) _ (right_none (parent_cycle slots) _ (right_none (no_parent groups) _ h3)) in
    left_none (device_is_file groups slots) _ h6

pub configuration_sound : (groups : List Group) → IsDistinct bytes_eq (map (λ (g : Group). g.0) groups) → first_some (group_refusals groups) ≡ None → first_some (slot_refusals groups (slots_of groups)) ≡ None → IsSound (configuration groups)
unfolding configuration
configuration_sound groups differ groups_pass slots_pass =
    let there = missing_none groups (sym groups_pass) in
    let fine = bad_value_none groups (sym groups_pass) in
    record {
      slots = slots_sound groups differ groups_pass slots_pass;
      values_formed = values_formed groups there fine;
      boot_formed = boot_formed groups there fine;
      helpers_formed = helpers_formed groups;
      devices_apart =
          (λ i. is_none (first_of (own_device (own_same groups i)) (slots_of groups)))
          ∙ none_true (first_of (own_device (own_files_of groups)) (slots_of groups)) (nothing_own groups (slots_of groups) (no_own_device groups slots_pass));
      places_apart = places_apart groups fine;
    }

-- ---- the parts that the code reads

abbrev pub configuration_with : Settings → List Slot → Configuration
configuration_with settings slots = record {
  compatible = settings.compatible;
  boot = settings.boot;
  mount_prefix = settings.paths.mount_prefix;
  status_file = settings.paths.status_file;
  data_directory = settings.paths.data_directory;
  pre_install = settings.programs.pre_install;
  post_install = settings.programs.post_install;
  helpers = settings.programs.helpers;
  slots = slots;
}

pub configuration_read : (groups : List Group) (settings : Settings) (slots : List Slot) → settings ≡ settings_of groups → slots ≡ slots_of groups → configuration_with settings slots ≡ configuration groups
unfolding configuration
configuration_read groups settings slots is are = λ i. configuration_with (is i) (are i)

pub sound_with : (groups : List Group) (settings : Settings) (slots : List Slot) → settings ≡ settings_of groups → slots ≡ slots_of groups → IsDistinct bytes_eq (map (λ (g : Group). g.0) groups)
    → first_some (group_refusals groups) ≡ None → first_some (slot_refusals groups slots) ≡ None → IsSound (configuration_with settings slots)
sound_with groups settings slots is are differ groups_pass slots_pass =
    subst IsSound (sym (configuration_read groups settings slots is are))
    (configuration_sound groups differ groups_pass (ap (λ (all : List Slot). first_some (slot_refusals groups all)) (sym are) ∙ slots_pass))
