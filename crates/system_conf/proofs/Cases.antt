-- Configurations and what they mean: the definitions, computed on small files.
use Rattle.std.proofs.Common.{◌≡◌, true, false, List, [], ◌∷◌, ◌++◌, map, Option, Some, None, codes, refl}
use Rattle.boot_model.specs.declared.boot_kind.BootKind.TheVariants as boot
use Rattle.keyfile.specs.Groups.{Text, Entry, Group}
use Rattle.system_conf.specs.Configuration.{Configuration, configuration}
use Rattle.system_conf.specs.Refusals.{first_refusal, missing, unknown_key, left_out, bad_value, bad_slot_name, too_many, same_device, same_bootname, no_parent, parent_cycle, child_boot_name, device_is_file}
use Rattle.system_conf.specs.declared.conf_refusal.ConfRefusal.{ConfRefusal}
use Rattle.system_conf.specs.declared.conf_refusal.ConfRefusal.TheVariants.{Missing, UnknownKey, LeftOut, BadValue, BadSlotName, SameDevice, SameBootName, NoParent, ParentCycle, ChildBootName, DeviceIsFile}
use Rattle.system_conf.specs.declared.slot.SlotKind.TheVariants as slot

abbrev key : Text → Text → List Entry
key name value = (name, value) ∷ []

abbrev group : Text → List Entry → List Group
group name entries = (name, entries) ∷ []

-- a system with two slots, and one with more keys of its own
abbrev base : List Entry
base = key (codes "compatible") (codes "Test") ++ key (codes "bootloader") (codes "grub") ++ key (codes "grubenv") (codes "/env") ++ key (codes "statusfile") (codes "/status")

abbrev rootfs_0 : List Group
rootfs_0 = group (codes "slot.rootfs.0") (key (codes "device") (codes "/dev/a") ++ key (codes "bootname") (codes "A"))

abbrev rootfs_1 : List Group
rootfs_1 = group (codes "slot.rootfs.1") (key (codes "device") (codes "/dev/b") ++ key (codes "bootname") (codes "B"))

abbrev system : List Entry → List Group
system more = group (codes "system") (base ++ more)

abbrev plain : List Group
plain = system [] ++ rootfs_0 ++ rootfs_1

-- the first slot, and a second one of these entries
abbrev beside_first : List Entry → List Group
beside_first entries = system [] ++ rootfs_0 ++ group (codes "slot.rootfs.1") entries

-- the first slot, and one more of this name
abbrev one_more : Text → List Group
one_more name = system [] ++ rootfs_0 ++ group name (key (codes "device") (codes "/dev/c"))

-- a system of this boot loader, data directory and further keys
abbrev other_system : Text → List Entry → List Group
other_system loader more = group (codes "system") (key (codes "compatible") (codes "Test") ++ key (codes "bootloader") loader ++ more) ++ rootfs_0

-- two slots that are each other's parents, or their own
abbrev parents : Text → Text → List Group
parents first second =
    system [] ++ group (codes "slot.rootfs.0") (key (codes "device") (codes "/dev/a") ++ key (codes "parent") first)
    ++ group (codes "slot.rootfs.1") (key (codes "device") (codes "/dev/b") ++ key (codes "parent") second)

-- a file, and its refusal
abbrev cases : List (List Group × Option ConfRefusal)
cases =
    (plain, None)
    -- mandatory keys, in their order, before all else
    ∷ ([], Some (Missing (codes "system") (codes "compatible")))
    ∷ (group (codes "x") [], Some (Missing (codes "system") (codes "compatible")))
    ∷ (group (codes "system") (key (codes "compatible") (codes "Test")) ++ rootfs_0, Some (Missing (codes "system") (codes "bootloader")))
    ∷ (beside_first [], Some (Missing (codes "slot.rootfs.1") (codes "device")))
    ∷ (group (codes "slot.rootfs.1") [] ++ other_system (codes "custom") [], Some (Missing (codes "slot.rootfs.1") (codes "device")))
    ∷ (other_system (codes "custom") [], Some (Missing (codes "handlers") (codes "bootloader-custom-backend")))
    ∷ (other_system (codes "custom") [] ++ group (codes "handlers") (key (codes "bootloader-custom-backend") (codes "/boot")), None)
    -- unknown groups and keys, in file order
    ∷ (plain ++ group (codes "slots") [], Some (UnknownKey (codes "slots") []))
    ∷ (system (key (codes "compatable") (codes "x")) ++ group (codes "slots") [], Some (UnknownKey (codes "system") (codes "compatable")))
    ∷ (plain ++ group (codes "slot.") (key (codes "size") (codes "1")), Some (UnknownKey (codes "slot.") (codes "size")))
    ∷ (plain ++ group (codes "keyring") (key (codes "path") (codes "x")) ++ group (codes "log.") (key (codes "a") []), None)
    ∷ (plain ++ group (codes "handlers") (key (codes "pre-install") (codes "/a") ++ key (codes "preinstall") (codes "/a")), Some (UnknownKey (codes "handlers") (codes "preinstall")))
    -- groups, keys and values that are left out
    ∷ (plain ++ group (codes "artifacts.a") (key (codes "x") (codes "y")), Some (LeftOut (codes "artifacts.a") []))
    ∷ (plain ++ group (codes "polling") [], Some (LeftOut (codes "polling") []))
    ∷ (system (key (codes "variant-name") (codes "v")) ++ group (codes "polling") [], Some (LeftOut (codes "system") (codes "variant-name")))
    ∷ (system (key (codes "activate-installed") (codes "0")), Some (LeftOut (codes "system") (codes "activate-installed")))
    ∷ (system (key (codes "activate-installed") (codes "1")), None)
    ∷ (other_system (codes "efi") (key (codes "statusfile") (codes "per-slot")), Some (LeftOut (codes "system") (codes "statusfile")))
    ∷ (beside_first (key (codes "device") (codes "/dev/b") ++ key (codes "resize") (codes "true")), Some (LeftOut (codes "slot.rootfs.1") (codes "resize")))
    ∷ (system (key (codes "resize") (codes "true") ++ key (codes "variant-name") (codes "v")), Some (UnknownKey (codes "system") (codes "resize")))
    -- values outside their form
    ∷ (beside_first (key (codes "device") (codes "dev/b")), Some (BadValue (codes "slot.rootfs.1") (codes "device")))
    ∷ (beside_first (key (codes "device") (codes "/dev/b/")), Some (BadValue (codes "slot.rootfs.1") (codes "device")))
    ∷ (beside_first (key (codes "device") (codes "/dev/../b")), Some (BadValue (codes "slot.rootfs.1") (codes "device")))
    ∷ (beside_first (key (codes "device") (codes "/dev/b") ++ key (codes "type") (codes "zfs")), Some (BadValue (codes "slot.rootfs.1") (codes "type")))
    ∷ (beside_first (key (codes "device") (codes "/dev/b") ++ key (codes "type") (codes "boot-mbr-switch")), None)
    ∷ (beside_first (key (codes "device") (codes "/dev/b") ++ key (codes "bootname") (codes "A B")), Some (BadValue (codes "slot.rootfs.1") (codes "bootname")))
    ∷ (beside_first (key (codes "device") (codes "/dev/b") ++ key (codes "readonly") (codes "yes")), Some (BadValue (codes "slot.rootfs.1") (codes "readonly")))
    ∷ (other_system (codes "lilo") [], Some (BadValue (codes "system") (codes "bootloader")))
    ∷ (other_system (codes "uboot") (key (codes "boot-attempts") (codes "10")), Some (BadValue (codes "system") (codes "boot-attempts")))
    ∷ (other_system (codes "uboot") (key (codes "boot-attempts") (codes "03")), None)
    ∷ (other_system (codes "noop") (key (codes "mountprefix") (codes "/")), Some (BadValue (codes "system") (codes "mountprefix")))
    ∷ (plain ++ group (codes "x-helpers") (key (codes "bundle-check") (codes "check")), Some (BadValue (codes "x-helpers") (codes "bundle-check")))
    ∷ (system [] ++ group (codes "slot.b") (key (codes "device") (codes "b")), Some (BadValue (codes "slot.b") (codes "device")))
    -- places that are taken
    ∷ (other_system (codes "efi") (key (codes "statusfile") (codes "/mnt/rauc")), Some (BadValue (codes "system") (codes "statusfile")))
    ∷ (other_system (codes "efi") (key (codes "mountprefix") (codes "/m/") ++ key (codes "data-directory") (codes "/m/d/")), Some (BadValue (codes "system") (codes "data-directory")))
    ∷ (other_system (codes "efi") (key (codes "statusfile") (codes "/mnt/raucus")), None)
    ∷ (other_system (codes "efi") (key (codes "statusfile") (codes "/d/index.rootfs.0") ++ key (codes "data-directory") (codes "/d")), Some (BadValue (codes "system") (codes "statusfile")))
    ∷ (other_system (codes "grub") (key (codes "statusfile") (codes "/boot/grub/grubenv")), Some (BadValue (codes "system") (codes "statusfile")))
    ∷ (other_system (codes "efi") (key (codes "statusfile") (codes "/boot/grub/grubenv")), None)
    ∷ (other_system (codes "grub") (key (codes "grubenv") (codes "/d/central.raucs") ++ key (codes "data-directory") (codes "/d/")), Some (BadValue (codes "system") (codes "grubenv")))
    -- names of slots
    ∷ (one_more (codes "slot.rootfs.01"), Some (BadSlotName (codes "slot.rootfs.01")))
    ∷ (one_more (codes "slot.rootfs"), Some (BadSlotName (codes "slot.rootfs")))
    ∷ (one_more (codes "slot..1"), Some (BadSlotName (codes "slot..1")))
    ∷ (one_more (codes "slot.root.fs.1"), Some (BadSlotName (codes "slot.root.fs.1")))
    ∷ (one_more (codes "slot.rootfs.4294967296"), Some (BadSlotName (codes "slot.rootfs.4294967296")))
    ∷ (one_more (codes "slot.rootfs.4294967295"), None)
    -- what slots share
    ∷ (beside_first (key (codes "device") (codes "/dev/a") ++ key (codes "bootname") (codes "A")), Some (SameDevice (codes "rootfs.0") (codes "rootfs.1")))
    ∷ (beside_first (key (codes "device") (codes "/dev/b") ++ key (codes "bootname") (codes "A")), Some (SameBootName (codes "rootfs.0") (codes "rootfs.1")))
    ∷ (plain ++ group (codes "slot.a.0") (key (codes "device") (codes "/dev/b")) ++ group (codes "slot.b.0") (key (codes "device") (codes "/dev/a")), Some (SameDevice (codes "rootfs.1") (codes "a.0")))
    -- parents
    ∷ (beside_first (key (codes "device") (codes "/dev/b") ++ key (codes "parent") (codes "rootfs.2")), Some (NoParent (codes "rootfs.1")))
    ∷ (parents (codes "rootfs.1") (codes "rootfs.0"), Some (ParentCycle (codes "rootfs.0")))
    ∷ (parents (codes "rootfs.0") (codes "rootfs.0"), Some (ParentCycle (codes "rootfs.0")))
    ∷ (beside_first (key (codes "device") (codes "/dev/b") ++ key (codes "parent") (codes "rootfs.1")), Some (ParentCycle (codes "rootfs.1")))
    ∷ (beside_first (key (codes "device") (codes "/dev/b") ++ key (codes "parent") (codes "rootfs.0")), None)
    ∷ (beside_first (key (codes "device") (codes "/status") ++ key (codes "bootname") (codes "B") ++ key (codes "parent") (codes "rootfs.0")), Some (ChildBootName (codes "rootfs.1")))
    -- devices that are files of the updater
    ∷ (beside_first (key (codes "device") (codes "/status")), Some (DeviceIsFile (codes "rootfs.1")))
    ∷ (beside_first (key (codes "device") (codes "/env")), Some (DeviceIsFile (codes "rootfs.1")))
    ∷ (beside_first (key (codes "device") (codes "/mnt/rauc/b")), Some (DeviceIsFile (codes "rootfs.1")))
    ∷ (beside_first (key (codes "device") (codes "/mnt/rauc")), None) ∷ []

refused : map (λ c. first_refusal c.0) cases ≡ map (λ c. c.1) cases
unfolding missing unknown_key left_out bad_value bad_slot_name too_many same_device same_bootname no_parent parent_cycle child_boot_name device_is_file configuration
refused = refl

-- a file with most settings, and what it means
abbrev gateway : List Group
gateway =
    group (codes "system") (key (codes "compatible") (codes "Acme Gateway") ++ key (codes "bootloader") (codes "uboot") ++ key (codes "data-directory") (codes "/data/rauc/") ++ key (codes "bundle-formats") (codes "-plain"))
    ++ group (codes "keyring") (key (codes "path") (codes "/etc/rauc/keyring.pem"))
    ++ group (codes "handlers") (key (codes "post-install") (codes "/usr/lib/rauc/post"))
    ++ group (codes "slot.rootfs.0") (key (codes "device") (codes "/dev/mmcblk0p2") ++ key (codes "type") (codes "ext4") ++ key (codes "bootname") (codes "A"))
    ++ group (codes "slot.appfs.0") (key (codes "device") (codes "/dev/mmcblk0p4") ++ key (codes "type") (codes "nand") ++ key (codes "parent") (codes "rootfs.0") ++ key (codes "install-same") (codes "0"))

gateway_accepted : first_refusal gateway ≡ None
unfolding missing unknown_key left_out bad_value bad_slot_name too_many same_device same_bootname no_parent parent_cycle child_boot_name device_is_file configuration
gateway_accepted = refl

abbrev gateway_configuration : Configuration
gateway_configuration = record {
  compatible = codes "Acme Gateway";
  boot = boot.Uboot 3 3;
  mount_prefix = codes "/mnt/rauc";
  status_file = Some (codes "/data/rauc/central.raucs");
  data_directory = Some (codes "/data/rauc");
  pre_install = None;
  post_install = Some (codes "/usr/lib/rauc/post");
  helpers = record { check = codes "/usr/libexec/rauc/bundle-check"; mount = codes "/usr/libexec/rauc/bundle-mount"; umount = codes "/usr/libexec/rauc/bundle-umount" };
  slots =
      record { name = codes "rootfs.0"; class = codes "rootfs"; index = 0; device = codes "/dev/mmcblk0p2"; kind = slot.Ext4; bootname = Some (codes "A"); parent = None; allow_mounted = false; readonly = false; install_same = true }
      ∷ record { name = codes "appfs.0"; class = codes "appfs"; index = 0; device = codes "/dev/mmcblk0p4"; kind = slot.Unwritten (codes "nand"); bootname = None; parent = Some 0; allow_mounted = false; readonly = false; install_same = false }
      ∷ [];
}

gateway_read : configuration gateway ≡ gateway_configuration
unfolding configuration
gateway_read = refl
