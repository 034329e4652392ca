-- The programs that check, mount and unmount a bundle: each as the child that is run.
use Rattle.std.specs.Prelude.{List, [], ◌∷◌, ◌++◌, true, codes, map}
use Rattle.std.specs.Option.{option_to_list}
use Rattle.keyfile.specs.Groups.{Text}
use Rattle.machine.specs.declared.world.Child.{Child}
use Rattle.machine.specs.declared.world.ChildClass.TheVariants as class
use Rattle.machine.specs.declared.world.Spares.{Spares}
use Rattle.system_conf.specs.Configuration.{Configuration}

-- the directory in which a bundle is mounted
abbrev pub mount_point : Configuration → Text
mount_point c = c.mount_prefix ++ codes "/bundle"

-- what a helper must leave alone: the devices of all slots, the status file, these files, and the boot variables
abbrev pub helper_spares : Configuration → List Text → Spares
helper_spares c files = record { disks = map (λ s. s.device) c.slots; files = option_to_list c.status_file ++ files; boot = true }

-- a helper with these arguments, and without variables
abbrev pub helper : Configuration → Text → List Text → List Text → Child
helper c program args files = record { class = class.Helper; program = program; args = args; env = []; spares = helper_spares c files }

-- the check of a bundle, which leaves what is mounted alone
abbrev pub check_child : Configuration → Text → Child
check_child c bundle = helper c c.helpers.check (bundle ∷ []) (mount_point c ∷ [])

abbrev pub mount_child : Configuration → Text → Child
mount_child c bundle = helper c c.helpers.mount (bundle ∷ mount_point c ∷ []) []

abbrev pub umount_child : Configuration → Child
umount_child c = helper c c.helpers.umount (mount_point c ∷ []) []

-- those that check and mount a bundle, in order
abbrev pub mounting : Configuration → Text → List Child
mounting c bundle = check_child c bundle ∷ mount_child c bundle ∷ []
