-- The hooks of a bundle and the handlers of a system: each as the child that is run.
use Rattle.std.specs.Prelude.{ℕ, ◌+◌, List, [], ◌∷◌, ◌++◌, true, codes, decimal, length, map, Option, None, option_and_then, slice_get, unwrap_or}
use Rattle.std.specs.List.{enumerate_from, flat_map, join_by, range_with_len}
use Rattle.std.specs.Option.{option_map_or, option_to_list}
use Rattle.hex.specs.Hex.{encode_lower}
use Rattle.keyfile.specs.Groups.{Text}
use Rattle.machine.specs.declared.world.Child.{Child}
use Rattle.machine.specs.declared.world.ChildClass.TheVariants as class
use Rattle.machine.specs.declared.world.EnvVar.{EnvVar}
use Rattle.machine.specs.declared.world.Spares.{Spares}
use Rattle.manifest.specs.Contents.{Content, ImageContent}
use Rattle.manifest.specs.declared.image.ImageFile.{ImageFile}
use Rattle.slot_graph.specs.declared.job.Job.{Job}
use Rattle.slot_graph.specs.declared.state.Booted.{Booted}
use Rattle.slot_graph.specs.declared.state.Booted.TheVariants as booted
use Rattle.system_conf.specs.Configuration.{Configuration}
use Rattle.system_conf.specs.Slots.{parent_name, word_of}
use Rattle.system_conf.specs.declared.slot.Slot.{Slot}
use Rattle.child_steps.specs.Children.{helper_spares, mount_point}
use Rattle.child_steps.specs.declared.handlers.HandlerKind.{HandlerKind}
use Rattle.child_steps.specs.declared.handlers.HandlerKind.TheVariants as handler
use Rattle.child_steps.specs.declared.hooks.HookKind.{HookKind}
use Rattle.child_steps.specs.declared.hooks.HookKind.TheVariants as hook

-- ---- variables

-- a variable, as a list of one
unfoldable pub var : Text → Text → List EnvVar
var name value = record { name = name; value = value } ∷ []

-- the same, where it has a value
abbrev pub var_if_any : Text → Option Text → List EnvVar
var_if_any name value = option_map_or (var name) value []

-- the name of the variable for the slot at a place: slots are numbered from 1
abbrev pub numbered : Text → ℕ → Text
numbered front at = front ++ decimal (at + 1)

-- the numbers of the slots at these places, with a blank between each two
abbrev pub numbers : List ℕ → Text
numbers places = join_by (λ at. decimal (at + 1)) (codes " ") places

-- a file of the bundle that is mounted
abbrev pub bundled : Configuration → Text → Text
bundled c name = mount_point c ++ (codes "/" ++ name)

-- ---- hooks

-- what each hook is told
unfoldable pub hook_vars : Configuration → Content → List EnvVar
hook_vars c manifest =
    var (codes "RAUC_SYSTEM_COMPATIBLE") c.compatible
    ++ (var (codes "RAUC_MF_COMPATIBLE") manifest.bundle.compatible
    ++ (var_if_any (codes "RAUC_MF_VERSION") manifest.bundle.version
    ++ (var (codes "RAUC_MOUNT_PREFIX") c.mount_prefix
    ++ var (codes "RAUC_BUNDLE_MOUNT_POINT") (mount_point c))))

-- what the hook of a slot is told of the slot
unfoldable pub slot_vars : List Slot → Slot → List EnvVar
slot_vars slots s =
    var (codes "RAUC_SLOT_NAME") s.name
    ++ (var (codes "RAUC_SLOT_CLASS") s.class
    ++ (var (codes "RAUC_SLOT_TYPE") (word_of s.kind)
    ++ (var (codes "RAUC_SLOT_DEVICE") s.device
    ++ (var_if_any (codes "RAUC_SLOT_BOOTNAME") s.bootname
    ++ var_if_any (codes "RAUC_SLOT_PARENT") (parent_name slots s)))))

-- what it is told of the image's file
unfoldable pub file_vars : Configuration → ImageFile → List EnvVar
file_vars c file =
    var (codes "RAUC_IMAGE_NAME") (bundled c file.name)
    ++ (var (codes "RAUC_IMAGE_SIZE") (decimal file.size)
    ++ var (codes "RAUC_IMAGE_DIGEST") (encode_lower file.digest.0))

-- what it is told of the image
abbrev pub image_vars : Configuration → ImageContent → List EnvVar
image_vars c image = option_map_or (file_vars c) image.file [] ++ var (codes "RAUC_IMAGE_CLASS") image.class

-- what it is told of the slot and the image of a job
abbrev pub job_vars : Configuration → Content → Job → List EnvVar
job_vars c manifest job =
    option_map_or (slot_vars c.slots) (slice_get c.slots job.slot) []
    ++ option_map_or (image_vars c) (slice_get manifest.images job.image) []

-- the argument of a slot's hook
abbrev pub hook_word : HookKind → Text
hook_word hook.Pre = codes "slot-pre-install"
hook_word hook.Install = codes "slot-install"
hook_word hook.Post = codes "slot-post-install"

-- the program of the hooks: their file, in the bundle that is mounted
abbrev pub hook_program : Configuration → Content → Text
hook_program c manifest = bundled c (unwrap_or manifest.hook_file [])

-- a hook with this argument
abbrev pub hook_child : Configuration → Content → Text → List EnvVar → Spares → Child
hook_child c manifest word env spares = record {
  class = class.Hook;
  program = hook_program c manifest;
  args = word ∷ [];
  env = env;
  spares = spares;
}

-- the hook that decides whether the bundle is installed; it leaves alone what a helper does, and what is mounted
abbrev pub check_hook : Configuration → Content → Child
check_hook c manifest = hook_child c manifest (codes "install-check") (hook_vars c manifest) (helper_spares c (mount_point c ∷ []))

-- a hook for the slot and the image of a job
abbrev pub slot_hook : Configuration → Content → Job → HookKind → Spares → Child
slot_hook c manifest job which spares =
    hook_child c manifest (hook_word which) (hook_vars c manifest ++ job_vars c manifest job) spares

-- ---- handlers

-- the bootname of the slot that is booted
abbrev pub booted_bootname : List Slot → Booted → Option Text
booted_bootname slots (booted.Slot at) = option_and_then (λ s. s.bootname) (slice_get slots at)
booted_bootname slots booted.External = None
booted_bootname slots booted.Unknown = None

-- what a handler is told of the bundle, of what is booted, and of the slots that there are and that get an image
unfoldable pub install_vars : Configuration → Booted → List Job → List EnvVar
install_vars c b jobs =
    var (codes "RAUC_UPDATE_SOURCE") (mount_point c)
    ++ (var (codes "RAUC_MOUNT_PREFIX") c.mount_prefix
    ++ (var (codes "RAUC_BUNDLE_MOUNT_POINT") (mount_point c)
    ++ (var_if_any (codes "RAUC_CURRENT_BOOTNAME") (booted_bootname c.slots b)
    ++ (var (codes "RAUC_SLOTS") (numbers (range_with_len 0 (length c.slots)))
    ++ var (codes "RAUC_TARGET_SLOTS") (numbers (map (λ j. j.slot) jobs))))))

-- what it is told of the slot at a place
unfoldable pub numbered_vars : List Slot → ℕ × Slot → List EnvVar
numbered_vars slots (at, s) =
    var (numbered (codes "RAUC_SLOT_NAME_") at) s.name
    ++ (var (numbered (codes "RAUC_SLOT_CLASS_") at) s.class
    ++ (var (numbered (codes "RAUC_SLOT_DEVICE_") at) s.device
    ++ (var (numbered (codes "RAUC_SLOT_TYPE_") at) (word_of s.kind)
    ++ (var_if_any (numbered (codes "RAUC_SLOT_BOOTNAME_") at) s.bootname
    ++ var_if_any (numbered (codes "RAUC_SLOT_PARENT_") at) (parent_name slots s)))))

abbrev pub handler_vars : Configuration → Booted → List Job → List EnvVar
handler_vars c b jobs = install_vars c b jobs ++ flat_map (numbered_vars c.slots) (enumerate_from 0 c.slots)

-- the name of a handler
abbrev pub handler_word : HandlerKind → Text
handler_word handler.Pre = codes "pre-install"
handler_word handler.Post = codes "post-install"

-- its program, where it is configured
abbrev pub handler_program : Configuration → HandlerKind → Option Text
handler_program c handler.Pre = c.pre_install
handler_program c handler.Post = c.post_install

abbrev pub handler_child : Configuration → Booted → List Job → HandlerKind → Spares → Child
handler_child c b jobs which spares = record {
  class = class.Handler;
  program = unwrap_or (handler_program c which) [];
  args = [];
  env = handler_vars c b jobs;
  spares = spares;
}

-- ---- what hooks of slots and handlers leave alone

-- these disks, the status file, what is mounted, and the boot variables
abbrev pub install_spares : Configuration → List Text → Spares
install_spares c disks = record { disks = disks; files = option_to_list c.status_file ++ mount_point c ∷ []; boot = true }
