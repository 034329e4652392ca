-- The images of a manifest.
use Rattle.std.specs.Prelude.{ℕ, Bool, ◌&&◌, ◌||◌, not, nat_eq, List, [], codes, drop, filter, map, Option, is_some, option_and_then, option_map, unwrap_or}
use Rattle.std.specs.List.{list_any, starts_with}
use Rattle.updater_text.specs.Digests.{digest_of}
use Rattle.updater_text.specs.Numbers.{number_of}
use Rattle.updater_text.specs.declared.digest.Digest.{Digest}
use Rattle.keyfile.specs.Groups.{Text, Group, get_in}
use Rattle.keyfile.specs.Items.{items_of}
use Rattle.conf_forms.specs.Classes.{is_class}
use Rattle.conf_forms.specs.Lists.{is_among}
use Rattle.conf_forms.specs.Values.{value_with_form}
use Rattle.conf_forms.specs.declared.form.Form.{Form}
use Rattle.conf_forms.specs.declared.form.Form.TheVariants as form
use Rattle.manifest.specs.declared.image.ImageFile.{ImageFile}

-- the class of an image, by its group
abbrev pub class_of : Text → Text
class_of group = drop 6 group

-- `image.<class>`
abbrev pub is_image_group : Text → Bool
is_image_group group = starts_with nat_eq group (codes "image.") && is_class (class_of group)

-- the groups of the images, in file order
abbrev pub image_groups : List Group → List Text
image_groups groups = filter is_image_group (map (λ g. g.0) groups)

-- ---- hooks

-- the group names this hook, in a list of this form
abbrev pub names_hook : List Group → Form → Text → Text → Bool
names_hook groups form group hook = is_among (items_of (unwrap_or (value_with_form groups form group (codes "hooks")) [])) hook

abbrev pub has_hook : List Group → Text → Text → Bool
has_hook groups group hook = names_hook groups form.ImageHooks group hook

-- some hook
abbrev pub has_any_hook : List Group → Text → Bool
has_any_hook groups group = has_hook groups group (codes "pre-install") || (has_hook groups group (codes "install") || has_hook groups group (codes "post-install"))

-- the bundle has a hook that decides on the install
abbrev pub has_install_check : List Group → Bool
has_install_check groups = names_hook groups form.BundleHooks (codes "hooks") (codes "install-check")

-- some hook is named
abbrev pub is_hook_named : List Group → Bool
is_hook_named groups = has_install_check groups || list_any (has_any_hook groups) (image_groups groups)

-- ---- files

abbrev pub has_key : List Group → Text → Text → Bool
has_key groups group key = is_some (get_in groups group key)

-- some key of an image's file is there
abbrev pub has_file_key : List Group → Text → Bool
has_file_key groups group =
    has_key groups group (codes "filename") || (has_key groups group (codes "size") || (has_key groups group (codes "sha256") || has_key groups group (codes "adaptive")))

-- an image without a file: its hook installs it
abbrev pub is_without_file : List Group → Text → Bool
is_without_file groups group = has_hook groups group (codes "install") && not (has_file_key groups group)

abbrev pub size_of : List Group → Text → Option ℕ
size_of groups group = option_and_then number_of (get_in groups group (codes "size"))

abbrev pub digest_in : List Group → Text → Option Digest
digest_in groups group = option_and_then digest_of (get_in groups group (codes "sha256"))

-- the file of an image, where its name, size and digest are there
abbrev pub file_of : List Group → Text → Option ImageFile
file_of groups group =
    option_and_then (λ name. option_and_then (λ size. option_map (λ digest. record { name = name; size = size; digest = digest })
    (digest_in groups group)) (size_of groups group)) (get_in groups group (codes "filename"))

-- the image can be written by blocks that the device has
abbrev pub is_adaptive : List Group → Text → Bool
is_adaptive groups group = is_among (items_of (unwrap_or (get_in groups group (codes "adaptive")) [])) (codes "block-hash-index")
