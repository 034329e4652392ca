-- The keys that a manifest must have.
use Rattle.std.specs.Prelude.{List, [], ◌∷◌, ◌++◌, codes, flat_map, Option, if◌then◌else◌}
use Rattle.keyfile.specs.Groups.{Text, Group}
use Rattle.conf_forms.specs.Lists.{first_of}
use Rattle.conf_forms.specs.Walks.{missing_key}
use Rattle.manifest.specs.Images.{image_groups, is_hook_named, is_without_file}

-- the mandatory keys of an image, with its group
abbrev pub image_keys : List Group → Text → List (Text × Text)
image_keys groups group =
    if is_without_file groups group then []
    else (group, codes "filename") ∷ (group, codes "size") ∷ (group, codes "sha256") ∷ []

-- the mandatory key of the hooks
abbrev pub hook_keys : List Group → List (Text × Text)
hook_keys groups = if is_hook_named groups then (codes "hooks", codes "filename") ∷ [] else []

-- each mandatory key with its group
abbrev pub mandatory : List Group → List (Text × Text)
mandatory groups = (codes "update", codes "compatible") ∷ (flat_map (image_keys groups) (image_groups groups) ++ hook_keys groups)

-- the first of them that has no value
abbrev pub first_missing : List Group → Option (Text × Text)
first_missing groups = first_of (missing_key groups) (mandatory groups)
