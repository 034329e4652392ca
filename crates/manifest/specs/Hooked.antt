-- The hooks of a manifest have their file.
use Rattle.std.specs.Prelude.{Bool, ◌||◌, not, List, Option, is_some}
use Rattle.std.specs.List.{list_any}
use Rattle.keyfile.specs.Groups.{Text}
use Rattle.manifest.specs.declared.image.Image.{Image}

-- an image names a hook
abbrev pub is_hooked : Image → Bool
is_hooked i = i.pre || (i.install || i.post)

-- the file of the hooks is there, where one is named
abbrev pub has_hook_file : Option Text → Bool → List Image → Bool
has_hook_file hook_file install_check images = is_some hook_file || not (install_check || list_any is_hooked images)
