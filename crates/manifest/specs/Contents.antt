-- What a manifest says.
use Rattle.std.specs.Prelude.{Bool, List, [], codes, map, Option, unwrap_or}
use Rattle.keyfile.specs.Groups.{Text, Group, get_in}
use Rattle.manifest.specs.Images.{class_of, file_of, has_hook, has_install_check, image_groups, is_adaptive}
use Rattle.manifest.specs.declared.image.ImageFile.{ImageFile}

-- what a bundle says of itself, as clauses see it
pub record BundleContent : Type 0 where
  pub compatible : Text
  pub version : Option Text
  pub description : Option Text
  pub build : Option Text

-- an image
pub record ImageContent : Type 0 where
  pub class : Text
  pub file : Option ImageFile
  pub pre : Bool
  pub install : Bool
  pub post : Bool
  pub adaptive : Bool

-- the whole
pub record Content : Type 0 where
  pub bundle : BundleContent
  pub hook_file : Option Text
  pub install_check : Bool
  pub images : List ImageContent

abbrev pub bundle_of : List Group → BundleContent
bundle_of groups = record {
  compatible = unwrap_or (get_in groups (codes "update") (codes "compatible")) [];
  version = get_in groups (codes "update") (codes "version");
  description = get_in groups (codes "update") (codes "description");
  build = get_in groups (codes "update") (codes "build");
}

-- the image of a group
abbrev pub image_of : List Group → Text → ImageContent
image_of groups group = record {
  class = class_of group;
  file = file_of groups group;
  pre = has_hook groups group (codes "pre-install");
  install = has_hook groups group (codes "install");
  post = has_hook groups group (codes "post-install");
  adaptive = is_adaptive groups group;
}

-- the images, in file order
abbrev pub images_of : List Group → List ImageContent
images_of groups = map (image_of groups) (image_groups groups)

-- what the groups say
unfoldable pub content : List Group → Content
content groups = record {
  bundle = bundle_of groups;
  hook_file = get_in groups (codes "hooks") (codes "filename");
  install_check = has_install_check groups;
  images = images_of groups;
}
