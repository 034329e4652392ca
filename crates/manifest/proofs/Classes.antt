-- The images of a manifest are for classes of their own.
use Rattle.std.proofs.Common.{◌≡◌, true, List, [], ◌∷◌, map, codes, refl, sym, ◌∙◌, ap, subst}
use Rattle.std.specs.List.{IsDistinct}
use Rattle.std.specs.Str.{bytes_eq}
use Rattle.keyfile.specs.Groups.{Text, Group}
use Rattle.conf_forms.proofs.Distinct.{IsDistinct-parts, all_distinct_by}
use Rattle.manifest.specs.Contents.{ImageContent, image_of, images_of}
use Rattle.manifest.specs.Distinct.{classes_differ}
use Rattle.manifest.specs.Images.{class_of, image_groups, is_image_group}
use Rattle.manifest.specs.Reads.{image_contents}
use Rattle.manifest.specs.declared.image.Image.{Image}
use Rattle.manifest.proofs.Passed.{image_named}

classes_in : (images : List Image) → map (λ (i : Image). i.class) images ≡ map (λ (c : ImageContent). c.class) (image_contents images)
classes_in [] = refl
classes_in (i ∷ images) = ap (λ (more : List Text). i.class ∷ more) (classes_in images)

classes_of : (groups : List Group) (names : List Text) → map (λ (c : ImageContent). c.class) (map (image_of groups) names) ≡ map class_of names
classes_of groups [] = refl
classes_of groups (n ∷ names) = ap (λ (more : List Text). class_of n ∷ more) (classes_of groups names)

pub classes_apart : (groups : List Group) (images : List Image) → IsDistinct bytes_eq (map (λ (g : Group). g.0) groups) → image_contents images ≡ images_of groups → classes_differ images ≡ true
classes_apart groups images differ same =
    let as_groups : map (λ (i : Image). i.class) images ≡ map class_of (image_groups groups) =
    classes_in images ∙ ap (map (λ (c : ImageContent). c.class)) same ∙ classes_of groups (image_groups groups) in
    all_distinct_by (map (λ (i : Image). i.class) images)
    (subst (λ (classes : List Text). IsDistinct bytes_eq classes) (sym as_groups)
    (IsDistinct-parts is_image_group (codes "image.") class_of (λ g h. (image_named g h).0) (map (λ (g : Group). g.0) groups) differ))
