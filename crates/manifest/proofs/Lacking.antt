-- The mandatory keys of a manifest, one after another.
use Rattle.std.proofs.Common.{◌≡◌, List, [], ◌∷◌, Option, Some, None, codes, refl, sym, ◌∙◌, ap}
use Rattle.std.specs.Prelude.{flat_map}
use Rattle.keyfile.specs.Groups.{Text, Group}
use Rattle.conf_forms.specs.Lists.{first_of, or_else}
use Rattle.conf_forms.specs.Walks.{missing_key}
use Rattle.conf_forms.proofs.FirstOf.{first_of-append}
use Rattle.manifest.specs.Images.{image_groups}
use Rattle.manifest.specs.Mandatory.{first_missing, hook_keys, image_keys}

first_of-flat_map : {A B C : Type 0} (f : B → Option C) (g : A → List B) (xs : List A) → first_of f (flat_map g xs) ≡ first_of (λ x. first_of f (g x)) xs
first_of-flat_map f g [] = refl
first_of-flat_map f g (x ∷ xs) = first_of-append f (g x) (flat_map g xs) ∙ ap (or_else (first_of f (g x))) (first_of-flat_map f g xs)

module _ (groups : List Group) where
  abbrev in_images : List Text → Option (Text × Text)
  in_images = first_of (λ group. first_of (missing_key groups) (image_keys groups group))

  abbrev of_bundle : Option (Text × Text)
  of_bundle = missing_key groups (codes "update", codes "compatible")

  -- the first of the three that lacks one
  pub missing_by_parts : first_missing groups ≡ or_else of_bundle (or_else (in_images (image_groups groups)) (first_of (missing_key groups) (hook_keys groups)))
  missing_by_parts =
      ap (or_else of_bundle) (first_of-append (missing_key groups) (flat_map (image_keys groups) (image_groups groups)) (hook_keys groups)
      ∙ ap (λ (o : Option (Text × Text)). or_else o (first_of (missing_key groups) (hook_keys groups))) (first_of-flat_map (missing_key groups) (image_keys groups) (image_groups groups)))

  pub lacks_in_image : (images : List Text) (place : Text × Text) → images ≡ image_groups groups → None ≡ of_bundle → Some place ≡ in_images images → Some place ≡ first_missing groups
  lacks_in_image images place same bundle is =
      sym (missing_by_parts ∙ ap (λ (o : Option (Text × Text)). or_else o (or_else (in_images (image_groups groups)) (first_of (missing_key groups) (hook_keys groups)))) (sym bundle)
      ∙ ap (λ (o : Option (Text × Text)). or_else o (first_of (missing_key groups) (hook_keys groups))) (sym (is ∙ ap in_images same)))

  pub lacks_hooks : (images : List Text) (found : Option (Text × Text)) → images ≡ image_groups groups → None ≡ of_bundle → None ≡ in_images images → found ≡ first_of (missing_key groups) (hook_keys groups) → found ≡ first_missing groups
  lacks_hooks images found same bundle none is =
      is ∙ sym (missing_by_parts ∙ ap (λ (o : Option (Text × Text)). or_else o (or_else (in_images (image_groups groups)) (first_of (missing_key groups) (hook_keys groups)))) (sym bundle)
      ∙ ap (λ (o : Option (Text × Text)). or_else o (first_of (missing_key groups) (hook_keys groups))) (sym (none ∙ ap in_images same)))
