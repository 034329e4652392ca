-- The groups of the images, read one after another.
use Rattle.std.proofs.Common.{◌≡◌, ◌<◌, ℕ, ◌+◌, List, [], ◌∷◌, ◌++◌, length, map, filter, take, Option, Some, None, slice_get, option_map, arith, refl, sym, ◌∙◌, ap}
use Rattle.std.proofs.lemmas.List.{map-append, take_more}
use Rattle.std.proofs.lemmas.List.Elements.{filter-append}
use Rattle.std.proofs.lemmas.Option.{get_or_from_slice_get, slice_get_within, slice_get-get_or}
use Rattle.keyfile.specs.Groups.{Text, Group}
use Rattle.manifest.specs.Images.{image_groups, is_image_group}

one_of : {A : Type 0} (x y : A) → Some x ≡ Some y → x ≡ y
one_of x y e = cc

one_more : (groups : List Group) (at : ℕ) (g : Group) → slice_get groups at ≡ Some g → image_groups (take (at + 1) groups) ≡ image_groups (take at groups) ++ filter is_image_group (g.0 ∷ [])
one_more groups at g is =
    ap image_groups (take_more groups at g (slice_get_within groups at g is) ∙ ap (λ (h : Group). take at groups ++ h ∷ []) (get_or_from_slice_get groups at g g is))
    ∙ ap (filter is_image_group) (map-append (λ (h : Group). h.0) (take at groups) (g ∷ []))
    ∙ filter-append is_image_group (map (λ (h : Group). h.0) (take at groups)) (g.0 ∷ [])

pub images_more : (groups : List Group) (at : ℕ) (name : Text) → Some name ≡ option_map (λ (g : Group). g.0) (slice_get groups at) → image_groups (take (at + 1) groups) ≡ image_groups (take at groups) ++ filter is_image_group (name ∷ [])
images_more groups at name h = go (slice_get groups at) refl h
  where
    go : (o : Option Group) → slice_get groups at ≡ o → Some name ≡ option_map (λ (g : Group). g.0) o → image_groups (take (at + 1) groups) ≡ image_groups (take at groups) ++ filter is_image_group (name ∷ [])
    go (Some g) is e = one_more groups at g is ∙ ap (λ (n : Text). image_groups (take at groups) ++ filter is_image_group (n ∷ [])) (sym (one_of name g.0 e))
    go None is e = absurd (cc)

past : (gs : List Group) (i : ℕ) → i < length gs → slice_get gs i ≡ None → ⊥
past [] i within e = absurd (omega (arith, within))
past (g ∷ gs) i within e = let there = slice_get-get_or (g ∷ gs) i g within in cc

-- a place that is within names a group
pub named_within : (groups : List Group) (at : ℕ) → at < length groups → None ≡ option_map (λ (g : Group). g.0) (slice_get groups at) → ⊥
named_within groups at within none = go (slice_get groups at) refl none
  where
    go : (o : Option Group) → slice_get groups at ≡ o → None ≡ option_map (λ (g : Group). g.0) o → ⊥
    go (Some g) is e = cc
    go None is e = past groups at within is
