-- The names of a map of texts differ.
use Rattle.std.proofs.Common.{◌≡◌, false, List, [], ◌∷◌, map, string_bytes}
use Rattle.std.specs.List.{IsDistinct, AllByRecursion}
use Rattle.std.specs.Map.{keys_of}
use Rattle.std.specs.Str.{bytes_eq}
use Rattle.std.specs.String.{string_eq}
use Rattle.keyfile.proofs.Maps.{Name, Inner}
use Rattle.keyfile.specs.Groups.{Group, groups_in}

names-groups_in : (es : List (Name × Inner)) (k : Name) → AllByRecursion (λ j. string_eq k j ≡ false) (keys_of es) → AllByRecursion (λ t. bytes_eq (string_bytes k) t ≡ false) (map (λ (g : Group). g.0) (groups_in es))
names-groups_in [] k h = tt
names-groups_in (e ∷ es) k h = (h.0, names-groups_in es k h.1)

pub IsDistinct-groups_in : (es : List (Name × Inner)) → IsDistinct string_eq (keys_of es) → IsDistinct bytes_eq (map (λ (g : Group). g.0) (groups_in es))
unfolding IsDistinct
IsDistinct-groups_in [] h = tt
IsDistinct-groups_in (e ∷ es) h = (names-groups_in es e.0 h.0, IsDistinct-groups_in es h.1)
