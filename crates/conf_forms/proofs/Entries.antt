-- The entries of a group at a place.
use Rattle.std.proofs.Common.{◌≡◌, ℕ, List, [], length, Some, None, slice_get, refl}
use Rattle.std.specs.Option.{option_map_or}
use Rattle.keyfile.specs.Groups.{Group, key_count}
use Rattle.conf_forms.specs.Searches.{entries_at}

pub length-entries_at : (groups : List Group) (at : ℕ) → length (entries_at groups at) ≡ key_count groups at
length-entries_at groups at =
    elim (slice_get groups at) as (λ o. length (option_map_or (λ (g : Group). g.1) o []) ≡ option_map_or (λ (g : Group). length g.1) o 0) [ Some g ↦ refl | None ↦ refl ]
