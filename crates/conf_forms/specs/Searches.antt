-- What a walk along a file looks for, by the code's word for it.
use Rattle.std.specs.Prelude.{ℕ, Bool, false, List, [], slice_get}
use Rattle.std.specs.Option.{option_map_or}
use Rattle.keyfile.specs.Groups.{Text, Entry, Group}
use Rattle.conf_forms.specs.Tables.{Table}
use Rattle.conf_forms.specs.Walks.{is_bad_entry, is_left_out_entry, is_left_out_group, is_unknown_group, is_unknown_key}
use Rattle.conf_forms.specs.declared.walk.Search.{Search}
use Rattle.conf_forms.specs.declared.walk.Search.TheVariants as search_for

-- in groups
abbrev pub in_group : Table → Search → Text → Bool
in_group table search_for.Unknown group = is_unknown_group table group
in_group table search_for.LeftOut group = is_left_out_group table group
in_group table search_for.Bad group = false

-- and in their keys
abbrev pub in_entry : Table → (Text → Entry → Bool) → Search → Text → Entry → Bool
in_entry table conflict search_for.Unknown group e = is_unknown_key table group e
in_entry table conflict search_for.LeftOut group e = is_left_out_entry table group e
in_entry table conflict search_for.Bad group e = is_bad_entry table conflict group e

-- the entries of the group at a place
abbrev pub entries_at : List Group → ℕ → List Entry
entries_at groups at = option_map_or (λ g. g.1) (slice_get groups at) []
