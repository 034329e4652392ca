-- The text of a key file.
use Rattle.std.specs.Prelude.{List, [], ◌∷◌, ◌++◌}
use Rattle.std.specs.List.{flat_map, join_by}
use Rattle.keyfile.specs.Escapes.{value_text}
use Rattle.keyfile.specs.Groups.{Text, Entry, Group}

-- `key=value`
abbrev pub entry_text : Entry → Text
entry_text entry = entry.0 ++ 61 ∷ value_text entry.1 ++ 10 ∷ []

-- `[name]`, and a line for each key
abbrev pub group_text : Group → Text
group_text group = 91 ∷ group.0 ++ 93 ∷ 10 ∷ flat_map entry_text group.1

-- the groups, with an empty line between each two
abbrev pub canonical : List Group → Text
canonical groups = join_by group_text (10 ∷ []) groups
