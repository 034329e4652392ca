-- What is left to write.
use Rattle.std.proofs.Common.{Bool, true, false, List, ◌∷◌, ◌++◌, []}
use Rattle.std.specs.List.{flat_map}
use Rattle.keyfile.specs.Canonical.{canonical, group_text}
use Rattle.keyfile.specs.Escapes.{escape, value_text}
use Rattle.keyfile.specs.Groups.{Text, Group}

-- of a value, in its leading run of spaces or behind it
abbrev pub left_of_value : Bool → Text → Text
left_of_value true value = value_text value
left_of_value false value = flat_map escape value

-- of the groups, where none is written yet or one is
abbrev pub left_of_groups : Bool → List Group → Text
left_of_groups true groups = canonical groups
left_of_groups false groups = flat_map (λ g. 10 ∷ [] ++ group_text g) groups
