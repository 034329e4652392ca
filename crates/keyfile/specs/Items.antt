-- Values that are lists.
use Rattle.std.specs.Prelude.{◌==◌, List, [], ◌∷◌, length, if◌then◌else◌}
use Rattle.std.specs.List.{slice_split}
use Rattle.keyfile.specs.Groups.{Text}

-- without an empty last piece
abbrev pub without_empty_last : List Text → List Text
without_empty_last [] = []
without_empty_last (x ∷ []) = if length x == 0 then [] else x ∷ []
without_empty_last (x ∷ y ∷ more) = x ∷ without_empty_last (y ∷ more)

-- the items of a list value, which stand between semicolons
abbrev pub items_of : Text → List Text
items_of value = without_empty_last (slice_split (λ b. b == 59) value)
