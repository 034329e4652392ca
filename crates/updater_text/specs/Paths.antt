-- Paths, by their texts alone.
use Rattle.std.specs.Prelude.{ℕ, ◌==◌, ◌&&◌, ◌||◌, Bool, List, length, slice_index, nat_eq, bytes_eq}
use Rattle.std.specs.List.{starts_with}

-- the path lies below the directory: it begins with it, and a slash follows
abbrev pub lies_under : List ℕ → List ℕ → Bool
lies_under directory path = starts_with nat_eq path directory && (slice_index path (length directory) == 47)

-- the path is the directory, or lies below it
abbrev pub is_within : List ℕ → List ℕ → Bool
is_within directory path = bytes_eq path directory || lies_under directory path
