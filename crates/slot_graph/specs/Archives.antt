-- Which files are archives, by their names.
use Rattle.std.specs.Prelude.{ℕ, ◌==◌, Bool, ◌||◌, List, drop, codes, bytes_eq, nat_eq}
use Rattle.std.specs.List.{after_last, ends_with, list_any, slice_split}

-- what follows the last slash of a path, or all of it where it has none
abbrev pub file_name : List ℕ → List ℕ
file_name path = after_last (λ b. b == 47) path

-- the extensions of a name: what stands after each of its dots, up to the next
abbrev pub extensions : List ℕ → List (List ℕ)
extensions name = drop 1 (slice_split (λ b. b == 46) name)

-- an archive: one of its extensions is `tar`, or the last is `catar`
abbrev pub is_archive_name : List ℕ → Bool
is_archive_name name = ends_with nat_eq name (codes ".catar") || list_any (λ part. bytes_eq part (codes "tar")) (extensions name)

-- the file at a path, by its name
abbrev pub is_archive : List ℕ → Bool
is_archive path = is_archive_name (file_name path)
