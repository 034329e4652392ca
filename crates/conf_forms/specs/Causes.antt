-- What is the matter with a place in a file, in words.
use Rattle.std.specs.Prelude.{◌==◌, ◌++◌, codes, length, if◌then◌else◌}
use Rattle.keyfile.specs.Groups.{Text}

-- a group, where the key is empty, or a key of it, and what is the matter with it
abbrev pub place_cause : Text → Text → Text → Text
place_cause group key matter =
    if length key == 0 then codes "[" ++ (group ++ (codes "] " ++ matter))
    else codes "[" ++ (group ++ (codes "] " ++ (key ++ (codes " " ++ matter))))
