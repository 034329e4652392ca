-- What the writer does with the keys of a record.
use Rattle.std.specs.Prelude.{List, Option, Some, None, fold}
use Rattle.keyfile.specs.Groups.{Text, Group, put_in}
use Rattle.slot_status.specs.Texts.{Row}

-- a key of a group takes its value, where there is one
abbrev pub put_if_any : Text → List Group → Text → Option Text → List Group
put_if_any group groups key (Some value) = put_in groups group key value
put_if_any group groups key None = groups

-- the same of a row
abbrev pub put_row : Text → List Group → Row → List Group
put_row group groups row = put_if_any group groups row.0 row.1

-- and of all rows, one after another
abbrev pub put_rows : Text → List Group → List Row → List Group
put_rows group groups given = fold (put_row group) groups given
