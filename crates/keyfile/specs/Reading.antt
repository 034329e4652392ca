-- What a whole text says as a key file.
use Rattle.std.specs.Prelude.{ℕ, ◌+◌, not, nat_lt, List, [], ◌∷◌, ◌++◌, length, take, map, filter, filter_map, fold, Option, Some, None, is_some, unwrap_or, Result, Ok, Err, if◌then◌else◌}
use Rattle.std.specs.List.{enumerate_from}
use Rattle.std.specs.Str.{bytes_eq, is_utf8}
use Rattle.std.specs.Str.Lines.{lines}
use Rattle.std.specs.Str.Lossy.{utf8_valid_len}
use Rattle.keyfile.specs.Escapes.{unescape}
use Rattle.keyfile.specs.Groups.{Text, Entry, Group}
use Rattle.keyfile.specs.Lines.{Line, nothing, heading, entry, bad, line_of}
use Rattle.keyfile.specs.declared.fault.KeyFault.{KeyFault}
use Rattle.keyfile.specs.declared.fault.KeyFault.TheVariants as fault

-- the group that a line stands in below these lines, where the one in `above` holds at their start: the last heading's
abbrev pub group_below : Option Text → List Line → Option Text
group_below above [] = above
group_below above (nothing ∷ more) = group_below above more
group_below above (heading name ∷ more) = group_below (Some name) more
group_below above (entry key value ∷ more) = group_below above more
group_below above (bad ∷ more) = group_below above more

-- a heading or an entry, with the name of the group that it stands in
abbrev pub InGroup : Type 0
InGroup = Text × Option Entry

-- the entry of these lines, where it stands in a group
abbrev pub entry_in_group : Option Text → Text → Text → List InGroup
entry_in_group None key value = []
entry_in_group (Some name) key value = (name, Some (key, unwrap_or (unescape value) [])) ∷ []

-- each heading and each entry with its group
abbrev pub in_groups : Option Text → List Line → List InGroup
in_groups above [] = []
in_groups above (nothing ∷ more) = in_groups above more
in_groups above (heading name ∷ more) = (name, None) ∷ in_groups (Some name) more
in_groups above (entry key value ∷ more) = entry_in_group above key value ++ in_groups above more
in_groups above (bad ∷ more) = in_groups above more

-- the texts, each at its first place alone
abbrev pub distinct : List Text → List Text
distinct [] = []
distinct (x ∷ more) = x ∷ filter (λ y. not (bytes_eq x y)) (distinct more)

-- the last value of a key
abbrev pub last_value : List Entry → Text → Text
last_value entries key = fold (λ value e. if bytes_eq key e.0 then e.1 else value) [] entries

-- each key at its first place, with its last value
abbrev pub last_entries : List Entry → List Entry
last_entries entries = map (λ key. (key, last_value entries key)) (distinct (map (λ e. e.0) entries))

-- the entries of a group, under whichever of its headings
abbrev pub entries_under : List InGroup → Text → List Entry
entries_under all name = filter_map (λ p. if bytes_eq name p.0 then p.1 else None) all

-- each group at its first place, with its keys and values
abbrev pub groups_from : List InGroup → List Group
groups_from all = map (λ name. (name, last_entries (entries_under all name))) (distinct (map (λ p. p.0) all))

-- the groups of these lines
abbrev pub groups_of : List Line → List Group
groups_of said = groups_from (in_groups None said)

-- why a line of this number is refused in this group
abbrev pub fault_of : Option Text → ℕ → Line → Option KeyFault
fault_of group number nothing = None
fault_of group number (heading name) = None
fault_of None number (entry key value) = Some (fault.KeyBeforeGroup number)
fault_of (Some name) number (entry key value) = if is_some (unescape value) then None else Some (fault.BadEscape number)
fault_of group number bad = Some (fault.BadLine number)

-- the faults of all lines, which are counted from 1
abbrev pub faults_of : List Line → List KeyFault
faults_of said = filter_map (λ numbered. fault_of (group_below None (take numbered.0 said)) (numbered.0 + 1) numbered.1) (enumerate_from 0 said)

-- the first fault, or else the groups
abbrev pub unless_faulty : List KeyFault → List Group → Result (List Group) KeyFault
unless_faulty [] groups = Ok groups
unless_faulty (first ∷ more) groups = Err first

-- what these lines spell
abbrev pub read_lines_of : List Line → Result (List Group) KeyFault
read_lines_of said = unless_faulty (faults_of said) (groups_of said)

-- the key file that a text spells, or why it spells none
abbrev pub read_of : Text → Result (List Group) KeyFault
read_of text =
    if nat_lt 1048576 (length text) then Err (fault.TooLong (length text))
    else if is_utf8 text then read_lines_of (map line_of (lines text))
    else Err (fault.NotUtf8 (utf8_valid_len text))
