-- The groups and keys of a file that a table does not know, that are left out, or whose values are bad; and keys that are not there.
use Rattle.std.specs.Prelude.{Bool, false, ◌||◌, not, List, [], Option, Some, None, is_none, if◌then◌else◌}
use Rattle.std.specs.Option.{option_map_or}
use Rattle.keyfile.specs.Groups.{Text, Entry, Group, get_in}
use Rattle.conf_forms.specs.Forms.{accepts, is_left_out}
use Rattle.conf_forms.specs.Lists.{first_of}
use Rattle.conf_forms.specs.Tables.{Table, form_of, group_rule, is_omitted, is_unknown}
use Rattle.conf_forms.specs.declared.walk.KeyPlace.{KeyPlace}

-- the texts of a place: a group, and a key of it, which is empty for the group itself
abbrev pub place_texts : KeyPlace → Text × Text
place_texts p = (p.group.now, p.key.now)

-- ---- keys that are not there

-- the key of this group, where it has no value
abbrev pub missing_key : List Group → Text × Text → Option (Text × Text)
missing_key groups key = if is_none (get_in groups key.0 key.1) then Some key else None

-- ---- along the file

-- the key of this group, where the test holds of it
abbrev pub key_if : (Text → Entry → Bool) → Text → Entry → Option (Text × Text)
key_if test group e = if test group e then Some (group, e.0) else None

-- the group itself with an empty key, or else the first of its keys, of which the test holds
abbrev pub first_in : (Text → Bool) → (Text → Entry → Bool) → Group → Option (Text × Text)
first_in of_group of_entry g = if of_group g.0 then Some (g.0, []) else first_of (key_if of_entry g.0) g.1

-- the first group or key in file order
abbrev pub first_along : (Text → Bool) → (Text → Entry → Bool) → List Group → Option (Text × Text)
first_along of_group of_entry groups = first_of (first_in of_group of_entry) groups

-- ---- what is not known, left out or bad

abbrev pub is_unknown_group : Table → Text → Bool
is_unknown_group table group = is_unknown (group_rule table group)

abbrev pub is_unknown_key : Table → Text → Entry → Bool
is_unknown_key table group e = is_none (form_of table group e.0)

abbrev pub is_left_out_group : Table → Text → Bool
is_left_out_group table group = is_omitted (group_rule table group)

-- the value, or each value of the key, is left out
abbrev pub is_left_out_entry : Table → Text → Entry → Bool
is_left_out_entry table group e = option_map_or (λ f. is_left_out f e.1) (form_of table group e.0) false

-- the value of a known key does not have its form
abbrev pub is_misformed : Table → Text → Entry → Bool
is_misformed table group e = option_map_or (λ f. not (accepts f e.1)) (form_of table group e.0) false

-- the same, or it conflicts with what else the file says
abbrev pub is_bad_entry : Table → (Text → Entry → Bool) → Text → Entry → Bool
is_bad_entry table conflict group e = is_misformed table group e || conflict group e

-- the first of each in file order; a group stands with an empty key
abbrev pub first_unknown : Table → List Group → Option (Text × Text)
first_unknown table = first_along (is_unknown_group table) (is_unknown_key table)

abbrev pub first_left_out : Table → List Group → Option (Text × Text)
first_left_out table = first_along (is_left_out_group table) (is_left_out_entry table)

abbrev pub first_bad : Table → (Text → Entry → Bool) → List Group → Option (Text × Text)
first_bad table conflict = first_along (λ group. false) (is_bad_entry table conflict)
