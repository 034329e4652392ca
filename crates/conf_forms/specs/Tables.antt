-- Tables of the groups and keys that a key file may have.
use Rattle.std.specs.Prelude.{Bool, true, false, List, drop, length, nat_eq, find, Option, Some, None, option_map, unwrap_or}
use Rattle.std.specs.List.{starts_with}
use Rattle.keyfile.specs.Groups.{Text}
use Rattle.conf_forms.specs.Lists.{value_beside}
use Rattle.conf_forms.specs.declared.form.Form.{Form}
use Rattle.conf_forms.specs.declared.form.Form.TheVariants as form

-- what a table says of a group: it is not known, it is left out, its keys are not looked at, or it has these keys, each with the form of its values
pub data GroupRule : Type 0 where
  unknown : GroupRule
  left_out : GroupRule
  unread : GroupRule
  keyed : List (Text × Form) → GroupRule

-- groups by their whole name, and others by what their name begins with, and by the rest of it
pub record Table : Type 0 where
  pub named : List (Text × GroupRule)
  pub families : List (Text × (Text → GroupRule))

-- what it says of a group by what the name begins with
abbrev pub family_rule : Table → Text → GroupRule
family_rule table group =
    unwrap_or (option_map (λ f. f.1 (drop (length f.0) group)) (find (λ f. starts_with nat_eq group f.0) table.families)) unknown

-- what it says of a group
abbrev pub group_rule : Table → Text → GroupRule
group_rule table group = unwrap_or (value_beside table.named group) (family_rule table group)

abbrev pub is_unknown : GroupRule → Bool
is_unknown unknown = true
is_unknown _ = false

abbrev pub is_omitted : GroupRule → Bool
is_omitted left_out = true
is_omitted _ = false

-- the form of the values of a key, where the key is known in a group of which this is said
abbrev pub form_by : GroupRule → Text → Option Form
form_by unknown key = None
form_by left_out key = Some form.Free
form_by unread key = Some form.Free
form_by (keyed keys) key = value_beside keys key

-- the same in the group of this name
abbrev pub form_of : Table → Text → Text → Option Form
form_of table group key = form_by (group_rule table group) key
