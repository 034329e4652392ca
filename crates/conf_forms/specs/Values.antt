-- The values of keys. A value that does not have its form counts as one that is not there.
use Rattle.std.specs.Prelude.{List, Option}
use Rattle.keyfile.specs.Groups.{Text, Group, get_in}
use Rattle.conf_forms.specs.Forms.{accepts}
use Rattle.conf_forms.specs.Lists.{keep_if}
use Rattle.conf_forms.specs.declared.form.Form.{Form}

-- the value of a key whose values have this form
abbrev pub value_with_form : List Group → Form → Text → Text → Option Text
value_with_form groups form group key = keep_if (accepts form) (get_in groups group key)
