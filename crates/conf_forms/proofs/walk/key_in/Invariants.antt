use Rattle.std.proofs.Common.{◌≡◌, take, None}
use Rattle.conf_forms.specs.Lists.{first_of}
use Rattle.conf_forms.specs.Searches.{entries_at, in_entry}
use Rattle.conf_forms.specs.Walks.{key_if}
use Rattle.conf_forms.proofs.walk.key_in.Given as goal

abbrev pub invariant-loop-number : goal.invariant-loop-number
invariant-loop-number g l = first_of (key_if (in_entry g.T.KeyTable.table (g.T.KeyTable.conflict l.table) l.search) l.group) (take l.number (entries_at l.file l.at)) ≡ None
