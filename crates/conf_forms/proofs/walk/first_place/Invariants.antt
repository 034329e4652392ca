use Rattle.std.proofs.Common.{◌≡◌, take, None}
use Rattle.conf_forms.specs.Searches.{in_entry, in_group}
use Rattle.conf_forms.specs.Walks.{first_along}
use Rattle.conf_forms.proofs.walk.first_place.Given as goal

abbrev pub invariant-loop-at : goal.invariant-loop-at
invariant-loop-at g l = first_along (in_group g.T.KeyTable.table l.search) (in_entry g.T.KeyTable.table (g.T.KeyTable.conflict l.table) l.search) (take l.at l.file) ≡ None
