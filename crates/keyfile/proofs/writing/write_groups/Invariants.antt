use Rattle.std.proofs.Common.{◌≡◌, ◌++◌}
use Rattle.keyfile.specs.Canonical.{canonical}
use Rattle.keyfile.specs.Groups.{groups_in}
use Rattle.keyfile.proofs.Remaining.{left_of_groups}
use Rattle.keyfile.proofs.writing.write_groups.Given as goal

-- what is written and what is left make the whole
abbrev pub invariant-loop-name : goal.invariant-loop-name
invariant-loop-name l = l.out.items ++ left_of_groups l.first (groups_in l.name-iterator) ≡ l.initial.out.items ++ canonical (groups_in l.groups.entries)
