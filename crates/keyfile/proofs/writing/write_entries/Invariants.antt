use Rattle.std.proofs.Common.{◌≡◌, ◌++◌}
use Rattle.std.specs.List.{flat_map}
use Rattle.keyfile.specs.Canonical.{entry_text}
use Rattle.keyfile.specs.Groups.{entries_in}
use Rattle.keyfile.proofs.writing.write_entries.Given as goal

-- what is written and what is left make the whole
abbrev pub invariant-loop-key : goal.invariant-loop-key
invariant-loop-key l = l.out.items ++ flat_map entry_text (entries_in l.key-iterator) ≡ l.initial.out.items ++ flat_map entry_text (entries_in l.entries.entries)
