use Rattle.std.proofs.Common.{◌≡◌, ◌++◌, drop}
use Rattle.std.specs.List.{flat_map}
use Rattle.boot_programs.specs.Barebox.{value_line}
use Rattle.boot_programs.proofs.barebox.write_values.Given as goal

-- what is written and what is left make the whole
abbrev pub invariant-loop-name : goal.invariant-loop-name
invariant-loop-name l =
    l.out.items ++ flat_map (value_line l.vars) (drop l.name-index l.names) ≡ l.initial.out.items ++ flat_map (value_line l.vars) l.names
