use Rattle.std.proofs.Common.{◌≡◌, ◌++◌, drop}
use Rattle.std.specs.FinMap.{entries}
use Rattle.boot_session.specs.Session.{variable_lines}
use Rattle.boot_session.proofs.session.write_variables.Given as goal

-- what is written and what is left make the whole
abbrev pub invariant-loop-at : goal.invariant-loop-at
invariant-loop-at l = l.page.items ++ variable_lines (drop l.at (entries l.vars)) ≡ l.initial.page.items ++ variable_lines (entries l.vars)
