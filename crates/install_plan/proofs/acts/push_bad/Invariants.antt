use Rattle.std.proofs.Common.{◌≡◌, ◌++◌, take}
use Rattle.install_plan.specs.Acts.{bad_acts}
use Rattle.install_plan.proofs.acts.push_bad.Given as goal

abbrev pub invariant-loop-root : goal.invariant-loop-root
invariant-loop-root l = l.acts ≡ l.initial.acts ++ bad_acts (take l.root-index l.roots)
