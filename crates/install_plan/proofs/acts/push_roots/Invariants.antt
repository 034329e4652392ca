use Rattle.std.proofs.Common.{◌≡◌, ◌++◌, map}
use Rattle.std.specs.List.{flat_map}
use Rattle.install_plan.specs.Acts.{primary_acts}
use Rattle.install_plan.proofs.acts.push_roots.Given as goal

abbrev pub invariant-loop-root : goal.invariant-loop-root
invariant-loop-root l = l.acts ≡ l.initial.acts ++ flat_map primary_acts (map (λ root. root.now) l.yielded)
