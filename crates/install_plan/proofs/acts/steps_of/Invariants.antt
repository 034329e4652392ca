use Rattle.std.proofs.Common.{◌≡◌}
use Rattle.install_plan.specs.Acts.{steps_in}
use Rattle.install_plan.proofs.acts.steps_of.Given as goal

abbrev pub invariant-loop-act : goal.invariant-loop-act
invariant-loop-act l = l.steps ≡ steps_in l.yielded
