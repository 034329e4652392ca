use Rattle.std.proofs.Common.{◌≡◌, ◌+◌, decimal, map, take}
use Rattle.child_steps.proofs.handlers.target_numbers.Given as goal

abbrev pub invariant-loop-job : goal.invariant-loop-job
invariant-loop-job l = l.words.items ≡ map (λ at. decimal (at + 1)) (map (λ j. j.slot) (take l.job-index l.jobs))
