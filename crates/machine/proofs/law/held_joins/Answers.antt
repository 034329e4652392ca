use Rattle.machine.proofs.Moments.{held_law}
use Rattle.machine.proofs.law.held_joins.Goals as goal

pub returns : goal.returns
returns c = held_law
