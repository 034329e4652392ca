use Rattle.std.proofs.Common.{refl}
use Rattle.install_facts.proofs.Joining.{noted_none}
use Rattle.install_core.proofs.working.change_if.Goals as goal

pub returns-in-Ok-clause-follows : goal.returns-in-Ok-clause-follows
returns-in-Ok-clause-follows g c = rw c.in-Ok.is c.change.ensures.changes

pub returns-in-Err-clause-follows : goal.returns-in-Err-clause-follows
returns-in-Err-clause-follows g c = rw c.in-Err.is (noted_none _ _ (refl, (λ told. refl), refl))
