use Rattle.install_facts.proofs.cause.install_cause.Goals as goal

pub returns-in-Compatible : goal.returns-in-Compatible
returns-in-Compatible c = rw c.in-Compatible.is c.compatible_cause.ensures

pub returns-in-Mounted : goal.returns-in-Mounted
returns-in-Mounted c = rw c.in-Mounted.is (rw c.as_slice-slots.ensures at c.matter_at.ensures)
