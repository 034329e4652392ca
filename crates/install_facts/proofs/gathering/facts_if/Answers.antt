use Rattle.install_facts.proofs.gathering.facts_if.Goals as goal

pub returns-in-Ok-clause-notes : goal.returns-in-Ok-clause-notes
returns-in-Ok-clause-notes g c = rw c.in-Ok.is c.note.ensures
