use Rattle.slot_graph.proofs.cause.assign_cause.Goals as goal

pub returns-in-ReadOnly : goal.returns-in-ReadOnly
returns-in-ReadOnly c = rw c.in-ReadOnly.is (rw c.as_slice-slots.ensures at c.matter_at.ensures)

pub returns-in-WrongType : goal.returns-in-WrongType
returns-in-WrongType c = rw c.in-WrongType.is (rw c.as_slice-slots.ensures at c.matter_at-in-WrongType.ensures)
