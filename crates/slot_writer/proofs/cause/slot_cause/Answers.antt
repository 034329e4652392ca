use Rattle.slot_writer.proofs.cause.slot_cause.Goals as goal

pub returns-in-Busy : goal.returns-in-Busy
returns-in-Busy c = rw c.in-Busy.is (rw c.as_slice-slots.ensures at c.matter_at.ensures)

pub returns-in-WrongType : goal.returns-in-WrongType
returns-in-WrongType c = rw c.in-WrongType.is (rw c.as_slice-slots.ensures at c.matter_at-in-WrongType.ensures)

pub returns-in-Mounted : goal.returns-in-Mounted
returns-in-Mounted c = rw c.in-Mounted.is (rw c.as_slice-slots.ensures at c.matter_at-in-Mounted.ensures)

pub returns-in-ReadOnly : goal.returns-in-ReadOnly
returns-in-ReadOnly c = rw c.in-ReadOnly.is (rw c.as_slice-slots.ensures at c.matter_at-in-ReadOnly.ensures)
