use Rattle.wire_value.proofs.OneForm.{one_sequence_law, no_sequence_prefix_law}
use Rattle.wire_value.proofs.laws.one_sequence.Goals as goal

pub returns-clause-one : goal.returns-clause-one
returns-clause-one c = one_sequence_law

pub returns-clause-whole : goal.returns-clause-whole
returns-clause-whole c = no_sequence_prefix_law
