use Rattle.wire_value.proofs.OneForm.{one_value_law, no_prefix_law}
use Rattle.wire_value.proofs.laws.one_value.Goals as goal

pub returns-clause-one : goal.returns-clause-one
returns-clause-one c = one_value_law

pub returns-clause-whole : goal.returns-clause-whole
returns-clause-whole c = no_prefix_law
