use Rattle.dbus_wire.proofs.OneForm.{one_message_law, no_prefix_law}
use Rattle.dbus_wire.proofs.laws.one_message.Goals as goal

pub returns-clause-one : goal.returns-clause-one
returns-clause-one c = one_message_law

pub returns-clause-whole : goal.returns-clause-whole
returns-clause-whole c = no_prefix_law
