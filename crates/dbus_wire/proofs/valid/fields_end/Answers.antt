use Rattle.dbus_wire.specs.MessageView.{fields_of}
use Rattle.dbus_wire.proofs.Checked.{all_end}
use Rattle.dbus_wire.proofs.valid.fields_end.Goals as goal

pub returns-clause-is : goal.returns-clause-is
returns-clause-is c = cc (all_end (fields_of c.args.message.now) 16)
