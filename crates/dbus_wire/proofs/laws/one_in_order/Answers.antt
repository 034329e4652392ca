use Rattle.dbus_wire.proofs.OneForm.{one_in_order_law}
use Rattle.dbus_wire.proofs.laws.one_in_order.Goals as goal

pub returns : goal.returns
returns c = one_in_order_law
