use Rattle.std.proofs.Common.{arith}
use Rattle.dbus_wire.proofs.Answering.{stated_long}
use Rattle.dbus_wire.proofs.read.read.Goals as goal

pub whole_message-requires-clause-long : goal.whole_message-requires-clause-long
whole_message-requires-clause-long c = omega (arith, c.split_at.ensures.front_len, c.stated_length-stated.ensures, stated_long c.in-Some.little c.args.bytes.now)
