use Rattle.std.proofs.Common.{◌≡◌, drop}
use Rattle.dbus_wire.specs.Names.{has_dot}
use Rattle.dbus_wire.proofs.names.has_dot.Given as goal

abbrev pub invariant-loop-byte : goal.invariant-loop-byte
invariant-loop-byte l = has_dot (drop l.byte-index l.bytes) ≡ has_dot l.bytes
