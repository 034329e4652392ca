use Rattle.std.proofs.Common.{◌≡◌, drop, false}
use Rattle.dbus_wire.specs.Names.{are_parts}
use Rattle.dbus_wire.proofs.names.are_parts.Given as goal

abbrev pub invariant-loop-byte : goal.invariant-loop-byte
invariant-loop-byte l = are_parts l.inside (drop l.byte-index l.bytes) ≡ are_parts false l.bytes
