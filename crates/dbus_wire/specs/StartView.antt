-- The plain message of what the code read of it.
use Rattle.wire_value.specs.Plain.{Plains}
use Rattle.dbus_wire.specs.Fields as plain
use Rattle.dbus_wire.specs.Spelling.{PlainMessage}
use Rattle.dbus_wire.specs.Reading.{joined}
use Rattle.dbus_wire.specs.declared.reading.Start.{Start}

abbrev pub joined_by : Start → plain.Fields → Plains → PlainMessage
joined_by start h vs = joined start.little start.kind start.flags start.serial h vs
