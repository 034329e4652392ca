-- The plain message that a message stands for.
use Rattle.wire_value.specs.View.{views}
use Rattle.dbus_wire.specs.Fields.{Fields, if_any}
use Rattle.dbus_wire.specs.Spelling.{PlainMessage}
use Rattle.dbus_wire.specs.declared.message.Message.{Message}

abbrev pub fields_of : Message → Fields
fields_of m = record {
  path = m.path;
  interface = m.interface;
  member = m.member;
  error_name = m.error_name;
  reply_serial = m.reply_serial;
  destination = m.destination;
  sender = m.sender;
  signature = if_any m.signature;
  fds = m.fds;
}

abbrev pub plain : Message → PlainMessage
plain m = record {
  little = m.little;
  kind = m.kind;
  flags = m.flags;
  serial = m.serial;
  fields = fields_of m;
  body = views m.body.items;
}
