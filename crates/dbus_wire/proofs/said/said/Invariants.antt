use Rattle.std.proofs.Common.{◌≡◌, drop}
use Rattle.wire_value.specs.View.{views}
use Rattle.dbus_wire.specs.Fields.{no_fields, said}
use Rattle.dbus_wire.specs.FieldsView.{plain_fields}
use Rattle.dbus_wire.proofs.said.said.Given as goal

abbrev pub invariant-loop-field : goal.invariant-loop-field
invariant-loop-field l = said (plain_fields l.said) (views (drop l.field-index l.fields)) ≡ said no_fields (views l.fields)
