use Rattle.dbus_wire.specs.MessageView.{plain}
use Rattle.dbus_wire.proofs.WriteLaws.{head_written}
use Rattle.dbus_wire.proofs.writing.put_head.Goals as goal

pub returns : goal.returns
returns c =
    head_written (plain c.args.message.now) c.args.body c.args.fields c.args.out.now.items c.put_start.new.out.items c.put_u32.new.out.items c.put_u32-2.new.out.items c.put_u32-3.new.out.items
    c.put_fields.new.out.items c.requires.empty c.in_ok-put_start.ensures c.in_ok-put_u32.ensures c.in_ok-put_u32-2.ensures c.in_ok-put_u32-3.ensures c.requires.length c.in_ok-put_fields.ensures
