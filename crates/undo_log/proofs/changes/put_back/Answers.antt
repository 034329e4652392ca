use Rattle.std.proofs.Common.{◌+◌, length, sym, ◌∙◌}
use Rattle.undo_log.proofs.Putting.{with_bytes_is}
use Rattle.undo_log.proofs.Children.{room_bytes}
use Rattle.undo_log.proofs.changes.put_back.Goals as goal

pub patch_list-requires : goal.patch_list-requires
patch_list-requires c =
    room_bytes c.args.world.now c.as_mut_slice.result.now c.args.path.now (c.args.at + length c.args.bytes.now) c.as_mut_slice.ensures.value (sym c.has_room.ensures ∙ c.if-has_room.true)

pub returns-then-has_room : goal.returns-then-has_room
returns-then-has_room c =
    with_bytes_is c.args.world.now c.as_mut_slice.result.now c.patch_list.new.list c.args.path.now c.args.at c.args.bytes.now c.as_mut_slice.ensures.value c.patch_list.ensures c.patch_list.auto.list (sym c.has_room.ensures ∙ c.if-has_room.true)
