use Rattle.std.proofs.Common.{refl}
use Rattle.wire_value.proofs.Views.{no_room}
use Rattle.wire_value.proofs.sizes.+short_types.Goals as goal

pub put_types_in-returns-then-not-put_type_in-clause-full :
    goal.put_types_in-returns-then-not-put_type_in-clause-full
put_types_in-returns-then-not-put_type_in-clause-full t c e =
    no_room c.args.values.now c.loop-value.value-index c.value-item.result c.args.out.now.items c.loop-value.out.items c.loop-value-test.true c.value-item.is c.loop-value.invariant (c.if-not-put_type_in.ensures.full refl)
