use Rattle.std.proofs.Common.{ℕ, Err, ap, subst, arith}
use Rattle.updater_text.specs.declared.stops.Lack.TheVariants as lack
use Rattle.dbus_wire.specs.MessageView.{plain}
use Rattle.dbus_wire.specs.declared.refusal.WriteRefusal.TheVariants as refusal
use Rattle.dbus_wire.proofs.WriteLaws.{spelled_by, spelled_length, too_long_is}
use Rattle.dbus_wire.proofs.write.write_message.Goals as goal

pub returns-then-layout-gt1048576-clause-refused :
    goal.returns-then-layout-gt1048576-clause-refused
returns-then-layout-gt1048576-clause-refused c n t =
    let m = plain c.args.message.now in
    ap (λ (k : ℕ). Err (lack.Refused (refusal.TooLarge k))) (too_long_is m c.unwrap-layout.result.end n (spelled_by m c.layout_of.result c.unwrap-layout.result c.unwrap-layout.ensures c.layout_of.ensures.found) t)

pub returns-in_err-spelled-clause-refused : goal.returns-in_err-spelled-clause-refused
returns-in_err-spelled-clause-refused c n t =
    let m = plain c.args.message.now in
    absurd (omega (arith, too_long_is m c.unwrap-layout.result.end n (spelled_by m c.layout_of.result c.unwrap-layout.result c.unwrap-layout.ensures c.layout_of.ensures.found) t, t.3, c.if-layout-gt1048576.false))

pub returns-clause-short : goal.returns-clause-short
returns-clause-short c =
    let m = plain c.args.message.now in
    omega (arith, spelled_length m c.in_ok-spelled.field-0.items c.unwrap-layout.result.end c.in_ok-spelled.ensures (spelled_by m c.layout_of.result c.unwrap-layout.result c.unwrap-layout.ensures c.layout_of.ensures.found), c.if-layout-gt1048576.false)

pub returns-clause-refused : goal.returns-clause-refused
returns-clause-refused c n t =
    let m = plain c.args.message.now in
    absurd (omega (arith, too_long_is m c.unwrap-layout.result.end n (spelled_by m c.layout_of.result c.unwrap-layout.result c.unwrap-layout.ensures c.layout_of.ensures.found) t, t.3, c.if-layout-gt1048576.false))
