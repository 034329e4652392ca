use Rattle.std.proofs.Common.{◌≡◌, ℕ, ◌+◌, ◌-◌, ◌<◌, ◌≤◌, ◌^◌, List, ◌++◌, length, sym, ap, subst, ◌∙◌, arith}
use Rattle.wire_value.specs.Plain.{Plains}
use Rattle.wire_value.specs.Spelling.{spells, AreValues}
use Rattle.wire_value.specs.Sizes.{end_all}
use Rattle.wire_value.specs.View.{views}
use Rattle.dbus_wire.specs.InOrder.{body_start}
use Rattle.dbus_wire.specs.MessageView.{plain}
use Rattle.dbus_wire.proofs.WriteLaws.{laid, body_text, start_is, padded_length, all_written}
use Rattle.dbus_wire.proofs.writing.spelled.Goals as goal

pub overflow_add-start : goal.overflow_add-start
overflow_add-start c =
    let l = laid (plain c.args.message.now) c.args.layout.end c.requires.spelled in
    omega (arith, l.size, c.requires.small, start_is (plain c.args.message.now) c.args.layout.fields_end c.gap_before.result c.requires.fields c.gap_before.ensures.is)

pub overflow_sub-layout : goal.overflow_sub-layout
overflow_sub-layout c =
    let l = laid (plain c.args.message.now) c.args.layout.end c.requires.spelled in
    omega (arith, l.size, start_is (plain c.args.message.now) c.args.layout.fields_end c.gap_before.result c.requires.fields c.gap_before.ensures.is)

pub overflow_sub-head : goal.overflow_sub-head
overflow_sub-head c = omega (arith, c.requires.fields, (laid (plain c.args.message.now) c.args.layout.end c.requires.spelled).count)

pub overflow_cast-head : goal.overflow_cast-head
overflow_cast-head c =
    let l = laid (plain c.args.message.now) c.args.layout.end c.requires.spelled in
    omega (arith, l.size, c.requires.small, start_is (plain c.args.message.now) c.args.layout.fields_end c.gap_before.result c.requires.fields c.gap_before.ensures.is)

pub put_head-requires-clause-fields : goal.put_head-requires-clause-fields
put_head-requires-clause-fields c = (laid (plain c.args.message.now) c.args.layout.end c.requires.spelled).tests

pub put_head-requires-clause-length : goal.put_head-requires-clause-length
put_head-requires-clause-length c = omega (arith, c.requires.fields, (laid (plain c.args.message.now) c.args.layout.end c.requires.spelled).count)

pub write_values-requires-clause-valid : goal.write_values-requires-clause-valid
write_values-requires-clause-valid c =
    let m = plain c.args.message.now in
    let l = laid m c.args.layout.end c.requires.spelled in
    let size = c.args.layout.end - (c.args.layout.fields_end + c.gap_before.result) in
    let at = padded_length m size c.args.layout.end c.put_head.new.out.items c.put_gap.new.out.items l c.in_ok-put_head.ensures c.in_ok-put_gap.ensures in
    subst (λ (vs : Plains). AreValues m.little (length c.put_gap.new.out.items) vs) (sym (ap views c.deref.ensures.value)) (subst (λ (n : ℕ). AreValues m.little n m.body) (sym at) l.valid)

pub write_values-requires-clause-fits : goal.write_values-requires-clause-fits
write_values-requires-clause-fits c =
    let m = plain c.args.message.now in
    let l = laid m c.args.layout.end c.requires.spelled in
    let size = c.args.layout.end - (c.args.layout.fields_end + c.gap_before.result) in
    let at = padded_length m size c.args.layout.end c.put_head.new.out.items c.put_gap.new.out.items l c.in_ok-put_head.ensures c.in_ok-put_gap.ensures in
    let ends : end_all (length c.put_gap.new.out.items) (views c.deref.result.now) ≡ c.args.layout.end = ap (end_all (length c.put_gap.new.out.items)) (ap views c.deref.ensures.value) ∙ ap (λ (n : ℕ). end_all n m.body) at ∙ l.ends in
    omega (arith, ends, c.requires.small)

pub returns : goal.returns
returns c =
    let m = plain c.args.message.now in
    let l = laid m c.args.layout.end c.requires.spelled in
    let size = c.args.layout.end - (c.args.layout.fields_end + c.gap_before.result) in
    let sized : size ≡ length (body_text m) = omega (arith, l.size, start_is m c.args.layout.fields_end c.gap_before.result c.requires.fields c.gap_before.ensures.is) in
    let body : c.write_values.new.out.items ≡ c.put_gap.new.out.items ++ spells m.little (length c.put_gap.new.out.items) m.body =
    c.in_ok-write_values.ensures ∙ ap (λ (vs : Plains). c.put_gap.new.out.items ++ spells m.little (length c.put_gap.new.out.items) vs) (ap views c.deref.ensures.value) in
    all_written m size c.args.layout.end c.put_head.new.out.items c.put_gap.new.out.items c.write_values.new.out.items l sized c.in_ok-put_head.ensures c.in_ok-put_gap.ensures body
