use Rattle.std.proofs.Common.{◌≡◌, ℕ, ◌<◌, length, Some, List, subst, sym, ap, ◌∙◌, arith}
use Rattle.std.specs.Prelude.{map}
use Rattle.std.proofs.lemmas.Result.{err_from_is_err_and}
use Rattle.std.proofs.lemmas.List.{map_push}
use Rattle.wire_value.specs.Reading.{value_at}
use Rattle.wire_value.specs.Gives.{at, Fails}
use Rattle.wire_value.specs.View.{view}
use Rattle.wire_value.proofs.ReadSteps.{v_shorter, items_goes_on, items_fails, items_over, fields_goes_on, fields_no_type, fields_fails, fields_over}
use Rattle.wire_value.proofs.reading.+read.Goals as goal

pub items_of-returns-in_err-value : goal.items_of-returns-in_err-value
items_of-returns-in_err-value t c =
    let p = err_from_is_err_and c.from_residual.result c.from_residual.ensures.1 in
    let some : 0 < length c.items.rest.bytes.now = grind arith in
    rw (p.1, p.2) (items_fails c.in_err-value.field-0.0 (value_at c.args.depth c.args.little c.args.item.now) (map view c.items.found.items) (at c.items.rest) _ some c.in_err-value.ensures c.items.invariant.0 c.items.invariant.1 c.items.invariant.2)

pub items_of-items-preserved : goal.items_of-items-preserved
items_of-items-preserved t c =
    let some : 0 < length c.items.rest.bytes.now = grind arith in
    let shorter = v_shorter c.args.little c.args.depth c.args.item.now (at c.items.rest) (view c.in_ok-value.value, at c.in_ok-value.after) c.requires.kind c.items.rest.small c.in_ok-value.ensures in
    let pushed = ap (map view) c.in_ok-push.ensures.items ∙ map_push view c.items.found.items c.in_ok-value.value in
    rw pushed (items_goes_on (value_at c.args.depth c.args.little c.args.item.now) (map view c.items.found.items) c.items.invariant.0 (at c.items.rest) (view c.in_ok-value.value) (at c.in_ok-value.after) _ some c.items.invariant.1 shorter c.in_ok-value.ensures c.items.invariant.2)

pub items_of-items-smaller : goal.items_of-items-smaller
items_of-items-smaller t c =
    v_shorter c.args.little c.args.depth c.args.item.now (at c.items.rest) (view c.in_ok-value.value, at c.in_ok-value.after) c.requires.kind c.items.rest.small c.in_ok-value.ensures

pub items_of-returns : goal.items_of-returns
items_of-returns t c =
    let nothing : length c.items.rest.bytes.now ≡ 0 = grind arith in
    items_over (value_at c.args.depth c.args.little c.args.item.now) (map view c.items.found.items) c.items.invariant.0 (at c.items.rest) _ nothing c.items.invariant.2

pub fields_of-returns-in_default : goal.fields_of-returns-in_default
fields_of-returns-in_default t c =
    let goes_on = sym c.fields-test.ensures in
    fields_no_type (value_at c.args.depth c.args.little) (map view c.fields.found.items) c.fields.invariant.0 c.fields.types.now (at c.fields.rest) _ goes_on (sym c.in_default.ensures.rest) c.fields.invariant.1 c.fields.invariant.2

pub fields_of-returns-in_err-value : goal.fields_of-returns-in_err-value
fields_of-returns-in_err-value t c =
    let p = err_from_is_err_and c.from_residual.result c.from_residual.ensures.1 in
    let goes_on = sym c.fields-test.ensures in
    rw (p.1, p.2) (fields_fails c.in_err-value.field-0.0 (value_at c.args.depth c.args.little) (map view c.fields.found.items) c.fields.invariant.0 c.fields.types.now c.in-Some.others.now (at c.fields.rest) _ goes_on (sym c.in-Some.ensures.rest) c.fields.invariant.1 (subst (λ (s : List ℕ). Fails c.in_err-value.field-0.0 (value_at c.args.depth c.args.little s (at c.fields.rest))) c.in-Some.ensures.kind.0 c.in_err-value.ensures) c.fields.invariant.2)

pub fields_of-fields-preserved : goal.fields_of-fields-preserved
fields_of-fields-preserved t c =
    let goes_on = sym c.fields-test.ensures in
    let pushed = ap (map view) c.in_ok-push.ensures.items ∙ map_push view c.fields.found.items c.in_ok-value.value in
    rw pushed (fields_goes_on (value_at c.args.depth c.args.little) (map view c.fields.found.items) c.fields.invariant.0 c.fields.types.now c.in-Some.others.now (at c.fields.rest) (view c.in_ok-value.value) (at c.in_ok-value.after) _ goes_on (sym c.in-Some.ensures.rest) c.in-Some.ensures.kind.2 c.fields.invariant.1 (subst (λ (s : List ℕ). value_at c.args.depth c.args.little s (at c.fields.rest) ≡ Some (view c.in_ok-value.value, at c.in_ok-value.after)) c.in-Some.ensures.kind.0 c.in_ok-value.ensures) c.fields.invariant.2)

pub fields_of-returns : goal.fields_of-returns
fields_of-returns t c =
    let ended = sym c.fields-test.ensures in
    fields_over (value_at c.args.depth c.args.little) (map view c.fields.found.items) c.fields.invariant.0 c.fields.types.now (at c.fields.rest) _ ended c.fields.invariant.1 c.fields.invariant.2
