use Rattle.std.proofs.Common.{◌≡◌, ℕ, ◌+◌, ◌<◌, ◌≤◌, ◌^◌, Bool, true, false, List, Some, None, refl, sym, ap, subst, ◌∙◌, arith}
use Rattle.wire_value.specs.Plain.{Plains}
use Rattle.wire_value.specs.Standing.{AllEndAt, AllEndOnlyAt}
use Rattle.wire_value.specs.View.{views}
use Rattle.dbus_wire.specs.Fields.{if_any}
use Rattle.dbus_wire.specs.Checking.{has_head}
use Rattle.dbus_wire.specs.MessageView.{plain}
use Rattle.dbus_wire.proofs.Spelled.{passes, head_fields, head_signature, layout_found, layout_only, no_layout}
use Rattle.dbus_wire.proofs.valid.layout_of.Goals as goal

pub returns-then-not-has_head-clause-only : goal.returns-then-not-has_head-clause-only
returns-then-not-has_head-clause-only c x = sym c.if-not-has_head.true ∙ c.has_head.ensures.is ∙ (passes (plain c.args.message.now) x).head

pub fields_end-head-requires : goal.fields_end-head-requires
fields_end-head-requires c = head_fields (plain c.args.message.now) (sym c.has_head.ensures.is ∙ c.if-not-has_head.false)

pub returns-then-head-gt67108880-clause-only : goal.returns-then-head-gt67108880-clause-only
returns-then-head-gt67108880-clause-only c x = absurd (omega (arith, (passes (plain c.args.message.now) x).few, c.fields_end-head.ensures.is, c.if-head-gt67108880.true))

pub end_of_values-requires-clause-signature : goal.end_of_values-requires-clause-signature
end_of_values-requires-clause-signature c =
    head_signature (plain c.args.message.now) c.as_bytes-signature.result.now (ap if_any (sym c.as_bytes-signature.ensures)) (sym c.has_head.ensures.is ∙ c.if-not-has_head.false)

pub returns-in-Some-clause-found : goal.returns-in-Some-clause-found
returns-in-Some-clause-found c =
    let m = plain c.args.message.now in
    let start = c.fields_end-head.result + c.gap_before.result in
    let ends : AllEndAt (start + 4294967295) 64 c.as_bytes-signature.result.now start m.body (Some c.in-Some.end) =
    subst (λ (vs : Plains). AllEndAt (start + 4294967295) 64 c.as_bytes-signature.result.now start vs (Some c.in-Some.end)) (ap views c.deref.ensures.value) c.in-Some.ensures.found in
    layout_found m c.as_bytes-signature.result.now (ap if_any (sym c.as_bytes-signature.ensures)) c.fields_end-head.result start c.fields_end-head.ensures.is (ap (λ (k : ℕ). c.fields_end-head.result + k) c.gap_before.ensures.is)
    c.in-Some.end (sym c.has_head.ensures.is ∙ c.if-not-has_head.false) c.has_head.ensures.fits c.fields_end-head.ensures.fits (omega (arith, c.if-head-gt67108880.false)) ends

pub returns-in-Some-clause-below : goal.returns-in-Some-clause-below
returns-in-Some-clause-below c = (
  omega (arith, c.if-head-gt67108880.false),
  omega (arith, (c.in-Some.ensures.found true).1, c.gap_before.ensures.below, c.if-head-gt67108880.false),
)

pub returns-in-None-clause-only : goal.returns-in-None-clause-only
returns-in-None-clause-only c x =
    let m = plain c.args.message.now in
    let start = c.fields_end-head.result + c.gap_before.result in
    let only : AllEndOnlyAt (start + 4294967295) 64 c.as_bytes-signature.result.now start m.body None =
    subst (λ (vs : Plains). AllEndOnlyAt (start + 4294967295) 64 c.as_bytes-signature.result.now start vs None) (ap views c.deref.ensures.value) c.in-None.ensures.only in
    absurd (no_layout None refl (layout_only m c.as_bytes-signature.result.now (ap if_any (sym c.as_bytes-signature.ensures)) c.fields_end-head.result start c.fields_end-head.ensures.is (ap (λ (k : ℕ). c.fields_end-head.result + k) c.gap_before.ensures.is) None x only))
