use Rattle.std.proofs.Common.{◌≡◌, ◌∙◌, arith, w64, pos}
use Rattle.std.proofs.lemmas.Int.{ints, to_z_pos}
use Rattle.jiff.specs.Words.{epoch_day}
use Rattle.jiff.proofs.SpanFacts.{date_add-days, can_add-days}
use Rattle.slot_status.proofs.Calendar.{epoch_day-first}
use Rattle.slot_status.proofs.day.date_of.Goals as goal

pub unreachable-requires : goal.unreachable-requires
unreachable-requires c =
    let only = rw (to_z_pos w64 c.args.days (omega (arith, c.ranges.days))) at c.days.ensures in
    let start : epoch_day c.date.result ≡ pos 0 = epoch_day-first c.date.result c.date.ensures.0 c.date.ensures.1 c.date.ensures.2 in
    let can = (can_add-days c.date.result (pos c.args.days) c.days.result only).1 (rw start (omega (arith, ints, c.requires))) in
    let bad = c.in-Err.ensures.succeeds.1 can in
    cc

pub returns : goal.returns
returns c =
    let only = rw (to_z_pos w64 c.args.days (omega (arith, c.ranges.days))) at c.days.ensures in
    let start : epoch_day c.date.result ≡ pos 0 = epoch_day-first c.date.result c.date.ensures.0 c.date.ensures.1 c.date.ensures.2 in
    c.in-Ok.ensures.value ∙ (date_add-days c.date.result (pos c.args.days) c.days.result only ∙ rw start (omega (arith, ints)))
