use Rattle.std.proofs.Common.{◌≡◌, ◌∙◌, ap, arith, unsigned_abs, FitsSigned, w8, w16}
use Rattle.std.proofs.lemmas.Int.{ints, to_z-of_z}
use Rattle.slot_status.specs.Times.{day_of}
use Rattle.jiff_core.proofs.CalendarLemmas.{days_in_month_bounds}
use Rattle.slot_status.proofs.Calendar.{date_is}
use Rattle.slot_status.proofs.day.day_of.Goals as goal

pub returns-clause-value : goal.returns-clause-value
returns-clause-value c =
    let date = c.date_of-date.result in
    let is = date_is date c.args.days c.requires c.date_of-date.ensures in
    let year_fits : FitsSigned w16 c.year.result = rw c.year.ensures (omega (arith, ints, date.year_in)) in
    let month_fits : FitsSigned w8 c.month.result = rw c.month.ensures (omega (arith, ints, date.month_in)) in
    let day_fits : FitsSigned w8 c.day.result = rw c.day.ensures (omega (arith, ints, date.day_in, days_in_month_bounds date.year date.month)) in
    let year : c.unsigned_abs.result ≡ (day_of c.args.days).year = c.unsigned_abs.ensures.value ∙ ap unsigned_abs (to_z-of_z w16 c.year.result year_fits ∙ c.year.ensures ∙ is.0) in
    let month : c.unsigned_abs-2.result ≡ (day_of c.args.days).month = c.unsigned_abs-2.ensures.value ∙ ap unsigned_abs (to_z-of_z w8 c.month.result month_fits ∙ c.month.ensures) ∙ is.1 in
    let day : c.unsigned_abs-3.result ≡ (day_of c.args.days).day = c.unsigned_abs-3.ensures.value ∙ ap unsigned_abs (to_z-of_z w8 c.day.result day_fits ∙ c.day.ensures) ∙ is.2 in
    λ i. record { year = year i; month = month i; day = day i }
