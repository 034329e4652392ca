-- Days counted one after another have the day numbers of the calendar.
use Rattle.std.proofs.Common.{◌≡◌, ◌∙◌, ◌<◌, ◌≤◌, ap, sym, refl, ℕ, zero, suc, ◌+◌, ℤ, pos, arith, cond, nat_lt, ltb-true, ltb-false, Bool, true, false}
use Rattle.std.proofs.lemmas.Int.{ints}
use Rattle.jiff_core.specs.Calendar.{IsCivilDate, IsYear, days_from_civil, days_in_month}
use Rattle.jiff_core.proofs.CalendarLemmas.{days_in_month_bounds}
use Rattle.jiff_core.proofs.DateLemmas.{days_from_civil-day, days_from_civil-max, days_from_civil-next_month, days_from_civil-next_year, epoch_day_injective}
use Rattle.jiff_core.proofs.StandardFacts.{known_days}
use Rattle.jiff.specs.Words.{epoch_day}
use Rattle.jiff.specs.Types.{Date}
use Rattle.slot_status.specs.Times.{day_of, next_day}
use Rattle.slot_status.specs.declared.day.Day.{Day}

-- the day number of 1970-01-01
pub epoch_day-first : (d : Date) → d.year ≡ pos 1970 → pos d.month ≡ pos 1 → pos d.day ≡ pos 1 → epoch_day d ≡ pos 0
epoch_day-first d year month day =
    let month_is : d.month ≡ 1 = omega (arith, ints, month) in
    let day_is : d.day ≡ 1 = omega (arith, ints, day) in
    ap (λ (y : ℤ). days_from_civil y d.month d.day) year
    ∙ (ap (λ (m : ℕ). days_from_civil (pos 1970) m d.day) month_is ∙ (ap (λ (k : ℕ). days_from_civil (pos 1970) 1 k) day_is ∙ known_days.0))

-- the calendar has the day, and it is so many days after 1970-01-01
abbrev pub IsOn : ℕ → Day → Type 0
IsOn days d = IsCivilDate (pos d.year) d.month d.day × (days_from_civil (pos d.year) d.month d.day ≡ pos days)

next_is_on : (days : ℕ) (d : Day) → days + 1 ≤ 2_932_896 → IsOn days d → IsOn (suc days) (next_day d)
next_is_on days d few on = go (nat_lt d.day (days_in_month (pos d.year) d.month)) refl (nat_lt d.month 12) refl
  where
    low : 1 ≤ d.day
    low = on.0.2.0

    go : (b : Bool) → nat_lt d.day (days_in_month (pos d.year) d.month) ≡ b → (e : Bool) → nat_lt d.month 12 ≡ e
        → IsOn (suc days) (cond b (record { year = d.year; month = d.month; day = d.day + 1 }) (cond e (record { year = d.year; month = d.month + 1; day = 1 }) (record { year = d.year + 1; month = 1; day = 1 })))
    go true is e _ =
        let more = days_from_civil-day (pos d.year) d.month (d.day + 1) d.day (omega arith) low in
        ((on.0.0, on.0.1, (omega arith, omega (arith, ltb-true d.day (days_in_month (pos d.year) d.month) is))), omega (arith, ints, more, on.1))
    go false is true before =
        let last : d.day ≡ days_in_month (pos d.year) d.month = omega (arith, ltb-false d.day (days_in_month (pos d.year) d.month) is, on.0.2.1) in
        let more = days_from_civil-next_month (pos d.year) d.month d.day on.0.1.0 last in
        ((on.0.0, (omega arith, omega (arith, ltb-true d.month 12 before)), (omega arith, omega (arith, days_in_month_bounds (pos d.year) (d.month + 1)))), omega (arith, ints, more, on.1))
    go false is false not_before =
        let last : d.day ≡ days_in_month (pos d.year) d.month = omega (arith, ltb-false d.day (days_in_month (pos d.year) d.month) is, on.0.2.1) in
        let december : d.month ≡ 12 = omega (arith, ltb-false d.month 12 not_before, on.0.1.1) in
        let day_is : d.day ≡ 31 = last ∙ ap (days_in_month (pos d.year)) december in
        let here : days_from_civil (pos d.year) 12 31 ≡ pos days = sym (λ i. days_from_civil (pos d.year) (december i) (day_is i)) ∙ on.1 in
        let more = days_from_civil-next_year (pos d.year) (pos (d.year + 1)) (omega (arith, ints)) (omega (arith, ints)) in
        ((in_range (before_last (nat_lt d.year 9999) refl here), (omega arith, omega arith), (omega arith, omega (arith, days_in_month_bounds (pos (d.year + 1)) 1))), omega (arith, ints, more, here))
      where
        in_range : d.year < 9999 → IsYear (pos (d.year + 1))
        in_range less = (omega (arith, ints), omega (arith, ints))

        before_last : (b : Bool) → nat_lt d.year 9999 ≡ b → days_from_civil (pos d.year) 12 31 ≡ pos days → d.year < 9999
        before_last true less here = ltb-true d.year 9999 less
        before_last false not_less here =
            let year : d.year ≡ 9999 = omega (arith, ints, ltb-false d.year 9999 not_less, on.0.0) in
            absurd (omega (arith, ints, few, sym here ∙ ap (λ (y : ℕ). days_from_civil (pos y) 12 31) year ∙ days_from_civil-max))

first_is_on : IsOn 0 (record { year = 1970; month = 1; day = 1 })
first_is_on = (((omega (arith, ints), omega (arith, ints)), (omega arith, omega arith), (omega arith, omega (arith, days_in_month_bounds (pos 1970) 1))), known_days.0)

is_on : (days : ℕ) → days ≤ 2_932_896 → IsOn days (day_of days)
unfolding day_of
is_on zero few = first_is_on
is_on (suc days) few = next_is_on days (day_of days) (omega (arith, few)) (is_on days (omega (arith, few)))

date_on : (days : ℕ) (d : Day) → IsOn days d → (date : Date) × (date.year ≡ pos d.year) × (date.month ≡ d.month) × (date.day ≡ d.day) × (epoch_day date ≡ pos days)
date_on days d on = (record { year = pos d.year; month = d.month; day = d.day; year_in = on.0.0; month_in = on.0.1; day_in = on.0.2 }, refl, refl, refl, on.1)

-- the date of a day number has the year, month and day that are counted
pub date_is : (date : Date) (days : ℕ) → days ≤ 2_932_896 → epoch_day date ≡ pos days → (date.year ≡ pos (day_of days).year) × (date.month ≡ (day_of days).month) × (date.day ≡ (day_of days).day)
date_is date days few on =
    let counted = date_on days (day_of days) (is_on days few) in
    let same = epoch_day_injective date counted.0 (on ∙ sym counted.4) in
    (same.0 ∙ counted.1, same.1 ∙ counted.2, same.2 ∙ counted.3)
