-- Times as text, in UTC by the proleptic Gregorian calendar, as RAUC's status file has them.
use Rattle.std.specs.Prelude.{ℕ, zero, suc, pos, ◌+◌, ◌/◌, ◌%◌, nat_lt, List, [], ◌∷◌, ◌++◌, codes, if◌then◌else◌}
use Rattle.jiff_core.specs.Calendar.{days_in_month}
use Rattle.slot_status.specs.declared.day.Day.{Day}

-- the day after a day
abbrev pub next_day : Day → Day
next_day d =
    if nat_lt d.day (days_in_month (pos d.year) d.month) then record { year = d.year; month = d.month; day = d.day + 1 }
    else if nat_lt d.month 12 then record { year = d.year; month = d.month + 1; day = 1 }
    else record { year = d.year + 1; month = 1; day = 1 }

-- the day so many days after 1 January 1970
unfoldable pub day_of : ℕ → Day
day_of zero = record { year = 1970; month = 1; day = 1 }
day_of (suc days) = next_day (day_of days)

-- a number below 100 in two digits
abbrev pub two_digits : ℕ → List ℕ
two_digits number = (48 + number / 10) ∷ (48 + number % 10) ∷ []

-- `YYYY-MM-DD`
abbrev pub day_text : Day → List ℕ
day_text d = two_digits (d.year / 100) ++ two_digits (d.year % 100) ++ codes "-" ++ two_digits d.month ++ codes "-" ++ two_digits d.day

-- `hh:mm:ss` of a second of the day
abbrev pub clock_text : ℕ → List ℕ
clock_text second = two_digits (second / 3600) ++ codes ":" ++ two_digits (second % 3600 / 60) ++ codes ":" ++ two_digits (second % 60)

-- `YYYY-MM-DDThh:mm:ssZ` of so many seconds after 1970 began
unfoldable pub time_text : ℕ → List ℕ
time_text seconds = day_text (day_of (seconds / 86400)) ++ codes "T" ++ clock_text (seconds % 86400) ++ codes "Z"
