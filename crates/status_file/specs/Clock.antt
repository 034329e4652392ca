-- What the clock said.
use Rattle.std.specs.Prelude.{ℤ, Option, Some, None}
use Rattle.conf_forms.specs.Lists.{first_of}
use Rattle.machine.specs.Past.{Call, Clock, End, Done, Moment, Past, moments_since}

-- the seconds that a call gave which asked the clock
abbrev pub said_by : Call → End → Option ℤ
said_by (Clock seconds) Done = Some seconds
said_by call end = None

abbrev pub seconds_of : Moment → Option ℤ
seconds_of m = said_by m.call m.end

-- the seconds that the clock gave first since old
abbrev pub clock_since : Past → Past → Option ℤ
clock_since old new = first_of seconds_of (moments_since old new)
