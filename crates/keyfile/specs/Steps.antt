-- What the reader does with one line.
use Rattle.std.specs.Prelude.{◌≡◌, ℕ, Option, Some, None, List, Result, Ok, Err}
use Rattle.updater_text.specs.declared.stops.Lack.{Lack}
use Rattle.updater_text.specs.declared.stops.Lack.TheVariants as lack
use Rattle.keyfile.specs.Escapes.{unescape}
use Rattle.keyfile.specs.Groups.{Text, Group, with_group, group_place, put_at}
use Rattle.keyfile.specs.Lines.{Line, nothing, heading, entry, bad}
use Rattle.keyfile.specs.declared.fault.KeyFault.{KeyFault}
use Rattle.keyfile.specs.declared.fault.KeyFault.TheVariants as fault

-- the groups so far, and the place of the one that the next line stands in
abbrev pub State : Type 0
State = List Group × Option ℕ

-- after an entry of the group at a place
abbrev pub after_entry : List Group → ℕ → ℕ → Text → Option Text → Result State KeyFault
after_entry groups at number key None = Err (fault.BadEscape number)
after_entry groups at number key (Some value) = Ok (put_at groups at key value, Some at)

-- after a line of this number
abbrev pub after_line : List Group → Option ℕ → ℕ → Line → Result State KeyFault
after_line groups at number nothing = Ok (groups, at)
after_line groups at number (heading name) = Ok (with_group groups name, Some (group_place groups name))
after_line groups None number (entry key value) = Err (fault.KeyBeforeGroup number)
after_line groups (Some at) number (entry key value) = after_entry groups at number key (unescape value)
after_line groups at number bad = Err (fault.BadLine number)

-- a call left these groups and answered the place, or gave the fault, or out of memory
abbrev pub GivesState : Result (Option ℕ) (Lack KeyFault) → List Group → Result State KeyFault → Type 0
GivesState (Ok at) new wanted = wanted ≡ Ok (new, at)
GivesState (Err (lack.Refused refusal)) new wanted = wanted ≡ Err refusal
GivesState (Err lack.NoMemory) new wanted = Unit {0}
