-- How often calls on the system have failed, and how often they were out of memory.
use Rattle.std.specs.Prelude.{ℕ, Result, Ok, Err}
use Rattle.updater_text.specs.Counts.{next_count}
use Rattle.machine.specs.declared.calls.CallStop.{CallStop}
use Rattle.machine.specs.declared.calls.CallStop.TheVariants.{Failed, NoMemory}

-- the two counts
pub record Tally : Type 0 where
  pub faults : ℕ
  pub wants : ℕ

-- after a call with this end
abbrev pub tally_after : {T : Type 0} → Tally → Result T CallStop → Tally
tally_after tally (Ok x) = tally
tally_after tally (Err Failed) = record tally { faults = next_count tally.faults }
tally_after tally (Err NoMemory) = record tally { wants = next_count tally.wants }
