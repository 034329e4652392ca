-- A bench numbers its calls from 1: some fail by their number, and all from a stop on.
use Rattle.std.specs.Prelude.{◌≡◌, ◌+◌, ◌==◌, ◌&&◌, ◌||◌, ℕ, Bool, true, false, not, List, Option, Some, None, Result, Ok, Err, IsOk, IsErr, nat_le, vec_len, if◌then◌else◌}
use Rattle.std.specs.List.{list_any}
use Rattle.updater_text.specs.Counts.{next_count}
use Rattle.machine.specs.declared.world.Child.{Child}
use Rattle.machine.specs.declared.world.Exit.{Exit}
use Rattle.machine.specs.declared.world.World.{World}
use Rattle.machine.specs.declared.calls.CallStop.{CallStop}
use Rattle.machine.specs.declared.calls.CallStop.TheVariants.{Failed, NoMemory}
use Rattle.machine.specs.declared.calls.ReadStop.{ReadStop}
use Rattle.machine.specs.declared.calls.ReadStop.TheVariants as read
use Rattle.machine.specs.declared.calls.RunStop.{RunStop}
use Rattle.machine.specs.declared.calls.RunStop.TheVariants as run
use Rattle.machine_bench.specs.declared.bench.Bench.{Bench}
use Rattle.machine_bench.specs.declared.setup.Setup.{Setup}
use Rattle.undo_log.specs.Logged.{SameLog}
use Rattle.machine_bench.specs.Scripts.{after_child, child_exit, script_for}

-- the number is one of those that fail
abbrev pub is_failing_number : List ℕ → ℕ → Bool
is_failing_number fails number = list_any (λ n. n == number) fails

-- there is a stop at the number or before it
abbrev pub is_past_stop : Option ℕ → ℕ → Bool
is_past_stop None number = false
is_past_stop (Some stop) number = nat_le stop number

-- there is a stop at the number
abbrev pub is_stop : Option ℕ → ℕ → Bool
is_stop None number = false
is_stop (Some stop) number = stop == number

-- the next call fails
abbrev pub fails_next : Bench → Bool
fails_next b = is_failing_number b.fails (vec_len b.log.notes + 1) || is_past_stop b.stop (vec_len b.log.notes + 1)

-- the next call, if it is a write, is half done
abbrev pub halves_next : Bench → Bool
halves_next b = not (is_failing_number b.fails (vec_len b.log.notes + 1)) && is_stop b.stop (vec_len b.log.notes + 1)

-- the answer to a call that was to fail or not, from whether it was noted, and the counts of faults and wants
abbrev pub IsAnswer : {T E : Type 0} → Result T E → Bool → ℕ → ℕ → ℕ → ℕ → Result T CallStop → Type 0
IsAnswer noted fails faults faults' wants wants' (Ok x) = (noted ≡ Ok x) × (fails ≡ false) × (faults' ≡ faults) × (wants' ≡ wants)
IsAnswer noted fails faults faults' wants wants' (Err Failed) = IsOk noted × (fails ≡ true) × (faults' ≡ next_count faults) × (wants' ≡ wants)
IsAnswer noted fails faults faults' wants wants' (Err NoMemory) = IsErr noted × (faults' ≡ faults) × (wants' ≡ next_count wants)

-- what a bench was set up with stays; its boot loader stands in its past
pub record SameSetup (old new : Bench) : Type 0 where
  pub scripts : new.scripts ≡ old.scripts
  pub fails : new.fails ≡ old.fails
  pub stop : new.stop ≡ old.stop
  pub clock : new.clock ≡ old.clock

-- a bench is the same but for its log
pub record SameBench (old new : Bench) : Type 0 where
  pub setup : SameSetup old new
  pub faults : new.faults ≡ old.faults
  pub wants : new.wants ≡ old.wants

-- a bench is set up so, and no call has failed or wanted memory
pub record IsSetUp (setup : Setup) (b : Bench) : Type 0 where
  pub scripts : b.scripts ≡ setup.scripts
  pub boot : b.log.boot ≡ setup.boot
  pub fails : b.fails ≡ setup.fails
  pub stop : b.stop ≡ setup.stop
  pub clock : b.clock ≡ setup.now
  pub faults : b.faults ≡ 0
  pub wants : b.wants ≡ 0

-- a call more, which was to fail or not
pub record OneCallMore (old new : Bench) (fails : Bool) : Type 0 where
  pub by_number : fails_next old ≡ fails
  pub calls : vec_len new.log.notes ≡ vec_len old.log.notes + 1
  pub faults : new.faults ≡ (if fails then next_count old.faults else old.faults)
  pub wants : new.wants ≡ old.wants

-- a call that wanted memory has no number and does nothing
pub record NoCallMore (old new : Bench) : Type 0 where
  pub kept : SameLog old.log new.log
  pub faults : new.faults ≡ old.faults
  pub wants : new.wants ≡ next_count old.wants

-- a call fails exactly by its number; where it fails, the world is this one
abbrev pub Obeys : {T : Type 0} → Bench → Bench → World → Result T CallStop → Type 0
Obeys old new failed (Ok x) = OneCallMore old new false
Obeys old new failed (Err Failed) = OneCallMore old new true × (new.log.world ≡ failed)
Obeys old new failed (Err NoMemory) = NoCallMore old new

-- the same of the reading of a whole file, which does nothing where it fails
abbrev pub FileObeys : {T : Type 0} → Bench → Bench → Result T ReadStop → Type 0
FileObeys old new (Ok x) = OneCallMore old new false
FileObeys old new (Err (read.TooLong n)) = OneCallMore old new false
FileObeys old new (Err read.Failed) = OneCallMore old new true × (new.log.world ≡ old.log.world)
FileObeys old new (Err read.NoMemory) = NoCallMore old new

-- the same of a child, which ends and changes the world by the first script that is for it, or as a boot program does
abbrev pub RunObeys : Bench → Bench → Child → Result Exit RunStop → Type 0
RunObeys old new child (Ok exit) =
    OneCallMore old new false
    × (exit ≡ child_exit (script_for old.scripts child) old.log.boot child old.log.world)
    × (new.log.world ≡ after_child (script_for old.scripts child) old.log.boot child old.log.world)
RunObeys old new child (Err run.Failed) = OneCallMore old new true × (new.log.world ≡ old.log.world)
RunObeys old new child (Err run.NoMemory) = NoCallMore old new
