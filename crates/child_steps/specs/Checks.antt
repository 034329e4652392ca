-- How a bundle decides whether it is installed, by the end of its hook.
use Rattle.std.specs.Prelude.{◌≡◌, ◌==◌, ℕ, Bool, false, List, [], ◌∷◌, Result, Ok, Err, if◌then◌else◌}
use Rattle.std.specs.List.{before_first}
use Rattle.std.specs.Str.{is_utf8}
use Rattle.keyfile.specs.Groups.{Text}
use Rattle.machine.specs.declared.stops.Fault.TheVariants as fault
use Rattle.machine.specs.declared.stops.Stop.{Stop}
use Rattle.machine.specs.declared.stops.Stop.TheVariants as stop
use Rattle.machine.specs.declared.world.Child.{Child}
use Rattle.machine.specs.declared.world.Ended.{Ended}
use Rattle.machine.specs.declared.world.Ended.TheVariants.{Code, Signal}
use Rattle.machine.specs.declared.world.Exit.{Exit}
use Rattle.machine.specs.Past.{Past, Run, Done, Broken, IsCall}
use Rattle.machine.specs.Runs.{RunSince}
use Rattle.child_steps.specs.Mounting.{is_success}
use Rattle.child_steps.specs.declared.refusal.CheckRefusal.{CheckRefusal}
use Rattle.child_steps.specs.declared.refusal.CheckRefusal.TheVariants.{Rejected, CheckFailed}

-- the hook rejects the bundle
abbrev pub is_rejection : Ended → Bool
is_rejection (Code code) = code == 10
is_rejection Signal = false

-- the byte that ends a line
abbrev pub is_line_feed : ℕ → Bool
is_line_feed byte = byte == 10

-- the first line of what was put out: up to its line feed, or all of it
abbrev pub first_line : List ℕ → List ℕ
first_line output = before_first is_line_feed output

-- these bytes as a text, which is empty where they are no UTF-8
abbrev pub text_of : List ℕ → Text
text_of bytes = if is_utf8 bytes then bytes else []

-- what the end of the hook comes to: the bundle may be installed; or it may not, for the reason that the first line of the errors gives; or the hook failed
abbrev pub check_answer : Exit → Result (Unit {0}) CheckRefusal
check_answer exit =
    if is_success exit.ended then Ok tt
    else if is_rejection exit.ended then Err (Rejected (text_of (first_line exit.err)))
    else Err (CheckFailed exit.ended)

-- one call was made since: it ran this child, which ended so
pub record OneExit (child : Child) (exit : Exit) (old new : Past) : Type 0 where
  pub call : IsCall old new (Run child) Done
  pub runs : RunSince old new (record { child = child; exit = exit } ∷ [])

-- the hook was run, and this is what its end comes to; or its call failed; or nothing was done
abbrev pub CheckEnds : Child → Past → Past → Result (Unit {0}) (Stop CheckRefusal) → Type 0
CheckEnds hook old new (Ok x) = (exit : Exit) × OneExit hook exit old new × (check_answer exit ≡ Ok x)
CheckEnds hook old new (Err (stop.Refused refusal)) = (exit : Exit) × OneExit hook exit old new × (check_answer exit ≡ Err refusal)
CheckEnds hook old new (Err (stop.Outside kind)) = IsCall old new (Run hook) Broken × (kind ≡ fault.Run)
CheckEnds hook old new (Err stop.NoMemory) = new ≡ old
