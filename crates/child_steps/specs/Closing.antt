-- How a bundle is unmounted.
use Rattle.std.specs.Prelude.{◌≡◌, ◌≤◌, ◌&&◌, ℕ, Bool, false, List, ◌∷◌, Option, Some, None, if◌then◌else◌}
use Rattle.updater_text.specs.Counts.{CountRose}
use Rattle.machine.specs.declared.world.Child.{Child}
use Rattle.machine.specs.declared.world.Ended.{Ended}
use Rattle.machine.specs.declared.world.RunNote.{RunNote}
use Rattle.machine.specs.SameChild.{is_child}
use Rattle.machine.specs.Past.{Past, IsCall, Run, Broken, moments_since, world_now}
use Rattle.machine.specs.Runs.{has_failed, is_run_of, last_run, runs_since}
use Rattle.child_steps.specs.Mounting.{OneRun, is_success, succeeded}
use Rattle.child_steps.specs.declared.close.Closing.{Closing}
use Rattle.child_steps.specs.declared.close.Closing.TheVariants as closing

-- what an end of the child comes to
abbrev pub closing_of : Ended → Closing
closing_of ended = if is_success ended then closing.Unmounted else closing.Ended ended

-- the bundle is mounted, by the ends of the children that were run: the first two, the check and the mount, succeeded
abbrev pub was_mounted : List RunNote → Bool
was_mounted (check ∷ mount ∷ later) = is_success check.exit.ended && is_success mount.exit.ended
was_mounted notes = false

-- the end of the last child, where that is this one
abbrev pub end_of_last : Child → Option RunNote → Option Ended
end_of_last child None = None
end_of_last child (Some note) = if is_child child note.child then Some note.exit.ended else None

-- what came of the unmount, by its end; without one, its call failed, or memory ran out before it
abbrev pub closing_by : Option Ended → Bool → Closing
closing_by (Some ended) failed = closing_of ended
closing_by None failed = if failed then closing.Failed else closing.NoMemory

-- what came of the unmount since old, by the children that were run and the calls that failed
abbrev pub closing_in : Child → Past → Past → Closing
closing_in umount old new = if was_mounted (runs_since (world_now old) (world_now new))
    then closing_by (end_of_last umount (last_run (world_now old) (world_now new))) (has_failed (is_run_of umount) (moments_since old new))
    else closing.NotMounted

-- the child was run and succeeded, or ended so; or the call that runs it failed; or nothing was done
abbrev pub ClosingEnds : Child → Past → Past → Closing → Type 0
ClosingEnds child old new closing.NotMounted = ⊥
ClosingEnds child old new closing.Unmounted = OneRun child succeeded old new
ClosingEnds child old new (closing.Ended ended) = OneRun child ended old new × (ended ≡ succeeded → ⊥)
ClosingEnds child old new closing.Failed = IsCall old new (Run child) Broken
ClosingEnds child old new closing.NoMemory = new ≡ old

-- counts never fall; that of faults rose where the call failed, and that of calls without memory where it had none
abbrev pub ClosingCounted : ℕ → ℕ → ℕ → ℕ → Closing → Type 0
ClosingCounted faults faults' wants wants' closing.NotMounted = ⊥
ClosingCounted faults faults' wants wants' closing.Unmounted = (faults ≤ faults') × (wants ≤ wants')
ClosingCounted faults faults' wants wants' (closing.Ended ended) = (faults ≤ faults') × (wants ≤ wants')
ClosingCounted faults faults' wants wants' closing.Failed = CountRose faults faults' × (wants ≤ wants')
ClosingCounted faults faults' wants wants' closing.NoMemory = (faults ≤ faults') × CountRose wants wants'
