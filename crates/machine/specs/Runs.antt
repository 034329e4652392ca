-- What calls leave alone that run children, and what these were.
use Rattle.std.specs.Prelude.{◌≡◌, ◌≤◌, ◌==◌, ◌⊎◌, ◌&&◌, ◌||◌, ℕ, Bool, true, false, IsTrue, List, [], ◌∷◌, ◌++◌, ◌+◌, Option, None, drop, length, map, if◌then◌else◌}
use Rattle.std.specs.List.{last_or}
use Rattle.machine.specs.declared.stops.Fault.{Fault}
use Rattle.machine.specs.declared.world.Child.{Child}
use Rattle.machine.specs.declared.world.RunNote.{RunNote}
use Rattle.machine.specs.declared.world.Spares.{Spares}
use Rattle.machine.specs.declared.world.World.{World}
use Rattle.machine.specs.World.{disk, disk_byte, disk_length, file}
use Rattle.machine.specs.Crash.{is_in}
use Rattle.machine.specs.SameChild.{is_child}
use Rattle.machine.specs.Spares.{has_disk, has_file, is_boot, is_kernels, spans_of}
use Rattle.machine.specs.Past.{Call, File, Run, End, Done, Broken, Overlong, Past, Moment, Always, IsCall, failed_or, kind_of, moments_since, world_now}

-- ---- which children were run

abbrev pub children_in : List RunNote → List Child
children_in notes = map (λ n. n.child) notes

-- the runs of v that w has not, with their ends
abbrev pub runs_since : World → World → List RunNote
runs_since w v = drop (length w.runs) v.runs

-- the last of them
abbrev pub last_run : World → World → Option RunNote
last_run w v = last_or None (runs_since w v)

-- these children were run since, with these ends, and no others
abbrev pub RunSince : Past → Past → List RunNote → Type 0
RunSince old new notes = (world_now new).runs ≡ (world_now old).runs ++ notes

-- these children were run since, and no others
abbrev pub RanAll : List Child → Past → Past → Type 0
RanAll children old new = (notes : List RunNote) × (children_in notes ≡ children) × RunSince old new notes

-- the first of these worlds that has so many runs
abbrev pub world_with : ℕ → World → List Moment → World
world_with count w [] = w
world_with count w (m ∷ ms) = if length w.runs == count then w else world_with count m.after ms

-- the first world since old that has so many runs more
abbrev pub world_after_runs : ℕ → Past → Past → World
world_after_runs more old new = world_with (length (world_now old).runs + more) (world_now old) (moments_since old new)

-- of these children those that were run since w, up to v: all, or the first of them
pub record RunsFirst (children : List Child) (w v : World) : Type 0 where
  pub notes : List RunNote
  pub later : List Child
  pub runs : v.runs ≡ w.runs ++ notes
  pub order : children ≡ children_in notes ++ later

-- ---- what they leave alone

-- w is old but for reads, for these children, or the first of them, that were run, and for what they need not leave alone
pub record LeftAlone (spares : Spares) (children : List Child) (old w : World) : Type 0 where
  pub runs : RunsFirst children old w
  pub writes : w.writes ≡ old.writes
  pub fetched : old.fetched ≤ w.fetched
  pub lengths : (path : List ℕ) → disk_length w path ≡ disk_length old path
  pub disks : (path : List ℕ) → IsTrue (has_disk spares path) → disk w path ≡ disk old path
  pub pending : (path : List ℕ) → IsTrue (has_disk spares path) → spans_of w.pending path ≡ spans_of old.pending path
  pub files : (path : List ℕ) → IsTrue (is_kernels path || has_file spares path) → file w path ≡ file old path
  pub vars : IsTrue spares.boot → w.vars ≡ old.vars

-- where told: at each moment since, inside the calls too, this was left alone, and only these children were run, in order
pub record OnlyRuns (tells : Bool) (spares : Spares) (children : List Child) (old new : Past) : Type 0 where
  pub all : IsTrue tells → Always old new (LeftAlone spares children (world_now old))

-- v, which a stop left, is old but for these children, or the first of them, that were run, and for what they need not leave alone; and for bytes that were pending in old
pub record LeftByAStop (spares : Spares) (children : List Child) (old v : World) : Type 0 where
  pub runs : RunsFirst children old v
  pub writes : v.writes ≡ old.writes
  pub lengths : (path : List ℕ) → disk_length v path ≡ disk_length old path
  pub bytes : (path : List ℕ) → IsTrue (has_disk spares path) → (i : ℕ) → is_in old.pending path i ≡ false → disk_byte v path i ≡ disk_byte old path i
  pub files : (path : List ℕ) → IsTrue (is_kernels path || has_file spares path) → file v path ≡ file old path
  pub vars : IsTrue spares.boot → v.vars ≡ old.vars

-- the child is no boot program, and must leave alone what these say
pub record SparesThese (spares : Spares) (child : Child) : Type 0 where
  pub class : is_boot child.class ≡ false
  pub disks : (path : List ℕ) → IsTrue (has_disk spares path) → IsTrue (has_disk child.spares path)
  pub files : (path : List ℕ) → IsTrue (has_file spares path) → IsTrue (has_file child.spares path)
  pub boot : IsTrue spares.boot → IsTrue child.spares.boot

-- ---- which calls were made

-- the call runs this child
abbrev pub is_run_of : Child → Call → Bool
is_run_of child (Run other) = is_child child other
is_run_of child call = false

-- the kind of the first of these calls that failed, but for those that are left out
abbrev pub first_failed_but : (Call → Bool) → List Moment → Option Fault
first_failed_but left_out [] = None
first_failed_but left_out (m ∷ ms) =
    if left_out m.call then first_failed_but left_out ms else failed_or m.end (kind_of m.call) (first_failed_but left_out ms)

abbrev pub is_broken : End → Bool
is_broken Done = false
is_broken Broken = true
is_broken Overlong = false

-- one of these calls, of those asked for, failed
abbrev pub has_failed : (Call → Bool) → List Moment → Bool
has_failed asked [] = false
has_failed asked (m ∷ ms) = (asked m.call && is_broken m.end) || has_failed asked ms

-- at most one call was made: this file was read
abbrev pub ReadsOnce : List ℕ → Past → Past → Type 0
ReadsOnce path old new = (new ≡ old) ⊎ ((end : End) × IsCall old new (File path) end)
