-- What the calls on a machine leave of its past and its counts, and what they answer.
use Rattle.std.specs.Prelude.{◌≡◌, ◌≤◌, ◌<◌, ◌+◌, ◌^◌, ◌||◌, ℕ, Bool, nat_lt, IsTrue, IfSome, List, [], ◌∷◌, ◌++◌, length, take, drop, Option, Some, None, Result, Ok, Err}
use Rattle.updater_text.specs.Counts.{CountRose}
use Rattle.machine.specs.declared.stops.Fault.{Fault}
use Rattle.machine.specs.declared.stops.Fault.TheVariants as fault
use Rattle.machine.specs.declared.calls.CallStop.{CallStop}
use Rattle.machine.specs.declared.calls.CallStop.TheVariants.{Failed, NoMemory}
use Rattle.machine.specs.declared.calls.ReadStop.{ReadStop}
use Rattle.machine.specs.declared.calls.ReadStop.TheVariants as read
use Rattle.machine.specs.declared.calls.RunStop.{RunStop}
use Rattle.machine.specs.declared.calls.RunStop.TheVariants as run
use Rattle.machine.specs.declared.world.Child.{Child}
use Rattle.machine.specs.declared.world.Exit.{Exit}
use Rattle.machine.specs.World.{HoldsUpTo}
use Rattle.machine.specs.Leaves.{Serves}
use Rattle.machine.specs.Past.{Call, File, Run, Done, Broken, Overlong, Past, world_now, IsCall}

-- the past after a call; a call that wanted memory is no moment of it
abbrev pub Ends : {T : Type 0} → Past → Past → Call → Result T CallStop → Type 0
Ends old new call (Ok x) = IsCall old new call Done
Ends old new call (Err Failed) = IsCall old new call Broken
Ends old new call (Err NoMemory) = new ≡ old

-- the same after the reading of a whole file
abbrev pub FileEnds : {T : Type 0} → Past → Past → List ℕ → Result T ReadStop → Type 0
FileEnds old new path (Ok x) = IsCall old new (File path) Done
FileEnds old new path (Err read.Failed) = IsCall old new (File path) Broken
FileEnds old new path (Err (read.TooLong n)) = IsCall old new (File path) Overlong
FileEnds old new path (Err read.NoMemory) = new ≡ old

-- the same after the run of a child, which stands last in the runs with its end; a boot program that ended with 0 served
abbrev pub RunEnds : Past → Past → Child → Result Exit RunStop → Type 0
RunEnds old new child (Ok exit) =
    IsCall old new (Run child) Done
    × ((world_now new).runs ≡ (world_now old).runs ++ record { child = child; exit = exit } ∷ [])
    × Serves child.class old.boot child exit.ended (world_now old) (world_now new)
RunEnds old new child (Err run.Failed) = IsCall old new (Run child) Broken
RunEnds old new child (Err run.NoMemory) = new ≡ old

-- counts never fall; a call fails only where that of faults rose, and wants memory only where that of wants rose
abbrev pub Counted : {T : Type 0} → ℕ → ℕ → ℕ → ℕ → Result T CallStop → Type 0
Counted faults faults' wants wants' (Ok x) = (faults ≤ faults') × (wants ≤ wants')
Counted faults faults' wants wants' (Err Failed) = CountRose faults faults' × (wants ≤ wants')
Counted faults faults' wants wants' (Err NoMemory) = (faults ≤ faults') × CountRose wants wants'

abbrev pub FileCounted : {T : Type 0} → ℕ → ℕ → ℕ → ℕ → Result T ReadStop → Type 0
FileCounted faults faults' wants wants' (Ok x) = (faults ≤ faults') × (wants ≤ wants')
FileCounted faults faults' wants wants' (Err (read.TooLong n)) = (faults ≤ faults') × (wants ≤ wants')
FileCounted faults faults' wants wants' (Err read.Failed) = CountRose faults faults' × (wants ≤ wants')
FileCounted faults faults' wants wants' (Err read.NoMemory) = (faults ≤ faults') × CountRose wants wants'

abbrev pub RunCounted : {T : Type 0} → ℕ → ℕ → ℕ → ℕ → Result T RunStop → Type 0
RunCounted faults faults' wants wants' (Ok x) = (faults ≤ faults') × (wants ≤ wants')
RunCounted faults faults' wants wants' (Err run.Failed) = CountRose faults faults' × (wants ≤ wants')
RunCounted faults faults' wants wants' (Err run.NoMemory) = (faults ≤ faults') × CountRose wants wants'

-- of each stream of a child so many bytes are kept at most
abbrev pub kept_output : ℕ
kept_output = 65536

-- there was more in the stream than is kept of it
abbrev pub is_cut : List ℕ → Bool
is_cut stream = nat_lt kept_output (length stream)

-- a child put these bytes out on its two streams: the front of each is kept, and `cut` says whether there was more in one
pub record KeepsFronts (out err : List ℕ) (exit : Exit) : Type 0 where
  pub out_kept : exit.out ≡ take kept_output out
  pub err_kept : exit.err ≡ take kept_output err
  pub cut_is : exit.cut ≡ (is_cut out || is_cut err)

-- whatever it put out
pub record IsKept (exit : Exit) : Type 0 where
  pub out : List ℕ
  pub err : List ℕ
  pub fronts : KeepsFronts out err exit

-- the file's bytes, or None for no file; too long exactly where it is longer than the limit
abbrev pub Found : Option (List ℕ) → ℕ → Result (Option (List ℕ)) ReadStop → Type 0
Found there limit (Ok None) = there ≡ None
Found there limit (Ok (Some bytes)) = (there ≡ Some bytes) × (length bytes ≤ limit)
Found there limit (Err (read.TooLong n)) = (bytes : List ℕ) × (there ≡ Some bytes) × (n ≡ length bytes) × (limit < n)
Found there limit (Err read.Failed) = Unit {0}
Found there limit (Err read.NoMemory) = Unit {0}

-- the same of a machine that may not tell its files
abbrev pub LongerThan : {T : Type 0} → ℕ → Result T ReadStop → Type 0
LongerThan limit (Ok x) = Unit {0}
LongerThan limit (Err (read.TooLong n)) = limit < n
LongerThan limit (Err read.Failed) = Unit {0}
LongerThan limit (Err read.NoMemory) = Unit {0}

pub record ReadsFile (tells : Bool) (there : Option (List ℕ)) (limit : ℕ) (result : Result (Option (List ℕ)) ReadStop) : Type 0 where
  pub found : IsTrue tells → Found there limit result
  pub longer : LongerThan limit result

-- this length, or None for nothing there; the lengths of a machine end below 2^63
pub record IsLong (tells : Bool) (there : Option ℕ) (size : Option ℕ) : Type 0 where
  pub is : IsTrue tells → size ≡ there
  pub small : IfSome size (λ length. length < 2 ^ 63)

-- so many bytes from an offset on stand at the front of the buffer, whose rest is as it was
pub record Took (tells : Bool) (there : List ℕ) (at : ℕ) (before after : List ℕ) (count : ℕ) : Type 0 where
  pub within : count ≤ length before
  pub rest : drop count after ≡ drop count before
  pub bytes : IsTrue tells → take count after ≡ take count (drop at there)

-- a read gives nothing only at the end of what is there, or for an empty buffer
pub record ReadSome (tells : Bool) (there : List ℕ) (at : ℕ) (before after : List ℕ) (count : ℕ) : Type 0 where
  pub took : Took tells there at before after count
  pub some : IsTrue tells → count ≡ 0 → 0 < length before → length there ≤ at

-- the buffer was filled, or what is there ends
pub record ReadFull (tells : Bool) (there : List ℕ) (at : ℕ) (before after : List ℕ) (count : ℕ) : Type 0 where
  pub took : Took tells there at before after count
  pub full : IsTrue tells → count < length before → length there ≤ at + count

-- a write is made where the disk has room for it up to this end
pub record WriteFits (tells : Bool) (past : Past) (path : List ℕ) (end : ℕ) : Type 0 where
  pub room : IsTrue tells → HoldsUpTo (world_now past) path end

-- the kind of a call that ended so
abbrev pub call_fault : {T : Type 0} → Fault → Result T CallStop → Option Fault
call_fault kind (Ok x) = None
call_fault kind (Err Failed) = Some kind
call_fault kind (Err NoMemory) = None

abbrev pub file_fault : {T : Type 0} → Result T ReadStop → Option Fault
file_fault (Ok x) = None
file_fault (Err read.Failed) = Some fault.Read
file_fault (Err (read.TooLong n)) = None
file_fault (Err read.NoMemory) = None

abbrev pub run_fault : {T : Type 0} → Result T RunStop → Option Fault
run_fault (Ok x) = None
run_fault (Err run.Failed) = Some fault.Run
run_fault (Err run.NoMemory) = None
