-- An undo log: the past of a machine in memory, told back from the world as it is now.
use Rattle.std.specs.Prelude.{◌+◌, ◌-◌, ℕ, Bool, true, false, List, [], ◌∷◌, length, reverse, bytes_eq, is_some, Option, Some, None, if◌then◌else◌}
use Rattle.boot_model.specs.declared.boot_kind.BootKind.{BootKind}
use Rattle.machine.specs.declared.world.Named.{Named}
use Rattle.machine.specs.declared.world.World.{World}
use Rattle.machine.specs.World.{disk, patch_under}
use Rattle.machine.specs.Past.{Call, File, Size, Read, Write, Sync, Replace, Run, Clock, End, Done, Broken, Overlong, Moment, Past, but_last, with_moments}
use Rattle.undo_log.specs.declared.notes.NotedCall.{NotedCall}
use Rattle.undo_log.specs.declared.notes.NotedCall.TheVariants as noted
use Rattle.undo_log.specs.declared.notes.Change.{Change}
use Rattle.undo_log.specs.declared.notes.Change.TheVariants as change
use Rattle.undo_log.specs.declared.notes.NotedEnd.{NotedEnd}
use Rattle.undo_log.specs.declared.notes.NotedEnd.TheVariants as noted_end
use Rattle.undo_log.specs.declared.notes.Note.{Note}
use Rattle.undo_log.specs.Effects.{has_room}

-- a noted call as the past has it
abbrev pub past_call : NotedCall → Call
past_call (noted.File path) = File path
past_call (noted.Size path) = Size path
past_call (noted.Read path count) = Read path count
past_call (noted.Write path at count) = Write path at count
past_call (noted.Sync path) = Sync path
past_call (noted.Replace path bytes) = Replace path bytes
past_call (noted.Run child) = Run child
past_call (noted.Clock seconds) = Clock seconds

-- a noted end as the past has it
abbrev pub past_end : NotedEnd → End
past_end noted_end.Done = Done
past_end noted_end.Failed = Broken
past_end noted_end.TooLong = Overlong

-- the world with bytes of a disk as they were, where the range lies on it
abbrev pub with_bytes : World → List ℕ → ℕ → List ℕ → World
with_bytes w path at bytes = record w { disks = if has_room w path (at + length bytes) then patch_under w.disks path at bytes else w.disks }

-- bytes in the place of those under a path, if there are any
abbrev pub replace_under : List Named → List ℕ → List ℕ → List Named
replace_under [] path bytes = []
replace_under (n ∷ ns) path bytes =
    if bytes_eq n.path path then record n { bytes = bytes } ∷ ns else n ∷ replace_under ns path bytes

-- files before bytes were put under a path, in the place of these or as the last
abbrev pub files_before_put : List Named → List ℕ → Option (List ℕ) → List Named
files_before_put files path None = but_last files
files_before_put files path (Some bytes) = replace_under files path bytes

-- the items at the places that are marked
abbrev pub items_at : {A : Type 0} → List Bool → List A → List A
items_at [] xs = []
items_at (b ∷ bs) [] = []
items_at (true ∷ bs) (x ∷ xs) = x ∷ items_at bs xs
items_at (false ∷ bs) (x ∷ xs) = items_at bs xs

-- files, but for an empty one at each place that is marked
abbrev pub with_blanks_at : List Bool → List Named → List Named
with_blanks_at [] files = files
with_blanks_at (b ∷ bs) [] = []
with_blanks_at (true ∷ bs) (n ∷ ns) = record { path = []; bytes = [] } ∷ with_blanks_at bs ns
with_blanks_at (false ∷ bs) (n ∷ ns) = n ∷ with_blanks_at bs ns

-- files with others, in their order, at the places that are marked
abbrev pub with_files_at : List Bool → List Named → List Named → List Named
with_files_at [] files others = files
with_files_at (b ∷ bs) [] others = []
with_files_at (false ∷ bs) (n ∷ ns) others = n ∷ with_files_at bs ns others
with_files_at (true ∷ bs) (n ∷ ns) [] = n ∷ with_files_at bs ns []
with_files_at (true ∷ bs) (n ∷ ns) (o ∷ others) = o ∷ with_files_at bs ns others

-- the world before a change, from the world after it
abbrev pub world_before : Change → World → World
world_before (change.Fetched count) w = record w { fetched = w.fetched - count }
world_before (change.Wrote path at bytes) w = record (with_bytes w path at bytes) { pending = but_last w.pending; writes = but_last w.writes }
world_before (change.ChildWrote path at bytes) w = record (with_bytes w path at bytes) { pending = but_last w.pending }
world_before (change.Synced pending) w = record w { pending = pending }
world_before (change.Put path replaced) w = record w { files = files_before_put w.files path replaced }
world_before (change.Dropped places stays) w = record w { files = with_files_at stays places w.files }
world_before change.Ran w = record w { runs = but_last w.runs }
world_before (change.Varied vars) w = record w { vars = vars }

-- the world before a change, if there was one
abbrev pub world_before_if : Option Change → World → World
world_before_if None w = w
world_before_if (Some change) w = world_before change w

-- the world before changes, of which the last was made last
abbrev pub world_before_all : List Change → World → World
world_before_all [] w = w
world_before_all (c ∷ cs) w = world_before c (world_before_all cs w)

-- what a read of so many bytes changes: the count of those of files
abbrev pub changes_of_read : World → List ℕ → ℕ → List Change
changes_of_read w path count = if is_some (disk w path) then [] else change.Fetched count ∷ []

-- the call of a note as a moment of the past, from the world after it
abbrev pub moment_of : Note → World → Moment
moment_of n w = record { call = past_call n.call; end = past_end n.end; after = w }

-- the past of a world, from notes with the newest first
abbrev pub past_from_newest : BootKind → World → List Note → Past
past_from_newest boot w [] = record { boot = boot; first = w; moments = [] }
past_from_newest boot w (n ∷ older) = with_moments (past_from_newest boot (world_before_all n.changes w) older) (moment_of n w ∷ [])

-- the past of a world, from notes with the oldest first
abbrev pub past_of : BootKind → World → List Note → Past
past_of boot w notes = past_from_newest boot w (reverse notes)
