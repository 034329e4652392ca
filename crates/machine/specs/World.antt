-- The world: what stands under its paths, and what the calls make of it.
use Rattle.std.specs.Prelude.{◌≡◌, ◌≤◌, ◌+◌, ℕ, Bool, true, false, not, List, [], ◌∷◌, ◌++◌, length, take, drop, filter, Option, Some, None, slice_get, bytes_eq, unwrap_or, is_some, if◌then◌else◌}
use Rattle.std.specs.Option.{option_and_then, option_map}
use Rattle.machine.specs.declared.world.Named.{Named}
use Rattle.machine.specs.declared.world.World.{World}

-- the bytes under a path, if there are any
abbrev pub bytes_under : List Named → List ℕ → Option (List ℕ)
bytes_under [] path = None
bytes_under (n ∷ ns) path = if bytes_eq n.path path then Some n.bytes else bytes_under ns path

-- the bytes of a disk
abbrev pub disk : World → List ℕ → Option (List ℕ)
disk w path = bytes_under w.disks path

-- the bytes of a file
abbrev pub file : World → List ℕ → Option (List ℕ)
file w path = bytes_under w.files path

-- the length of a disk
abbrev pub disk_length : World → List ℕ → Option ℕ
disk_length w path = option_map length (disk w path)

-- a byte of a disk
abbrev pub disk_byte : World → List ℕ → ℕ → Option ℕ
disk_byte w path i = option_and_then (λ bytes. slice_get bytes i) (disk w path)

-- what a read finds under a path: a disk, else a file, else nothing
unfoldable pub readable : World → List ℕ → List ℕ
readable w path = unwrap_or (disk w path) (unwrap_or (file w path) [])

-- the length of the disk, or where any is asked for, of the disk or file
abbrev pub length_under : World → List ℕ → Bool → Option ℕ
length_under w path true = disk_length w path
length_under w path false = option_map length (if is_some (disk w path) then disk w path else file w path)

-- the range up to this end lies on the disk
abbrev pub HoldsUpTo : World → List ℕ → ℕ → Type 0
HoldsUpTo w path end = (room : ℕ) × (disk_length w path ≡ Some room) × (end ≤ room)

-- bytes with others in their place from an offset on
abbrev pub patch_at : List ℕ → ℕ → List ℕ → List ℕ
patch_at old at bytes = take at old ++ bytes ++ drop (at + length bytes) old

-- the same of the bytes under a path
abbrev pub patch_under : List Named → List ℕ → ℕ → List ℕ → List Named
patch_under [] path at bytes = []
patch_under (n ∷ ns) path at bytes =
    if bytes_eq n.path path then record n { bytes = patch_at n.bytes at bytes } ∷ ns else n ∷ patch_under ns path at bytes

-- bytes put under a path: in the place of those that are there, else last
abbrev pub put_under : List Named → List ℕ → List ℕ → List Named
put_under [] path bytes = record { path = path; bytes = bytes } ∷ []
put_under (n ∷ ns) path bytes =
    if bytes_eq n.path path then record n { bytes = bytes } ∷ ns else n ∷ put_under ns path bytes

-- a range of a disk was written: it is pending, and stands last in the writes
unfoldable pub with_write : World → List ℕ → ℕ → List ℕ → World
with_write w path at bytes = record w {
  disks = patch_under w.disks path at bytes;
  pending = w.pending ++ record { path = path; at = at; length = length bytes } ∷ [];
  writes = w.writes ++ record { path = path; at = at; length = length bytes } ∷ [];
}

-- a disk was synced: nothing of it is pending
unfoldable pub with_sync : World → List ℕ → World
with_sync w path = record w { pending = filter (λ s. not (bytes_eq s.path path)) w.pending }

-- a file was put in the place of the one at the path, or made
unfoldable pub with_file : World → List ℕ → List ℕ → World
with_file w path bytes = record w { files = put_under w.files path bytes }

-- so many bytes were read under a path; those of a file count
unfoldable pub with_fetched : World → List ℕ → ℕ → World
with_fetched w path count = record w { fetched = if is_some (disk w path) then w.fetched else w.fetched + count }
