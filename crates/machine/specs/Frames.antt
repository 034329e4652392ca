-- What calls leave alone: relations from the world before to each world since.
use Rattle.std.specs.Prelude.{◌≡◌, ◌≤◌, ◌<◌, ◌⊎◌, ◌+◌, ◌++◌, ℕ, Bool, true, false, IsTrue, List}
use Rattle.std.specs.List.{All}
use Rattle.machine.specs.declared.world.Span.{Span}
use Rattle.machine.specs.declared.world.World.{World}
use Rattle.machine.specs.World.{disk_byte, disk_length, with_file}
use Rattle.machine.specs.Crash.{is_in}
use Rattle.machine.specs.Past.{Past, world_now, Always, Held}

-- w is old after reads
pub record IsRead (old w : World) : Type 0 where
  pub same : w ≡ record old { fetched = w.fetched }
  pub fetched : old.fetched ≤ w.fetched

-- the byte lies in this range of this disk
abbrev pub InRange : List ℕ → ℕ → ℕ → List ℕ → ℕ → Type 0
InRange device from to path i = (path ≡ device) × (from ≤ i) × (i < to)

-- the span lies in this range of this disk
pub record SpanIn (device : List ℕ) (from to : ℕ) (s : Span) : Type 0 where
  pub path : s.path ≡ device
  pub start : from ≤ s.at
  pub end : s.at + s.length ≤ to

-- the spans are the old ones, and more that lie in this range of this disk
pub record AddsWrites (device : List ℕ) (from to : ℕ) (old new : List Span) : Type 0 where
  pub added : List Span
  pub grows : new ≡ old ++ added
  pub within : All (SpanIn device from to) added

-- w is old but for a range of one disk, which may hold any bytes and be pending, and for writes and reads
pub record DiffersOnlyIn (device : List ℕ) (from to : ℕ) (old w : World) : Type 0 where
  pub files : w.files ≡ old.files
  pub vars : w.vars ≡ old.vars
  pub runs : w.runs ≡ old.runs
  pub lengths : (path : List ℕ) → disk_length w path ≡ disk_length old path
  pub bytes : (path : List ℕ) (i : ℕ) → (InRange device from to path i → ⊥) → disk_byte w path i ≡ disk_byte old path i
  pub pending : (path : List ℕ) (i : ℕ) → is_in w.pending path i ≡ true → (is_in old.pending path i ≡ true) ⊎ InRange device from to path i
  pub writes : AddsWrites device from to old.writes w.writes
  pub fetched : old.fetched ≤ w.fetched

-- where told: at each moment since, inside the calls too, the world was as before
pub record Unchanged (tells : Bool) (old new : Past) : Type 0 where
  pub all : IsTrue tells → Always old new (λ u. u ≡ world_now old)

-- where told: at each moment since, inside the calls too, only reads were done
pub record OnlyReads (tells : Bool) (old new : Past) : Type 0 where
  pub all : IsTrue tells → Always old new (IsRead (world_now old))

-- where told: at each moment since, inside the calls too, only this range was written
pub record ChangesOnly (tells : Bool) (device : List ℕ) (from to : ℕ) (old new : Past) : Type 0 where
  pub all : IsTrue tells → Always old new (DiffersOnlyIn device from to (world_now old))

-- where told: at each moment since, inside the calls too, only this file was replaced: it is the old one, or has these bytes
pub record ReplacesOnly (tells : Bool) (path bytes : List ℕ) (old new : Past) : Type 0 where
  pub all : IsTrue tells → Always old new (λ u. (u ≡ world_now old) ⊎ (u ≡ with_file (world_now old) path bytes))

-- the spans are the old ones, and more that cover only bytes that may be touched
pub record AddsTouching (Touched : List ℕ → ℕ → Type 0) (old new : List Span) : Type 0 where
  pub added : List Span
  pub grows : new ≡ old ++ added
  pub within : (path : List ℕ) (i : ℕ) → is_in added path i ≡ true → Touched path i

-- v, which a stop left, is old but for the bytes of disks that may be touched, and for those that were pending in old
pub record SameBut (Touched : List ℕ → ℕ → Type 0) (old v : World) : Type 0 where
  pub files : v.files ≡ old.files
  pub vars : v.vars ≡ old.vars
  pub runs : v.runs ≡ old.runs
  pub writes : AddsTouching Touched old.writes v.writes
  pub lengths : (path : List ℕ) → disk_length v path ≡ disk_length old path
  pub bytes : (path : List ℕ) (i : ℕ) → (Touched path i → ⊥) → is_in old.pending path i ≡ false → disk_byte v path i ≡ disk_byte old path i

-- where told: whatever a stop since may have left, only this range differs
pub record CrashChangesOnly (tells : Bool) (device : List ℕ) (from to : ℕ) (old new : Past) : Type 0 where
  pub each : IsTrue tells → (v : World) → Held old new v → SameBut (InRange device from to) (world_now old) v
