-- What a crash may leave of a world.
use Rattle.std.specs.Prelude.{◌≡◌, ◌+◌, ◌&&◌, ℕ, Bool, false, List, [], bytes_eq, nat_lt, nat_le}
use Rattle.std.specs.List.{list_any}
use Rattle.machine.specs.declared.world.Span.{Span}
use Rattle.machine.specs.declared.world.World.{World}
use Rattle.machine.specs.World.{disk_byte, disk_length}

-- a span covers a byte of a path
abbrev pub covers : Span → List ℕ → ℕ → Bool
covers s path i = bytes_eq s.path path && (nat_le s.at i && nat_lt i (s.at + s.length))

-- one of the spans covers it
abbrev pub is_in : List Span → List ℕ → ℕ → Bool
is_in spans path i = list_any (λ s. covers s path i) spans

-- v is a crash image of w: nothing is pending, and all but the bytes that were pending is as in w
pub record Crash (w v : World) : Type 0 where
  pub files : v.files ≡ w.files
  pub vars : v.vars ≡ w.vars
  pub writes : v.writes ≡ w.writes
  pub runs : v.runs ≡ w.runs
  pub fetched : v.fetched ≡ w.fetched
  pub pending : v.pending ≡ []
  pub lengths : (path : List ℕ) → disk_length v path ≡ disk_length w path
  pub bytes : (path : List ℕ) (i : ℕ) → is_in w.pending path i ≡ false → disk_byte v path i ≡ disk_byte w path i
