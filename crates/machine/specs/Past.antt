-- The past of a machine: its calls in order, each with its end and the world after it.
use Rattle.std.specs.Prelude.{◌≡◌, ◌≤◌, ◌⊎◌, ◌-◌, ℕ, ℤ, Bool, IsTrue, List, [], ◌∷◌, ◌++◌, length, take, drop, Option, Some, None}
use Rattle.boot_model.specs.declared.boot_kind.BootKind.{BootKind}
use Rattle.boot_model.specs.declared.boot_kind.BootKind.TheVariants.{Noop}
use Rattle.machine.specs.declared.stops.Fault.{Fault}
use Rattle.machine.specs.declared.stops.Fault.TheVariants as fault
use Rattle.std.specs.FinMap as map
use Rattle.machine.specs.declared.world.Child.{Child}
use Rattle.machine.specs.declared.world.Exit.{Exit}
use Rattle.machine.specs.declared.world.World.{World}
use Rattle.machine.specs.World.{with_write, with_sync, with_file, with_fetched}
use Rattle.machine.specs.Crash.{Crash}
use Rattle.machine.specs.Leaves.{Leaves, Serves}

-- a call with its arguments; of a write the place and length, of a read the number of bytes that it
-- gave, of the clock the seconds that it said
pub data Call : Type 0 where
  File : (path : List ℕ) → Call
  Size : (path : List ℕ) → Call
  Read : (path : List ℕ) (count : ℕ) → Call
  Write : (path : List ℕ) (at count : ℕ) → Call
  Sync : (path : List ℕ) → Call
  Replace : (path bytes : List ℕ) → Call
  Run : (child : Child) → Call
  Clock : (seconds : ℤ) → Call

-- how a call ended: it was done, it failed, or the file was longer than asked for
pub data End : Type 0 where
  Done : End
  Broken : End
  Overlong : End

-- the kind of a call
abbrev pub kind_of : Call → Fault
kind_of (File path) = fault.Read
kind_of (Size path) = fault.Size
kind_of (Read path count) = fault.Read
kind_of (Write path at count) = fault.Write
kind_of (Sync path) = fault.Sync
kind_of (Replace path bytes) = fault.Replace
kind_of (Run child) = fault.Run
kind_of (Clock seconds) = fault.Clock

-- v is w with a range of the disk written, with any bytes
abbrev pub ArbitraryWrite : List ℕ → ℕ → ℕ → World → World → Type 0
ArbitraryWrite path at count w v = (bytes : List ℕ) × (length bytes ≡ count) × (v ≡ with_write w path at bytes)

-- v is w after the child: it left what it may, and is the last of the runs
abbrev pub IsRun : BootKind → Child → Exit → World → World → Type 0
IsRun boot child exit w v =
    Leaves child.class boot child w v
    × (v.runs ≡ w.runs ++ record { child = child; exit = exit } ∷ [])
    × Serves child.class boot child exit.ended w v

-- the world v after a call that began in w, with this boot loader
abbrev pub After : BootKind → Call → End → World → World → Type 0
After boot (Read path count) Done w v = v ≡ with_fetched w path count
After boot (Write path at count) Done w v = ArbitraryWrite path at count w v
After boot (Write path at count) Broken w v = (v ≡ w) ⊎ ArbitraryWrite path at count w v
After boot (Sync path) Done w v = v ≡ with_sync w path
After boot (Replace path bytes) Done w v = v ≡ with_file w path bytes
After boot (Replace path bytes) Broken w v = (v ≡ w) ⊎ (v ≡ with_file w path bytes)
After boot (Run child) Done w v = (exit : Exit) × IsRun boot child exit w v
After boot (Run child) Broken w v = Leaves child.class boot child w v × (v.runs ≡ w.runs)
After boot call end w v = v ≡ w

-- a world u in which the power may stop inside a call that began in w
abbrev pub Inside : BootKind → Call → World → World → Type 0
Inside boot (Write path at count) w u = ArbitraryWrite path at count w u
Inside boot (Replace path bytes) w u = (u ≡ w) ⊎ (u ≡ with_file w path bytes)
Inside boot (Run child) w u = Leaves child.class boot child w u × (u.runs ≡ w.runs)
Inside boot call w u = u ≡ w

pub record Moment : Type 0 where
  pub call : Call
  pub end : End
  pub after : World

-- the boot loader whose variables the world has, the world at the start, and the calls since
pub record Past : Type 0 where
  pub boot : BootKind
  pub first : World
  pub moments : List Moment

-- the world after these moments
abbrev pub world_after : World → List Moment → World
world_after w [] = w
world_after w (m ∷ ms) = world_after m.after ms

-- the world as it is now
abbrev pub world_now : Past → World
world_now p = world_after p.first p.moments

-- the past with these moments more
abbrev pub with_moments : Past → List Moment → Past
with_moments p ms = record p { moments = p.moments ++ ms }

-- the moments of new that are not of old
abbrev pub moments_since : Past → Past → List Moment
moments_since old new = drop (length old.moments) new.moments

-- new goes on from old, and changes no earlier moment
abbrev pub Grows : Past → Past → Type 0
Grows old new = new ≡ with_moments old (moments_since old new)

-- u was the world at the start or after one of these moments, or inside one of their calls
abbrev pub WorldAmong : BootKind → World → List Moment → World → Type 0
WorldAmong boot w [] u = u ≡ w
WorldAmong boot w (m ∷ ms) u = (u ≡ w) ⊎ (Inside boot m.call w u ⊎ WorldAmong boot m.after ms u)

-- u was the world at some moment since old, or inside a call made since
abbrev pub WorldSince : Past → Past → World → Type 0
WorldSince old new u = WorldAmong old.boot (world_now old) (moments_since old new) u

-- a stop of the power since old may have left v
abbrev pub Held : Past → Past → World → Type 0
Held old new v = (u : World) × WorldSince old new u × Crash u v

-- new goes on from old, and each world since, those inside the calls too, has P
pub record Always (old new : Past) (P : World → Type 0) : Type 0 where
  pub grows : Grows old new
  pub each : (u : World) → WorldSince old new u → P u

-- new is old and this call
pub record IsCall (old new : Past) (call : Call) (end : End) : Type 0 where
  pub grows : new ≡ with_moments old (record { call = call; end = end; after = world_now new } ∷ [])
  pub after : After old.boot call end (world_now old) (world_now new)

-- a call that failed, and what is said where it did not
abbrev pub failed_or : End → Fault → Option Fault → Option Fault
failed_or Broken kind other = Some kind
failed_or Done kind other = other
failed_or Overlong kind other = other

-- the kind of the first of these calls that failed
abbrev pub first_failed : List Moment → Option Fault
first_failed [] = None
first_failed (m ∷ ms) = failed_or m.end (kind_of m.call) (first_failed ms)

-- the kind of the first call since old that failed
abbrev pub failed_since : Past → Past → Option Fault
failed_since old new = first_failed (moments_since old new)

-- all but the last
abbrev pub but_last : {A : Type 0} → List A → List A
but_last xs = take (length xs - 1) xs

-- where told: no call since old failed; or the last one alone did, and is of this kind
pub record Fails (tells : Bool) (old new : Past) (kind : Option Fault) : Type 0 where
  pub grows : IsTrue tells → Grows old new
  pub first : IsTrue tells → failed_since old new ≡ kind
  pub before : IsTrue tells → first_failed (but_last (moments_since old new)) ≡ None

-- the past of a machine that tells none: it means nothing
abbrev pub nothing_told : Past
nothing_told = record {
  boot = Noop;
  first = record { disks = []; pending = []; writes = []; files = []; vars = map.empty; runs = []; fetched = 0 };
  moments = [];
}

-- the past as it was after t moments
abbrev pub until : ℕ → Past → Past
until t p = record p { moments = take t p.moments }

-- a stop since moment t may have left v
abbrev pub HeldSince : ℕ → Past → World → Type 0
HeldSince t p v = Held (until t p) p v

-- held since t0 is held since a moment t1 between t0 and now, or held since t0 as of t1
abbrev pub HeldJoins : Type 0
HeldJoins =
    (p : Past) (t0 t1 : ℕ) (v : World) → t0 ≤ t1 → t1 ≤ length p.moments
    → (HeldSince t0 p v → HeldSince t1 p v ⊎ HeldSince t0 (until t1 p) v) × (HeldSince t1 p v ⊎ HeldSince t0 (until t1 p) v → HeldSince t0 p v)
