-- A bench after a stop of the power.
use Rattle.std.specs.Prelude.{◌≡◌, ◌<◌, ◌+◌, ◌-◌, ◌%◌, ℕ, List, [], None, length, nat_eq, slice_index, if◌then◌else◌}
use Rattle.std.specs.Option.{option_map}
use Rattle.machine.specs.declared.world.Named.{Named}
use Rattle.machine.specs.declared.world.Span.{Span}
use Rattle.machine.specs.declared.world.World.{World}
use Rattle.machine.specs.World.{disk_byte}
use Rattle.machine.specs.Crash.{Crash, is_in}
use Rattle.machine_bench.specs.declared.bench.Bench.{Bench}

-- what a stop leaves of a pending byte: by pick 0 it is as a read gives it, by pick 1 it is inverted, and by any other
-- it is the sum of pick and place in eight bits, so that two such picks below 258 differ at each place
abbrev pub byte_left : ℕ → ℕ → ℕ → ℕ
byte_left pick at byte = if nat_eq pick 0 then byte else (if nat_eq pick 1 then 255 - byte else (pick + at) % 256)

-- the same of any byte of a disk; one that is not pending stays
abbrev pub byte_after_stop : ℕ → List Span → List ℕ → ℕ → ℕ → ℕ
byte_after_stop pick pending path at byte = if is_in pending path at then byte_left pick at byte else byte

-- the same of each byte under a path
pub record BytesAfterStop (pick : ℕ) (pending : List Span) (path old new : List ℕ) : Type 0 where
  pub as_long : length new ≡ length old
  pub each : (i : ℕ) → i < length old → slice_index new i ≡ byte_after_stop pick pending path i (slice_index old i)

-- the same of a disk
pub record DiskAfterStop (pick : ℕ) (pending : List Span) (old new : Named) : Type 0 where
  pub path : new.path ≡ old.path
  pub bytes : BytesAfterStop pick pending old.path old.bytes new.bytes

-- v is the crash image of w that is picked: each byte of each disk is known, and by pick 0 all is as before
pub record CrashImageOf (pick : ℕ) (w v : World) : Type 0 where
  pub crash : Crash w v
  pub kept : pick ≡ 0 → v.disks ≡ w.disks
  pub bytes : (path : List ℕ) (i : ℕ) → disk_byte v path i ≡ option_map (λ byte. byte_after_stop pick w.pending path i byte) (disk_byte w path i)

-- new starts on such an image with nothing pending, no call made and none to fail, and what it was set up with else
pub record AfterStop (pick : ℕ) (old new : Bench) : Type 0 where
  pub image : CrashImageOf pick old.log.world new.log.world
  pub notes : new.log.notes.items ≡ []
  pub boot : new.log.boot ≡ old.log.boot
  pub scripts : new.scripts ≡ old.scripts
  pub clock : new.clock ≡ old.clock
  pub fails : new.fails ≡ []
  pub stop : new.stop ≡ None
  pub faults : new.faults ≡ 0
  pub wants : new.wants ≡ 0
