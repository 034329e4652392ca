-- A write that the power stops.
use Rattle.std.specs.Prelude.{◌/◌, ◌++◌, ℕ, List, [], length, take, drop, unwrap_or}
use Rattle.machine.specs.declared.world.World.{World}
use Rattle.machine.specs.World.{disk, with_write}

-- bytes of which the first half are new, and the others old
abbrev pub half_new : List ℕ → List ℕ → List ℕ
half_new new old = take (length new / 2) new ++ drop (length new / 2) old

-- a write of which the first half was done
abbrev pub with_half_write : World → List ℕ → ℕ → List ℕ → World
with_half_write w path at bytes = with_write w path at (half_new bytes (take (length bytes) (drop at (unwrap_or (disk w path) []))))
