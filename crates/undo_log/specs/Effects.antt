-- The effects that a child may have on a world.
use Rattle.std.specs.Prelude.{◌+◌, ◌==◌, ◌||◌, ℕ, Bool, false, not, List, [], ◌∷◌, ◌++◌, length, filter, is_some, nat_eq, nat_le, if◌then◌else◌}
use Rattle.std.specs.Option.{option_map_or}
use Rattle.std.specs.List.{starts_with}
use Rattle.boot_model.specs.Vars.{Variables}
use Rattle.machine.specs.declared.world.Child.{Child}
use Rattle.machine.specs.declared.world.Ended.{Ended}
use Rattle.machine.specs.declared.world.Ended.TheVariants.{Code, Signal}
use Rattle.machine.specs.declared.world.Exit.{Exit}
use Rattle.machine.specs.declared.world.World.{World}
use Rattle.machine.specs.World.{disk, disk_length, patch_under, with_file}
use Rattle.machine.specs.Spares.{has_disk, spares_file}
use Rattle.undo_log.specs.declared.effect.Effect.{Effect}
use Rattle.undo_log.specs.declared.effect.Effect.TheVariants.{PutFile, DropFiles, WriteDisk}

-- the range up to this end lies on the disk
abbrev pub has_room : World → List ℕ → ℕ → Bool
has_room w path end = option_map_or (λ room. nat_le end room) (disk_length w path) false

-- a child wrote a range of a disk: it is pending, and no write of the updater's own
unfoldable pub with_child_write : World → List ℕ → ℕ → List ℕ → World
with_child_write w path at bytes = record w {
  disks = patch_under w.disks path at bytes;
  pending = w.pending ++ record { path = path; at = at; length = length bytes } ∷ [];
}

-- a file stays that the child must leave alone, or whose path begins otherwise
abbrev pub keeps_file : Child → List ℕ → List ℕ → Bool
keeps_file child prefix path = spares_file child path || not (starts_with nat_eq path prefix)

-- only the files that stay are there
unfoldable pub without_files : World → Child → List ℕ → World
without_files w child prefix = record w { files = filter (λ n. keeps_file child prefix n.path) w.files }

-- a file is put, unless the child must leave it alone or a disk is there
abbrev pub after_file_put : Child → List ℕ → List ℕ → World → World
after_file_put child path bytes w = if spares_file child path || is_some (disk w path) then w else with_file w path bytes

-- a range of a disk is written, unless the child must leave the disk alone or the range doesn't lie on it
abbrev pub after_disk_write : Child → List ℕ → ℕ → List ℕ → World → World
after_disk_write child path at bytes w =
    if has_disk child.spares path || not (has_room w path (at + length bytes)) then w else with_child_write w path at bytes

-- the world after an effect
abbrev pub after_effect : Child → Effect → World → World
after_effect child (PutFile path bytes) w = after_file_put child path bytes w
after_effect child (DropFiles prefix) w = without_files w child prefix
after_effect child (WriteDisk path at bytes) w = after_disk_write child path at bytes w

-- the world after effects, in turn
abbrev pub after_effects : Child → List Effect → World → World
after_effects child [] w = w
after_effects child (e ∷ es) w = after_effects child es (after_effect child e w)

-- the child was run and ended so
unfoldable pub with_run : World → Child → Exit → World
with_run w child exit = record w { runs = w.runs ++ record { child = child; exit = exit } ∷ [] }

-- the variables after a boot program that ended so: the new ones where it ended with 0
abbrev pub vars_left : Ended → Variables → Variables → Variables
vars_left (Code code) new old = if code == 0 then new else old
vars_left Signal new old = old

-- the boot program was run and ended so, and left the new variables where it ended with 0
unfoldable pub with_boot_run : World → Child → Exit → Variables → World
with_boot_run w child exit new = record w {
  runs = w.runs ++ record { child = child; exit = exit } ∷ [];
  vars = vars_left exit.ended new w.vars;
}
