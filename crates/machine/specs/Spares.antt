-- What a child must leave alone.
use Rattle.std.specs.Prelude.{◌≡◌, ◌||◌, ℕ, Bool, true, false, IsTrue, List, filter, bytes_eq, codes}
use Rattle.std.specs.List.{list_any}
use Rattle.updater_text.specs.Paths.{is_within}
use Rattle.machine.specs.declared.world.Child.{Child}
use Rattle.machine.specs.declared.world.ChildClass.{ChildClass}
use Rattle.machine.specs.declared.world.ChildClass.TheVariants.{Boot, Helper, Handler, Hook}
use Rattle.machine.specs.declared.world.Span.{Span}
use Rattle.machine.specs.declared.world.Spares.{Spares}
use Rattle.machine.specs.declared.world.World.{World}
use Rattle.machine.specs.World.{disk, disk_length, file}

-- a boot program
abbrev pub is_boot : ChildClass → Bool
is_boot Boot = true
is_boot Helper = false
is_boot Handler = false
is_boot Hook = false

-- the disk is one of those that must stay as they are
abbrev pub has_disk : Spares → List ℕ → Bool
has_disk spares path = list_any (λ p. bytes_eq p path) spares.disks

-- the file is one of those that must stay as they are, or lies below one
abbrev pub has_file : Spares → List ℕ → Bool
has_file spares path = list_any (λ p. is_within p path) spares.files

-- the file of the kernel's words, which no child changes
abbrev pub is_kernels : List ℕ → Bool
is_kernels path = bytes_eq path (codes "/proc/cmdline")

-- the file must stay as it is
abbrev pub spares_file : Child → List ℕ → Bool
spares_file child path = is_kernels path || has_file child.spares path

-- the spans of a path
abbrev pub spans_of : List Span → List ℕ → List Span
spans_of spans path = filter (λ s. bytes_eq s.path path) spans

-- v is w but for its runs, and for what the child, which is no boot program, need not leave alone
pub record Spared (child : Child) (w v : World) : Type 0 where
  pub writes : v.writes ≡ w.writes
  pub fetched : v.fetched ≡ w.fetched
  pub lengths : (path : List ℕ) → disk_length v path ≡ disk_length w path
  pub disks : (path : List ℕ) → IsTrue (has_disk child.spares path) → disk v path ≡ disk w path
  pub pending : (path : List ℕ) → IsTrue (has_disk child.spares path) → spans_of v.pending path ≡ spans_of w.pending path
  pub files : (path : List ℕ) → IsTrue (spares_file child path) → file v path ≡ file w path
  pub vars : IsTrue child.spares.boot → v.vars ≡ w.vars
