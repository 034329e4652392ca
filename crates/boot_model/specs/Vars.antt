-- The variables of a boot loader, as a finite map from names to values.
use Rattle.std.specs.Prelude.{ℕ, List, map, string_bytes}
use Rattle.std.specs.Ordering.{nat_cmp}
use Rattle.std.specs.Cmp.Lexicographic.{slice_cmp}
use Rattle.std.specs.FinMap.{FinMap, from_entries}
use Rattle.std.specs.BTreeMap.{BTreeMap}
use Rattle.std.specs.declared.string.String.{String}
use Rattle.std.specs.declared.alloc.Global.{Global}

-- each name at most once, with its value
abbrev pub Variables : Type 0
Variables = FinMap (slice_cmp nat_cmp) (List ℕ)

-- the bytes of each name and value
abbrev pub texts_of : List (String Global × String Global) → List (List ℕ × List ℕ)
texts_of = map (λ e. (string_bytes e.0, string_bytes e.1))

-- the map of texts that a map of `String`s stands for
abbrev pub shown : BTreeMap (String Global) (String Global) → Variables
shown settings = from_entries (texts_of settings.entries)
