-- Parts of slices that a function lends.
use Rattle.std.specs.Prelude.{List, ℕ, Option, option_map}
use Rattle.std.specs.Borrow.{Bor}

-- the bytes that were lent, if any
abbrev pub lent : Option (Bor (List ℕ)) → Option (List ℕ)
lent found = option_map (λ r. r.now) found
