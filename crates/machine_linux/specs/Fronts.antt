-- What is kept of a stream of a child.
use Rattle.std.specs.Prelude.{◌≡◌, ◌≤◌, ℕ, Bool, IsTrue, List, length}
use Rattle.machine.specs.Calls.{kept_output}

-- the bytes are no more than are kept, and exactly so many where the stream had more
pub record IsFront (bytes : List ℕ) (cut : Bool) : Type 0 where
  pub short : length bytes ≤ kept_output
  pub full : IsTrue cut → length bytes ≡ kept_output
