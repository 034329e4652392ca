-- What reading gives.
use Rattle.std.specs.Prelude.{◌≡◌, ◌≤◌, ◌⊎◌, ◌<◌, ℕ, List, length, drop}
use Rattle.std.specs.declared.io.ErrorKind.{ErrorKind}
use Rattle.std.specs.declared.io.ErrorKind.TheVariants.{NotFound, NotADirectory}
use Rattle.machine_linux.specs.declared.whole.Found.{Found}
use Rattle.machine_linux.specs.declared.whole.Found.TheVariants.{Missing, Whole, TooLong}

-- an error of these kinds tells that a path names nothing
abbrev pub NamesNothing : ErrorKind → Type 0
NamesNothing kind = (kind ≡ NotFound) ⊎ (kind ≡ NotADirectory)

-- so many bytes were put at the front of a buffer, whose rest is as it was
pub record PutFront (before after : List ℕ) (count : ℕ) : Type 0 where
  pub within : count ≤ length before
  pub rest : drop count after ≡ drop count before

-- a whole file is within the limit, and only one above it is too long
abbrev pub Fits : ℕ → Found → Type 0
Fits limit Missing = Unit {0}
Fits limit (Whole bytes) = length bytes ≤ limit
Fits limit (TooLong length) = limit < length
