use Rattle.std.proofs.Common.{◌≡◌, List, ℕ, length}
use Rattle.std.specs.Io.KnownBytes.{Consumes}
use Rattle.sha2.specs.Hashers.{Holds256}
use Rattle.hash_file.proofs.digest_of.Given as goal

-- the hasher holds what the reader has given
abbrev pub invariant-loop : goal.invariant-loop
invariant-loop g l = record {
  as_long : length l.buffer ≡ length l.fn.buffer;
  given : (bytes : List ℕ) × Consumes (g.R.Read.remaining l.fn.reader) (g.R.Read.remaining l.reader) bytes × Holds256 l.hasher bytes;
}
