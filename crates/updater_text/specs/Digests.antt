-- Digests as text.
use Rattle.std.specs.Prelude.{ℕ, List, Option, Some, None, Result, Ok, Err}
use Rattle.hex.specs.Hex.{decode_sized}
use Rattle.hex.specs.declared.error.FromHexError.{FromHexError}
use Rattle.updater_text.specs.declared.digest.Digest.{Digest}

abbrev pub digest_from : Result (List ℕ) FromHexError → Option Digest
digest_from (Ok bytes) = Some (record { 0 = bytes })
digest_from (Err refusal) = None

-- the value that these hexadecimal digits spell
abbrev pub digest_of : List ℕ → Option Digest
digest_of text = digest_from (decode_sized text 32)
