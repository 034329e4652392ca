-- A whole file that was looked up.
use Rattle.std.specs.Prelude.{◌≡◌, ◌≤◌, ◌<◌, ℕ, Bool, true, false, List, length, Option, Some, None}
use Rattle.machine.specs.Past.{End, Done, Broken, Overlong}
use Rattle.undo_log.specs.declared.notes.Whole.{Whole}
use Rattle.undo_log.specs.declared.notes.Whole.TheVariants.{Bytes, TooLong}

-- the file's bytes, or None for no file; too long exactly where it is longer than the limit
abbrev pub WholeFound : Option (List ℕ) → ℕ → Whole → Type 0
WholeFound there limit (Bytes None) = there ≡ None
WholeFound there limit (Bytes (Some bytes)) = (there ≡ Some bytes) × (length bytes ≤ limit)
WholeFound there limit (TooLong n) = (bytes : List ℕ) × (there ≡ Some bytes) × (n ≡ length bytes) × (limit < n)

-- how a call ends that is to fail, or that found this
abbrev pub end_whole : Bool → Whole → End
end_whole true found = Broken
end_whole false (Bytes bytes) = Done
end_whole false (TooLong n) = Overlong
