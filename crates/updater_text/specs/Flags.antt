-- Flags as text.
use Rattle.std.specs.Prelude.{ℕ, Bool, true, false, ◌||◌, List, Option, Some, None, codes, if◌then◌else◌}
use Rattle.std.specs.Str.{bytes_eq}

-- `true` or `1`, `false` or `0`
abbrev pub flag_of : List ℕ → Option Bool
flag_of text =
    if bytes_eq text (codes "true") || bytes_eq text (codes "1") then Some true
    else if bytes_eq text (codes "false") || bytes_eq text (codes "0") then Some false
    else None
