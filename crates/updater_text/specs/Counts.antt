-- Counts of the outside, kept in 64 bits.
use Rattle.std.specs.Prelude.{◌≡◌, ◌≤◌, ◌+◌, ◌-◌, ◌^◌, ℕ, min}

-- a count rose from one moment to a later one; one that stands at its last value counts as risen
abbrev pub CountRose : ℕ → ℕ → Type 0
CountRose before after = (before ≤ after) × (before ≡ after → 2 ^ 64 ≤ after + 1)

-- a count after one more
abbrev pub next_count : ℕ → ℕ
next_count before = min (before + 1) (2 ^ 64 - 1)
