-- The stretches of a device that the kernel is advised to write back.
use Rattle.std.specs.Prelude.{◌≡◌, ◌<◌, ◌-◌, ◌%◌, ◌^◌, ℕ}

-- their length in bytes
abbrev pub stretch : ℕ
stretch = 1048576

-- one of them, which starts below 2^63, ends at this offset
pub record EndsStretch (end : ℕ) : Type 0 where
  pub some : 0 < end
  pub whole : end % stretch ≡ 0
  pub fits : end - stretch < 2 ^ 63
