-- The text of a time has the form of the texts of a record.
use Rattle.std.proofs.Common.{◌≡◌, ℕ, ◌+◌, ◌/◌, ◌%◌, true, le-leb, ◌&&◌, ◌||◌, ◌==◌, arith}
use Rattle.keyfile.specs.Groups.{is_value_byte}
use Rattle.manifest.specs.Sound.{is_bundle_text}
use Rattle.slot_status.specs.Times.{day_of, time_text}

digit : (n : ℕ) → is_value_byte (48 + n) ≡ true
digit n = λ i. (le-leb 32 (48 + n) (omega arith) i || (48 + n == 9)) || ((48 + n == 10) || (48 + n == 13))

pub time_formed : (seconds : ℕ) → is_bundle_text (time_text seconds) ≡ true
unfolding time_text
time_formed seconds =
    let d = day_of (seconds / 86400) in
    let s = seconds % 86400 in
    λ i.
    digit (d.year / 100 / 10) i && (digit (d.year / 100 % 10) i && (digit (d.year % 100 / 10) i && (digit (d.year % 100 % 10) i
    && (digit (d.month / 10) i && (digit (d.month % 10) i && (digit (d.day / 10) i && (digit (d.day % 10) i
    && (digit (s / 3600 / 10) i && (digit (s / 3600 % 10) i && (digit (s % 3600 / 60 / 10) i && (digit (s % 3600 / 60 % 10) i
    && (digit (s % 60 / 10) i && (digit (s % 60 % 10) i && true)))))))))))))
