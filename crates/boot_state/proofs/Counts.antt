-- Counts of one digit.
use Rattle.std.proofs.Common.{◌≡◌, ◌<◌, ℕ, ◌+◌, ◌^◌, true, cond, ◌&&◌, Some, None, refl, ◌∙◌, ap, arith}
use Rattle.std.specs.Prelude.{nat_le, nat_lt, unwrap_or}
use Rattle.std.specs.List.{list_all}
use Rattle.std.proofs.lemmas.Bool.{and_from, and_parts, le-leb, leb-true, lt-ltb}
use Rattle.updater_text.specs.Numbers.{digits_value, is_digit}
use Rattle.boot_state.specs.Orders.{count_of, digit_of}

-- a count from 1 to 9 counts, as text too
pub digit_counts : (count : ℕ) → (nat_le 1 count && nat_le count 9) ≡ true → nat_lt 0 (count_of (Some (digit_of count))) ≡ true
digit_counts count h =
    let parts = and_parts (nat_le 1 count) (nat_le count 9) h in
    let low : nat_le 48 (48 + count) ≡ true = le-leb 48 (48 + count) (omega arith) in
    let high : nat_le (48 + count) 57 ≡ true = le-leb (48 + count) 57 (omega (arith, leb-true count 9 parts.1)) in
    let value : digits_value (digit_of count) < 2 ^ 64 = omega (arith, leb-true count 9 parts.1) in
    let above : 0 < digits_value (digit_of count) = omega (arith, leb-true 1 count parts.0) in
    let fits : nat_lt (digits_value (digit_of count)) (2 ^ 64) ≡ true = lt-ltb (digits_value (digit_of count)) (2 ^ 64) value in
    let digit : list_all is_digit (digit_of count) ≡ true = and_from (is_digit (48 + count)) true (and_from (nat_le 48 (48 + count)) (nat_le (48 + count) 57) low high) refl in
    let number = and_from (list_all is_digit (digit_of count)) (nat_lt (digits_value (digit_of count)) (2 ^ 64)) digit fits in
    ap (λ b. nat_lt 0 (unwrap_or (cond b (Some (digits_value (digit_of count))) None) 0)) number ∙ lt-ltb 0 (digits_value (digit_of count)) above
