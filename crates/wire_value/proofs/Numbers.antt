-- Numbers as the code keeps them.
use Rattle.std.proofs.Common.{◌≡◌, ℕ, zero, suc, ◌^◌, ◌<◌, ◌≤◌, [], eqb, refl, sym, ap, ◌∙◌, arith}
use Rattle.std.specs.Int.{w16, w32, w64, to_le_bytes, cast_signed, cast_unsigned}
use Rattle.std.proofs.lemmas.Int.{of_z-to_z}
use Rattle.std.proofs.lemmas.List.{append-nil}
use Rattle.byteorder.specs.Endian.{little_number}
use Rattle.byteorder.specs.Numbers.{little_number-reads_back}
use Rattle.wire_value.specs.View.{bit}

pub bit_back : (x : ℕ) → x ≤ 1 → bit (eqb x 1) ≡ x
bit_back zero h = refl
bit_back (suc zero) h = refl
bit_back (suc (suc x)) h = absurd (omega arith)

pub double_back : (x : ℕ) → x < 2 ^ 64 → little_number 8 (to_le_bytes w64 x) ≡ x
double_back x h = ap (little_number 8) (sym (append-nil (to_le_bytes w64 x))) ∙ little_number-reads_back 8 x [] h

pub back_16 : (n : ℕ) → n < 2 ^ 16 → cast_unsigned w16 (cast_signed w16 n) ≡ n
back_16 n h = of_z-to_z w16 n h

pub back_32 : (n : ℕ) → n < 2 ^ 32 → cast_unsigned w32 (cast_signed w32 n) ≡ n
back_32 n h = of_z-to_z w32 n h

pub back_64 : (n : ℕ) → n < 2 ^ 64 → cast_unsigned w64 (cast_signed w64 n) ≡ n
back_64 n h = of_z-to_z w64 n h
