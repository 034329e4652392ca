-- Numbers and digests as they are written, and read again.
use Rattle.std.proofs.Common.{◌≡◌, ◌∙◌, ◌<◌, refl, ap, ℕ, ◌+◌, ◌-◌, ◌*◌, ◌/◌, ◌%◌, ◌^◌, true, cond, fold, nat_le, nat_lt, leb-true, le-leb, lt-ltb, ltb-true, ◌&&◌, ◌||◌, ◌==◌, List, [], ◌∷◌, length, get_or, Some, None, decimal, arith}
use Rattle.std.specs.List.{list_all}
use Rattle.std.proofs.lemmas.Bool.{and_parts}
use Rattle.std.proofs.lemmas.Fmt.{decimal_nonempty, digits_decimal, digits_value-decimal, length-decimal-le}
use Rattle.std.proofs.lemmas.List.Sums.{AllPass-from_list_all}
use Rattle.std.proofs.lemmas.Str.Parse.{IsNumeralModel, IsDigitsTest, FoldsDigits, numerals_by_fold}
use Rattle.hex.specs.Hex.{encode_lower, encode_with, lower_digits}
use Rattle.updater_text.specs.Numbers.{is_digit, digits_value, number_of}
use Rattle.keyfile.specs.Groups.{is_entry_value, is_value_byte}

-- ---- decimal digits

tells : IsDigitsTest (λ (ds : List ℕ). list_all is_digit ds ≡ true)
tells = record {
  empty = refl;
  parts = λ c cs e. let k = and_parts (is_digit c) (list_all is_digit cs) e in let m = and_parts (nat_le 48 c) (nat_le c 57) k.0 in ((leb-true 48 c m.0, leb-true c 57 m.1), k.1);
  more = λ c cs k e i. (le-leb 48 c k.0 i && le-leb c 57 k.1 i) && e i;
}

folds : FoldsDigits (λ (start : ℕ) (ds : List ℕ). fold (λ value digit. value * 10 + (digit - 48)) start ds)
folds = record { empty = λ n. refl; more = λ n c cs k. refl }

numerals : IsNumeralModel (λ (ds : List ℕ). list_all is_digit ds ≡ true) digits_value
numerals = numerals_by_fold (λ (ds : List ℕ). list_all is_digit ds ≡ true) tells (λ (start : ℕ) (ds : List ℕ). fold (λ value digit. value * 10 + (digit - 48)) start ds) folds

-- a number that is written is read again
pub number_of-decimal : (n : ℕ) → n < 2 ^ 64 → number_of (decimal n) ≡ Some n
number_of-decimal n small = (λ i. cond (test i) (Some (digits_value (decimal n))) None) ∙ ap (λ (v : ℕ). Some v) value
  where
    value : digits_value (decimal n) ≡ n
    value = digits_value-decimal numerals n small

    test : ((nat_le 1 (length (decimal n)) && nat_le (length (decimal n)) 20) && (list_all is_digit (decimal n) && nat_lt (digits_value (decimal n)) (2 ^ 64))) ≡ true
    test = λ i.
        (le-leb 1 (length (decimal n)) (decimal_nonempty n small) i && le-leb (length (decimal n)) 20 (length-decimal-le 20 n (omega arith) (omega arith) small) i)
        && (digits_decimal numerals n small i && lt-ltb (digits_value (decimal n)) (2 ^ 64) (omega (arith, value)) i)

digits_may_stand : (ds : List ℕ) → list_all is_digit ds ≡ true → is_entry_value ds ≡ true
digits_may_stand [] all = refl
digits_may_stand (d ∷ ds) all =
    let both = and_parts (is_digit d) (list_all is_digit ds) all in
    let low = leb-true 48 d (and_parts (nat_le 48 d) (nat_le d 57) both.0).0 in
    λ i. ((le-leb 32 d (omega (arith, low)) i || (d == 9)) || ((d == 10) || (d == 13))) && digits_may_stand ds both.1 i

pub decimal_may_stand : (n : ℕ) → n < 2 ^ 64 → is_entry_value (decimal n) ≡ true
decimal_may_stand n small = digits_may_stand (decimal n) (digits_decimal numerals n small)

-- ---- hexadecimal digits

nibble : (n : ℕ) → n < 16 → is_value_byte (get_or lower_digits n 0) ≡ true
nibble n small = AllPass-from_list_all is_value_byte lower_digits refl n 0 small

pub hex_may_stand : (bytes : List ℕ) → list_all (λ b. nat_lt b 256) bytes ≡ true → is_entry_value (encode_lower bytes) ≡ true
unfolding encode_with
hex_may_stand [] all = refl
hex_may_stand (b ∷ bytes) all =
    let both = and_parts (nat_lt b 256) (list_all (λ (c : ℕ). nat_lt c 256) bytes) all in
    let small = ltb-true b 256 both.0 in
    λ i. nibble (b / 16) (omega (arith, small)) i && (nibble (b % 16) (omega arith) i && hex_may_stand bytes both.1 i)
