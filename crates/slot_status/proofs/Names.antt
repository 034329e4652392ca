-- The names of slots make names of groups, and differ where the slots' names do.
use Rattle.std.proofs.Common.{◌≡◌, ◌∙◌, ◌<◌, ◌≤◌, refl, ap, ℕ, ◌+◌, ◌^◌, Bool, true, false, cond, not, nat_le, nat_lt, eqb, eqb-true, leb-true, ◌&&◌, ◌||◌, ◌==◌, List, [], ◌∷◌, ◌++◌, length, get_or, Some, None, is_some, arith, length-append, length-drop}
use Rattle.std.specs.List.{list_all, position_or_len}
use Rattle.std.proofs.lemmas.Bool.{and_parts, false≢true}
use Rattle.std.proofs.lemmas.Bool.Decides.{nat_tests}
use Rattle.std.proofs.lemmas.List.Folds.{list_all-append}
use Rattle.std.proofs.lemmas.List.Sums.{passes_at_first, split_at_first}
use Rattle.updater_text.specs.Numbers.{digits_value, is_digit, number_of}
use Rattle.keyfile.specs.Groups.{Text, is_name, is_name_byte}
use Rattle.conf_forms.specs.Classes.{is_class, is_class_byte}
use Rattle.conf_forms.specs.Lists.{keep_if}
use Rattle.conf_forms.specs.SlotNames.{class_in_name, index_in, index_in_name, is_slot_name}
use Rattle.slot_status.specs.Records.{slot_group}

-- ---- the bytes of a slot's name

class_byte : (b : ℕ) → is_class_byte b ≡ true → is_name_byte b ≡ true
class_byte b is = grind (arith, nat_tests)

digit_byte : (b : ℕ) → is_digit b ≡ true → is_name_byte b ≡ true
digit_byte b is = grind (arith, nat_tests)

all_pass : (p q : ℕ → Bool) → ((b : ℕ) → p b ≡ true → q b ≡ true) → (bytes : List ℕ) → list_all p bytes ≡ true → list_all q bytes ≡ true
all_pass p q each [] all = refl
all_pass p q each (b ∷ bytes) all = let both = and_parts (p b) (list_all p bytes) all in λ i. each b both.0 i && all_pass p q each bytes both.1 i

record HasDigits (text : Text) : Type 0 where
  all : list_all is_digit text ≡ true
  some : 1 ≤ length text
  few : length text ≤ 20

-- an index has 1 to 20 digits
index_digits : (text : Text) → is_some (index_in text) ≡ true → HasDigits text
index_digits text there = first ((eqb (length text) 1) || not (eqb (get_or text 0 0) 48)) there
  where
    parts : ((nat_le 1 (length text) && nat_le (length text) 20) && (list_all is_digit text && nat_lt (digits_value text) (2 ^ 64))) ≡ true → HasDigits text
    parts h =
        let both = and_parts (nat_le 1 (length text) && nat_le (length text) 20) (list_all is_digit text && nat_lt (digits_value text) (2 ^ 64)) h in
        let count = and_parts (nat_le 1 (length text)) (nat_le (length text) 20) both.0 in
        record { all = (and_parts (list_all is_digit text) _ both.1).0; some = leb-true 1 (length text) count.0; few = leb-true (length text) 20 count.1 }

    second : (b : Bool) → ((nat_le 1 (length text) && nat_le (length text) 20) && (list_all is_digit text && nat_lt (digits_value text) (2 ^ 64))) ≡ b
        → is_some (keep_if (λ (n : ℕ). nat_lt n (2 ^ 32)) (cond b (Some (digits_value text)) None)) ≡ true → HasDigits text
    second true is h = parts is
    second false is h = absurd (false≢true h)

    first : (b : Bool) → is_some (cond b (keep_if (λ (n : ℕ). nat_lt n (2 ^ 32)) (number_of text)) None) ≡ true → HasDigits text
    first true h = second ((nat_le 1 (length text) && nat_le (length text) 20) && (list_all is_digit text && nat_lt (digits_value text) (2 ^ 64))) refl h
    first false h = absurd (false≢true h)

-- what stands around the first dot of a slot's name
record Parts (name : Text) : Type 0 where
  class : is_class (class_in_name name) ≡ true
  index : HasDigits (index_in_name name)
  whole : name ≡ class_in_name name ++ 46 ∷ index_in_name name

parts_of_name : (name : Text) → is_slot_name name ≡ true → Parts name
parts_of_name name is =
    let both = and_parts (is_class (class_in_name name)) (is_some (index_in (index_in_name name))) is in
    let index = index_digits (index_in_name name) both.1 in
    let at = position_or_len (λ b. eqb b 46) name in
    let within : position_or_len (λ b. eqb b 46) name < length name = omega (arith, index.some, length-drop (at + 1) name) in
    let dot = eqb-true (get_or name at 46) 46 (passes_at_first (λ b. eqb b 46) name 46 within) in
    record {
      class = both.0;
      index = index;
      whole = split_at_first (λ b. eqb b 46) name 46 within ∙ ap (λ (b : ℕ). class_in_name name ++ b ∷ index_in_name name) dot;
    }

name_bytes : (name : Text) → is_slot_name name ≡ true → list_all is_name_byte name ≡ true
name_bytes name is =
    let parts = parts_of_name name is in
    let class = (and_parts _ (list_all is_class_byte (class_in_name name)) parts.class).1 in
    ap (list_all is_name_byte) parts.whole
    ∙ list_all-append is_name_byte (class_in_name name) (46 ∷ index_in_name name)
    ∙ (λ i. all_pass is_class_byte is_name_byte class_byte (class_in_name name) class i && all_pass is_digit is_name_byte digit_byte (index_in_name name) parts.index.all i)

pub name_length : (name : Text) → is_slot_name name ≡ true → length name ≤ 276
name_length name is =
    let parts = parts_of_name name is in
    let class = and_parts (nat_le 1 (length (class_in_name name)) && nat_le (length (class_in_name name)) 255) (list_all is_class_byte (class_in_name name)) parts.class in
    let short = leb-true (length (class_in_name name)) 255 (and_parts (nat_le 1 (length (class_in_name name))) (nat_le (length (class_in_name name)) 255) class.0).1 in
    omega (arith, ap length parts.whole, length-append (class_in_name name) (46 ∷ index_in_name name), short, parts.index.few)

long : (name : Text) → not (length (slot_group name) == 0) ≡ true
long name = grind (arith, nat_tests)

pub group_named : (name : Text) → is_slot_name name ≡ true → is_name (slot_group name) ≡ true
group_named name is = λ i. long name i && name_bytes name is i
