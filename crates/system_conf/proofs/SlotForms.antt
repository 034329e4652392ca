-- The name of a slot is its class, a dot and its index in decimal.
use Rattle.std.proofs.Common.{◌≡◌, ◌<◌, ◌≤◌, ℕ, ◌+◌, ◌-◌, ◌*◌, ◌^◌, Bool, true, false, cond, not, ◌&&◌, ◌||◌, eqb, nat_le, nat_lt, List, ◌∷◌, ◌++◌, length, get_or, fold, codes, decimal, Option, Some, None, refl, sym, ◌∙◌, ap, arith, length-drop, leb-true, le-leb, ltb-true, eqb-true, eq-eqb, append_assoc}
use Rattle.std.specs.Prelude.{is_some, unwrap_or}
use Rattle.std.specs.List.{list_all, before_first, after_first, position_or_len}
use Rattle.std.proofs.lemmas.Bool.{and_parts, true≢false}
use Rattle.std.proofs.lemmas.Fmt.{decimal-digits_value}
use Rattle.std.proofs.lemmas.List.Sums.{split_at_first, passes_at_first}
use Rattle.std.proofs.lemmas.Str.Parse.{IsNumeralModel, IsDigitsTest, FoldsDigits, numerals_by_fold}
use Rattle.updater_text.specs.Numbers.{is_digit, digits_value, number_of}
use Rattle.keyfile.specs.Groups.{Text}
use Rattle.conf_forms.specs.Lists.{keep_if}
use Rattle.conf_forms.specs.Classes.{is_class}
use Rattle.conf_forms.specs.SlotNames.{index_in, name_of, class_of, index_of, is_slot_group}

-- ---- decimal digits

tells : IsDigitsTest (λ (ds : List ℕ). list_all is_digit ds ≡ true)
tells = record {
  empty = refl;
  parts = λ c cs e. let k = and_parts (is_digit c) (list_all is_digit cs) e in let m = and_parts (nat_le 48 c) (nat_le c 57) k.0 in ((leb-true 48 c m.0, leb-true c 57 m.1), k.1);
  more = λ c cs k e i. (le-leb 48 c k.0 i && le-leb c 57 k.1 i) && e i;
}

folds : FoldsDigits (λ (start : ℕ) (ds : List ℕ). fold (λ value digit. value * 10 + (digit - 48)) start ds)
folds = record { empty = λ n. refl; more = λ n c cs k. refl }

numerals : IsNumeralModel (λ (ds : List ℕ). list_all is_digit ds ≡ true) (λ (ds : List ℕ). fold (λ value digit. value * 10 + (digit - 48)) 0 ds)
numerals = numerals_by_fold (λ (ds : List ℕ). list_all is_digit ds ≡ true) tells (λ (start : ℕ) (ds : List ℕ). fold (λ value digit. value * 10 + (digit - 48)) start ds) folds

-- ---- the index

if_some : {A : Type 0} (b : Bool) (x y : A) → cond b (Some x) None ≡ Some y → (b ≡ true) × (x ≡ y)
if_some true x y h = (refl, cc)
if_some false x y h = absurd (cc)

chosen : {A : Type 0} (b : Bool) (o : Option A) (y : A) → cond b o None ≡ Some y → (b ≡ true) × (o ≡ Some y)
chosen true o y h = (refl, h)
chosen false o y h = absurd (cc)

pub keep_if_is : {A : Type 0} (test : A → Bool) (o : Option A) (y : A) → keep_if test o ≡ Some y → (o ≡ Some y) × (test y ≡ true)
keep_if_is test None y h = absurd (cc)
keep_if_is test (Some x) y h = let is = if_some (test x) x y h in (ap (λ z. Some z) is.1, ap test (sym is.1) ∙ is.0)

one_digit : (text : List ℕ) → ((eqb (length text) 1) || not (eqb (get_or text 0 0) 48)) ≡ true → get_or text 0 0 ≡ 48 → length text ≡ 1
one_digit text h zero_first = go (eqb (length text) 1) refl h
  where
    go : (b : Bool) → eqb (length text) 1 ≡ b → (b || not (eqb (get_or text 0 0) 48)) ≡ true → length text ≡ 1
    go true e h = eqb-true (length text) 1 e
    go false e h = absurd (true≢false (sym h ∙ ap not (eq-eqb (get_or text 0 0) 48 zero_first)))

index_is : (text : List ℕ) (n : ℕ) → index_in text ≡ Some n → (decimal n ≡ text) × (nat_lt n (2 ^ 32) ≡ true) × (1 ≤ length text)
index_is text n h =
    let read = chosen ((eqb (length text) 1) || not (eqb (get_or text 0 0) 48)) (keep_if (λ k. nat_lt k (2 ^ 32)) (number_of text)) n h in
    let small = keep_if_is (λ k. nat_lt k (2 ^ 32)) (number_of text) n read.1 in
    let number = if_some ((nat_le 1 (length text) && nat_le (length text) 20) && (list_all is_digit text && nat_lt (digits_value text) (2 ^ 64))) (digits_value text) n small.0 in
    let both = and_parts (nat_le 1 (length text) && nat_le (length text) 20) (list_all is_digit text && nat_lt (digits_value text) (2 ^ 64)) number.0 in
    let some = leb-true 1 (length text) (and_parts (nat_le 1 (length text)) (nat_le (length text) 20) both.0).0 in
    let digits = and_parts (list_all is_digit text) (nat_lt (digits_value text) (2 ^ 64)) both.1 in
    let written : decimal (digits_value text) ≡ text = decimal-digits_value numerals text digits.0 (omega (arith, some)) (one_digit text read.0) (ltb-true (digits_value text) (2 ^ 64) digits.1) in
    (ap decimal (sym number.1) ∙ written, small.1, some)

-- ---- the name

dotted : (name : Text) → 1 ≤ length (after_first (λ b. eqb b 46) name) → name ≡ before_first (λ b. eqb b 46) name ++ 46 ∷ after_first (λ b. eqb b 46) name
dotted name some = split_at_first (λ b. eqb b 46) name 46 within ∙ ap (λ (dot : ℕ). before_first (λ b. eqb b 46) name ++ dot ∷ after_first (λ b. eqb b 46) name) (eqb-true _ 46 (passes_at_first (λ b. eqb b 46) name 46 within))
  where
    within : position_or_len (λ b. eqb b 46) name < length name
    within = omega (arith, some, length-drop (position_or_len (λ b. eqb b 46) name + 1) name)

there : (o : Option ℕ) → is_some o ≡ true → (n : ℕ) × (o ≡ Some n)
there (Some n) h = (n, refl)
there None h = absurd (true≢false (sym h))

joined : (name class digits text : Text) → name ≡ class ++ 46 ∷ text → digits ≡ text → name ≡ class ++ codes "." ++ digits
joined name class digits text is same = is ∙ ap (λ (t : Text). class ++ 46 ∷ t) (sym same) ∙ sym (append_assoc class (codes ".") digits)

pub slot_named_so : (g : Text) → is_slot_group g ≡ true
    → (name_of g ≡ class_of g ++ codes "." ++ decimal (unwrap_or (index_in (index_of g)) 0)) × (is_class (class_of g) ≡ true) × (nat_lt (unwrap_or (index_in (index_of g)) 0) (2 ^ 32) ≡ true)
slot_named_so g h =
    let both = and_parts (is_class (class_of g)) (is_some (index_in (index_of g))) (and_parts _ (is_class (class_of g) && is_some (index_in (index_of g))) h).1 in
    let index = there (index_in (index_of g)) both.1 in
    let is = index_is (index_of g) index.0 index.1 in
    let number : unwrap_or (index_in (index_of g)) 0 ≡ index.0 = ap (λ (o : Option ℕ). unwrap_or o 0) index.1 in
    (joined (name_of g) (class_of g) (decimal (unwrap_or (index_in (index_of g)) 0)) (index_of g) (dotted (name_of g) is.2) (ap decimal number ∙ is.0), both.0, ap (λ (n : ℕ). nat_lt n (2 ^ 32)) number ∙ is.1)
