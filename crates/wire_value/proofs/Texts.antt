-- What the code for texts does at each byte.
use Rattle.std.proofs.Common.{◌≡◌, ℕ, Bool, true, false, cond, eqb, List, [], ◌∷◌, length, get_or, drop, Some, None, refl, arith, IsUtf8}
use Rattle.std.specs.Str.{is_utf8}
use Rattle.std.proofs.lemmas.Str.{is_utf8-from_IsUtf8, IsUtf8-from_is_utf8}
use Rattle.wire_value.specs.Spelling.{are_parts, is_path}
use Rattle.wire_value.specs.Reading.{as_text, as_string, is_string}
use Rattle.wire_value.proofs.Steps.{is_not}

pub utf8_yes : (bs : List ℕ) → IsUtf8 bs → as_text bs ≡ Some bs
utf8_yes bs is = rw (is_utf8-from_IsUtf8 bs is) refl

not_true : (b : Bool) → (b ≡ true → ⊥) → b ≡ false
not_true true h = absurd (h refl)
not_true false h = refl

pub utf8_no : (bs : List ℕ) → (IsUtf8 bs → ⊥) → as_text bs ≡ None
utf8_no bs is = rw (not_true (is_utf8 bs) (λ e. is (IsUtf8-from_is_utf8 bs e))) refl

pub path_empty : (s : List ℕ) → length s ≡ 0 → is_path s ≡ false
path_empty [] e = refl
path_empty (c ∷ s) e = absurd (omega arith)

pub path_no_slash : (s : List ℕ) → (get_or s 0 0 ≡ 47 → ⊥) → is_path s ≡ false
path_no_slash [] e = refl
path_no_slash (c ∷ s) e = rw (is_not c 47 e) refl

pub path_root : (s : List ℕ) → length s ≡ 1 → get_or s 0 0 ≡ 47 → is_path s ≡ true
path_root [] e f = absurd (omega arith)
path_root (c ∷ []) e f = rw f refl
path_root (c ∷ d ∷ s) e f = absurd (omega arith)

pub path_parts : (s : List ℕ) → (length s ≡ 0 → ⊥) → (length s ≡ 1 → ⊥) → get_or s 0 0 ≡ 47 → is_path s ≡ are_parts false (drop 1 s)
path_parts [] e h f = absurd (e refl)
path_parts (c ∷ s) e h f =
    let some : eqb (length s) 0 ≡ false = is_not (length s) 0 (λ z. h (omega arith)) in
    rw (f, some) refl

one_way : {A : Type 0} (b : Bool) (s t : A) → Some s ≡ cond b (Some t) None → (b ≡ true) × (s ≡ t)
one_way true s t e = (refl, cc)
one_way false s t e = absurd cc

other_way : {A : Type 0} (b : Bool) (t : A) → None ≡ cond b (Some t) None → b ≡ false
other_way true t e = absurd cc
other_way false t e = refl

pub string_yes : (t s : List ℕ) → Some s ≡ as_string t → is_string t ≡ true
string_yes t s e = (one_way (is_string t) s t e).0

pub string_same : (t s : List ℕ) → Some s ≡ as_string t → s ≡ t
string_same t s e = (one_way (is_string t) s t e).1

pub string_no : (t : List ℕ) → None ≡ as_string t → is_string t ≡ false
string_no t e = other_way (is_string t) t e
