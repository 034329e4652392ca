-- What the marks do to GRUB's variables.
use Rattle.std.proofs.Common.{◌≡◌, ◌≢◌, ℕ, true, not, ◌&&◌, eqb, List, [], ◌∷◌, Option, Some, codes, refl, sym, ◌∙◌, ap}
use Rattle.std.specs.Prelude.{find, unwrap_or}
use Rattle.std.specs.FinMap as fin
use Rattle.std.proofs.lemmas.Bool.{and_from, and_parts}
use Rattle.std.proofs.lemmas.List.{append_cancel_right}
use Rattle.boot_model.specs.Vars.{Variables}
use Rattle.boot_state.specs.Orders.{count_of, has_word, is_blank, joined, others, value, words_at, words_between}
use Rattle.boot_state.specs.Grub.{is_down, is_good, made_primary, marked_bad, ok_name, order_name, primary, try_name, with_mark}
use Rattle.boot_state.proofs.Values.{both_true, find_passes, first_found, last_of, last_of-behind, numbers_differ, value-insert_other, value-insert_same}
use Rattle.boot_state.proofs.Words.{AreUncut, IsUncut, are_uncut, uncut_others, words-joined}

-- ---- names of variables

last_of-ok : (name : List ℕ) → last_of 0 (ok_name name) ≡ 75
last_of-ok name = last_of-behind name 95 (codes "OK") 0

last_of-try : (name : List ℕ) → last_of 0 (try_name name) ≡ 89
last_of-try name = last_of-behind name 95 (codes "TRY") 0

ok_not_try : (other name : List ℕ) → ok_name other ≢ try_name name
ok_not_try other name e = numbers_differ 75 89 refl (sym (last_of-ok other) ∙ ap (last_of 0) e ∙ last_of-try name)

ok_not_order : (name : List ℕ) → ok_name name ≢ order_name
ok_not_order name e = numbers_differ 75 82 refl (sym (last_of-ok name) ∙ ap (last_of 0) e)

try_not_order : (name : List ℕ) → try_name name ≢ order_name
try_not_order name e = numbers_differ 89 82 refl (sym (last_of-try name) ∙ ap (last_of 0) e)

-- ---- the marks

good_alike : (name : List ℕ) (v w : Variables) → value v (ok_name name) ≡ value w (ok_name name) → value v (try_name name) ≡ value w (try_name name) → is_good v name ≡ is_good w name
good_alike name v w ok try = λ i. eqb (count_of (ok i)) 1 && eqb (count_of (try i)) 0

ok_marked : (mark name : List ℕ) (vars : Variables) → value (with_mark mark name vars) (ok_name name) ≡ Some mark
ok_marked mark name vars =
    value-insert_other (fin.insert vars (ok_name name) mark) (try_name name) (codes "0") (ok_name name) (ok_not_try name name) ∙ value-insert_same vars (ok_name name) mark

-- a mark of another name
pub mark_keeps : (mark name other : List ℕ) (vars : Variables) → other ≢ name → is_good (with_mark mark name vars) other ≡ is_good vars other
mark_keeps mark name other vars ne =
    let marked = fin.insert vars (ok_name name) mark in
    good_alike other (with_mark mark name vars) vars
    (value-insert_other marked (try_name name) (codes "0") (ok_name other) (ok_not_try other name)
    ∙ value-insert_other vars (ok_name name) mark (ok_name other) (λ e. ne (append_cancel_right other name (codes "_OK") e)))
    (value-insert_other marked (try_name name) (codes "0") (try_name other) (λ e. ne (append_cancel_right other name (codes "_TRY") e))
    ∙ value-insert_other vars (ok_name name) mark (try_name other) (λ e. ok_not_try name other (sym e)))

order_keeps : (text name : List ℕ) (vars : Variables) → is_good (fin.insert vars order_name text) name ≡ is_good vars name
order_keeps text name vars =
    good_alike name (fin.insert vars order_name text) vars
    (value-insert_other vars order_name text (ok_name name) (ok_not_order name))
    (value-insert_other vars order_name text (try_name name) (try_not_order name))

pub primary_keeps : (names : List (List ℕ)) (name other : List ℕ) (vars : Variables) → other ≢ name → is_good (made_primary names name vars) other ≡ is_good vars other
primary_keeps names name other vars ne =
    order_keeps (joined 32 (name ∷ others names name (words_at vars order_name))) other (with_mark (codes "1") name vars) ∙ mark_keeps (codes "1") name other vars ne

pub bad_down : (name : List ℕ) (vars : Variables) → is_down (marked_bad name vars) name ≡ true
bad_down name vars =
    ap (λ (o : Option (List ℕ)). not (eqb (count_of o) 1 && eqb (count_of (value (marked_bad name vars) (try_name name))) 0)) (ok_marked (codes "0") name vars)

marked_is_good : (name : List ℕ) (vars : Variables) → is_good (with_mark (codes "1") name vars) name ≡ true
marked_is_good name vars =
    let ok = ok_marked (codes "1") name vars in
    let try = value-insert_same (fin.insert vars (ok_name name) (codes "1")) (try_name name) (codes "0") in
    λ i. eqb (count_of (ok i)) 1 && eqb (count_of (try i)) 0

pub primary_good : (names : List (List ℕ)) (name : List ℕ) (vars : Variables) → is_good (made_primary names name vars) name ≡ true
primary_good names name vars =
    order_keeps (joined 32 (name ∷ others names name (words_at vars order_name))) name (with_mark (codes "1") name vars) ∙ marked_is_good name vars

pub not_primary : (vars : Variables) (names : List (List ℕ)) (name : List ℕ) → is_down vars name ≡ true → primary vars names ≢ Some name
not_primary vars names name down is =
    let passes = find_passes (λ word. has_word names word && is_good vars word) (words_at vars order_name) name is in
    both_true (is_good vars name) (and_parts (has_word names name) (is_good vars name) passes).1 down

pub is_primary : (names : List (List ℕ)) (name : List ℕ) (vars : Variables) → IsUncut is_blank name → AreUncut is_blank names → has_word names name ≡ true → primary (made_primary names name vars) names ≡ Some name
is_primary names name vars is are has =
    let words = name ∷ others names name (words_at vars order_name) in
    let w = fin.insert (with_mark (codes "1") name vars) order_name (joined 32 words) in
    let uncut : AreUncut is_blank words = (is, uncut_others is_blank names (words_at vars order_name) name are (are_uncut is_blank (unwrap_or (value vars order_name) []))) in
    let order : words_at w order_name ≡ words =
    ap (λ (o : Option (List ℕ)). words_between is_blank (unwrap_or o [])) (value-insert_same (with_mark (codes "1") name vars) order_name (joined 32 words)) ∙ words-joined is_blank 32 refl words uncut in
    let test = λ (word : List ℕ). has_word names word && is_good w word in
    ap (find test) order ∙ first_found test name (others names name (words_at vars order_name)) (and_from (has_word names name) (is_good w name) has (primary_good names name vars))
