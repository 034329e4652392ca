-- What the marks do to U-Boot's variables.
use Rattle.std.proofs.Common.{◌≡◌, ◌≢◌, ℕ, true, false, cond, not, ◌&&◌, eqb, List, [], ◌∷◌, ◌++◌, Option, Some, codes, refl, sym, ◌∙◌, ap, subst}
use Rattle.std.specs.Prelude.{find, nat_le, nat_lt, unwrap_or}
use Rattle.std.specs.Str.{bytes_eq}
use Rattle.std.proofs.lemmas.Bool.{and_from, and_parts, eqb-true, or_left, true≢false}
use Rattle.std.proofs.lemmas.List.{append_cancel_left, append_cancel_right}
use Rattle.boot_model.specs.Vars.{Variables}
use Rattle.boot_state.specs.Orders.{count_of, digit_of, has_word, is_blank, joined, others, value, without_word, words_between}
use Rattle.boot_state.specs.Uboot.{is_down, is_good, left_name, made_primary, marked_bad, marked_good, order_name, order_of, primary, with_attempts, with_order}
use Rattle.boot_state.proofs.Counts.{digit_counts}
use Rattle.boot_state.proofs.Values.{bytes_eq_same, find_passes, first_found, last_of, last_of-behind, numbers_differ, value-insert_other, value-insert_same, value-put_other}
use Rattle.boot_state.proofs.Words.{AreUncut, IsUncut, are_uncut, has-append, has-others, has-without_word, uncut_append, uncut_filtered, uncut_others, words-put}

-- ---- names of variables

left_not_order : (name : List ℕ) → left_name name ≢ order_name
left_not_order name e = numbers_differ 84 82 refl (sym (last_of-behind name 95 (codes "LEFT") 95) ∙ ap (last_of 0) e)

left_differs : (other name : List ℕ) → other ≢ name → left_name other ≢ left_name name
left_differs other name ne e = ne (append_cancel_right other name (codes "_LEFT") (append_cancel_left (codes "BOOT_") (other ++ codes "_LEFT") (name ++ codes "_LEFT") e))

-- ---- what a mark keeps of another name

abbrev pub Keeps : List ℕ → Variables → Variables → Type 0
Keeps name v w = (is_down v name ≡ true → is_down w name ≡ true) × (is_good v name ≡ true → is_good w name ≡ true)

kept_by : (name : List ℕ) (v w : Variables) → value w (left_name name) ≡ value v (left_name name) → (has_word (order_of v) name ≡ true → has_word (order_of w) name ≡ true) → Keeps name v w
kept_by name v w left order = (
  (λ h. ap (λ (o : Option (List ℕ)). eqb (count_of o) 0) left ∙ h),
  (λ h.
      let parts = and_parts (nat_lt 0 (count_of (value v (left_name name)))) (has_word (order_of v) name) h in
      and_from (nat_lt 0 (count_of (value w (left_name name)))) (has_word (order_of w) name) (ap (λ (o : Option (List ℕ)). nat_lt 0 (count_of o)) left ∙ parts.0) (order parts.1)),
)

module _ (text name other : List ℕ) (vars : Variables) (ne : other ≢ name) where
  pub attempts_keep : Keeps other vars (with_attempts text name vars)
  attempts_keep =
      kept_by other vars (with_attempts text name vars) (value-insert_other vars (left_name name) text (left_name other) (left_differs other name ne))
      (λ h. ap (λ (o : Option (List ℕ)). has_word (words_between is_blank (unwrap_or o [])) other) (value-insert_other vars (left_name name) text order_name (λ e. left_not_order name (sym e))) ∙ h)

  order_keeps : (words : List (List ℕ)) → AreUncut is_blank words → (has_word (order_of vars) other ≡ true → has_word words other ≡ true) → Keeps other vars (with_order words (with_attempts text name vars))
  order_keeps words are had =
      let w = with_attempts text name vars in
      kept_by other vars (with_order words w)
      (value-put_other w order_name (joined 32 words) (left_name other) (left_not_order other) ∙ value-insert_other vars (left_name name) text (left_name other) (left_differs other name ne))
      (λ h. ap (λ (ws : List (List ℕ)). has_word ws other) (words-put is_blank 32 refl w order_name words are) ∙ had h)

order_uncut : (vars : Variables) → AreUncut is_blank (order_of vars)
order_uncut vars = are_uncut is_blank (unwrap_or (value vars order_name) [])

pub bad_keeps : (name other : List ℕ) (vars : Variables) → other ≢ name → Keeps other vars (marked_bad name vars)
bad_keeps name other vars ne =
    elim (has_word (order_of vars) name) as (λ b. Keeps other vars (cond b (with_order (without_word (order_of vars) name) (with_attempts (codes "0") name vars)) (with_attempts (codes "0") name vars))) [
      | true ↦ order_keeps (codes "0") name other vars ne (without_word (order_of vars) name) (uncut_filtered is_blank (λ w. not (bytes_eq w name)) (order_of vars) (order_uncut vars)) (has-without_word (order_of vars) other name ne)
      | false ↦ attempts_keep (codes "0") name other vars ne
    ]

pub good_keeps : (attempts : ℕ) (name other : List ℕ) (vars : Variables) → other ≢ name → IsUncut is_blank name → Keeps other vars (marked_good attempts name vars)
good_keeps attempts name other vars ne is =
    elim (has_word (order_of vars) name) as (λ b. Keeps other vars (cond b (with_attempts (digit_of attempts) name vars) (with_order (order_of vars ++ name ∷ []) (with_attempts (digit_of attempts) name vars)))) [
      | true ↦ attempts_keep (digit_of attempts) name other vars ne
      | false ↦ order_keeps (digit_of attempts) name other vars ne (order_of vars ++ name ∷ []) (uncut_append is_blank (order_of vars) name (order_uncut vars) is) (has-append (order_of vars) other name)
    ]

first_uncut : (names : List (List ℕ)) (name : List ℕ) (vars : Variables) → IsUncut is_blank name → AreUncut is_blank names → AreUncut is_blank (name ∷ others names name (order_of vars))
first_uncut names name vars is are = (is, uncut_others is_blank names (order_of vars) name are (order_uncut vars))

pub primary_keeps : (attempts : ℕ) (names : List (List ℕ)) (name other : List ℕ) (vars : Variables) → other ≢ name → IsUncut is_blank name → AreUncut is_blank names → Keeps other vars (made_primary attempts names name vars)
primary_keeps attempts names name other vars ne is are =
    order_keeps (digit_of attempts) name other vars ne (name ∷ others names name (order_of vars)) (first_uncut names name vars is are) (has-others names (order_of vars) other name ne)

-- ---- what it leaves of the name itself

none_left : (name : List ℕ) (w : Variables) → value w (left_name name) ≡ Some (codes "0") → is_down w name ≡ true
none_left name w zero = ap (λ (o : Option (List ℕ)). eqb (count_of o) 0) zero

pub bad_down : (name : List ℕ) (vars : Variables) → is_down (marked_bad name vars) name ≡ true
bad_down name vars =
    let w = with_attempts (codes "0") name vars in
    let zero = value-insert_same vars (left_name name) (codes "0") in
    elim (has_word (order_of vars) name) as (λ b. is_down (cond b (with_order (without_word (order_of vars) name) w) w) name ≡ true) [
      | true ↦ none_left name (with_order (without_word (order_of vars) name) w) (value-put_other w order_name (joined 32 (without_word (order_of vars) name)) (left_name name) (left_not_order name) ∙ zero)
      | false ↦ none_left name w zero
    ]

pub primary_good : (attempts : ℕ) (names : List (List ℕ)) (name : List ℕ) (vars : Variables) → (nat_le 1 attempts && nat_le attempts 9) ≡ true → IsUncut is_blank name → AreUncut is_blank names → is_good (made_primary attempts names name vars) name ≡ true
primary_good attempts names name vars few is are =
    let w = with_attempts (digit_of attempts) name vars in
    let words = name ∷ others names name (order_of vars) in
    let left = value-put_other w order_name (joined 32 words) (left_name name) (left_not_order name) ∙ value-insert_same vars (left_name name) (digit_of attempts) in
    and_from (nat_lt 0 (count_of (value (with_order words w) (left_name name)))) (has_word (order_of (with_order words w)) name)
    (ap (λ (o : Option (List ℕ)). nat_lt 0 (count_of o)) left ∙ digit_counts attempts few)
    (ap (λ (ws : List (List ℕ)). has_word ws name) (words-put is_blank 32 refl w order_name words (first_uncut names name vars is are)) ∙ or_left (bytes_eq name name) (has_word (others names name (order_of vars)) name) (bytes_eq_same name))

pub not_primary : (vars : Variables) (names : List (List ℕ)) (name : List ℕ) → is_down vars name ≡ true → primary vars names ≢ Some name
not_primary vars names name down is =
    let passes = find_passes (λ word. has_word names word && is_good vars word) (order_of vars) name is in
    let ok = (and_parts (has_word names name) (is_good vars name) passes).1 in
    let left = (and_parts (nat_lt 0 (count_of (value vars (left_name name)))) (has_word (order_of vars) name) ok).0 in
    let zero : count_of (value vars (left_name name)) ≡ 0 = eqb-true (count_of (value vars (left_name name))) 0 down in
    true≢false (sym (subst (λ (k : ℕ). nat_lt 0 k ≡ true) zero left))

pub is_primary : (attempts : ℕ) (names : List (List ℕ)) (name : List ℕ) (vars : Variables) → (nat_le 1 attempts && nat_le attempts 9) ≡ true → IsUncut is_blank name → AreUncut is_blank names → has_word names name ≡ true → primary (made_primary attempts names name vars) names ≡ Some name
is_primary attempts names name vars few is are has =
    let words = name ∷ others names name (order_of vars) in
    let w = with_order words (with_attempts (digit_of attempts) name vars) in
    let test = λ (word : List ℕ). has_word names word && is_good w word in
    ap (find test) (words-put is_blank 32 refl (with_attempts (digit_of attempts) name vars) order_name words (first_uncut names name vars is are))
    ∙ first_found test name (others names name (order_of vars)) (and_from (has_word names name) (is_good w name) has (primary_good attempts names name vars few is are))
