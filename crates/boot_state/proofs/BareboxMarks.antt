-- What the marks do to barebox's variables.
use Rattle.std.proofs.Common.{◌≡◌, ◌≢◌, ℕ, Bool, true, false, cond, ◌&&◌, ◌||◌, eqb, List, [], ◌∷◌, ◌++◌, Option, Some, None, codes, refl, sym, ◌∙◌, ap, arith, subst, ⊎_elim}
use Rattle.std.specs.Prelude.{fold, nat_le, nat_lt}
use Rattle.std.specs.FinMap as fin
use Rattle.std.specs.Str.{bytes_eq}
use Rattle.std.proofs.lemmas.Bool.{and_from, and_parts, cases_Bool, eqb-true, le-ltb, ltb-false, ltb-true, or_cases, or_left, or_right, true≢false}
use Rattle.std.proofs.lemmas.List.{append_cancel_left, append_cancel_right}
use Rattle.std.proofs.lemmas.Option.{same_Some}
use Rattle.std.proofs.lemmas.Slice.Eq.{bytes_eq-Decides}
use Rattle.boot_model.specs.Vars.{Variables}
use Rattle.boot_state.specs.Orders.{count_of, digit_of, has_word, value}
use Rattle.boot_state.specs.Barebox.{attempts_name, attempts_of, best_with, is_better, is_down, is_good, made_primary, marked_bad, marked_good, primary, priority_name, priority_of, ranked, with_both}
use Rattle.boot_state.proofs.Counts.{digit_counts}
use Rattle.boot_state.proofs.Lookups.{bytes_eq_other}
use Rattle.boot_state.proofs.Values.{bytes_eq_same, last_of, last_of-behind, numbers_differ, value-insert, value-insert_other, value-insert_same}

-- ---- names of variables

last_of-priority : (name : List ℕ) → last_of 0 (priority_name name) ≡ 121
last_of-priority name = last_of-behind name 46 (codes "priority") 46

last_of-attempts : (name : List ℕ) → last_of 0 (attempts_name name) ≡ 115
last_of-attempts name = last_of-behind name 46 (codes "remaining_attempts") 46

priority_not_attempts : (other name : List ℕ) → priority_name other ≢ attempts_name name
priority_not_attempts other name e = numbers_differ 121 115 refl (sym (last_of-priority other) ∙ ap (last_of 0) e ∙ last_of-attempts name)

attempts_not_priority : (other name : List ℕ) → attempts_name other ≢ priority_name name
attempts_not_priority other name e = priority_not_attempts name other (sym e)

same_by_priority : (other name : List ℕ) → priority_name other ≡ priority_name name → other ≡ name
same_by_priority other name e = append_cancel_right other name (codes ".priority") (append_cancel_left (codes "bootstate.") (other ++ codes ".priority") (name ++ codes ".priority") e)

same_by_attempts : (other name : List ℕ) → attempts_name other ≡ attempts_name name → other ≡ name
same_by_attempts other name e = append_cancel_right other name (codes ".remaining_attempts") (append_cancel_left (codes "bootstate.") (other ++ codes ".remaining_attempts") (name ++ codes ".remaining_attempts") e)

-- ---- variables of another name

module _ (name other : List ℕ) (ne : other ≢ name) where
  priority_beside : (text : List ℕ) (vars : Variables) → value (fin.insert vars (priority_name name) text) (priority_name other) ≡ value vars (priority_name other)
  priority_beside text vars = value-insert_other vars (priority_name name) text (priority_name other) (λ e. ne (same_by_priority other name e))

  attempts_beside : (text : List ℕ) (vars : Variables) → value (fin.insert vars (attempts_name name) text) (attempts_name other) ≡ value vars (attempts_name other)
  attempts_beside text vars = value-insert_other vars (attempts_name name) text (attempts_name other) (λ e. ne (same_by_attempts other name e))

priority_apart : (name other text : List ℕ) (vars : Variables) → value (fin.insert vars (attempts_name name) text) (priority_name other) ≡ value vars (priority_name other)
priority_apart name other text vars = value-insert_other vars (attempts_name name) text (priority_name other) (priority_not_attempts other name)

attempts_apart : (name other text : List ℕ) (vars : Variables) → value (fin.insert vars (priority_name name) text) (attempts_name other) ≡ value vars (attempts_name other)
attempts_apart name other text vars = value-insert_other vars (priority_name name) text (attempts_name other) (attempts_not_priority other name)

-- both variables of another name
abbrev Alike : List ℕ → Variables → Variables → Type 0
Alike name v w = (value w (priority_name name) ≡ value v (priority_name name)) × (value w (attempts_name name) ≡ value v (attempts_name name))

both_beside : (priority attempts name other : List ℕ) (vars : Variables) → other ≢ name → Alike other vars (with_both priority attempts name vars)
both_beside priority attempts name other vars ne = (
  priority_apart name other attempts (fin.insert vars (priority_name name) priority) ∙ priority_beside name other ne priority vars,
  attempts_beside name other ne attempts (fin.insert vars (priority_name name) priority) ∙ attempts_apart name other priority vars,
)

abbrev pub Keeps : List ℕ → Variables → Variables → Type 0
Keeps name v w = (is_down v name ≡ true → is_down w name ≡ true) × (is_good v name ≡ true → is_good w name ≡ true)

kept_alike : (name : List ℕ) (v w : Variables) → Alike name v w → Keeps name v w
kept_alike name v w alike = (
  (λ h. ap (λ (o : Option (List ℕ)). eqb (count_of o) 0) alike.0 ∙ h),
  (λ h. (λ i. nat_lt 0 (count_of (alike.0 i)) && nat_lt 0 (count_of (alike.1 i))) ∙ h),
)

pub bad_keeps : (name other : List ℕ) (vars : Variables) → other ≢ name → Keeps other vars (marked_bad name vars)
bad_keeps name other vars ne = kept_alike other vars (marked_bad name vars) (both_beside (codes "0") (codes "0") name other vars ne)

pub good_keeps : (attempts : ℕ) (name other : List ℕ) (vars : Variables) → other ≢ name → Keeps other vars (marked_good attempts name vars)
good_keeps attempts name other vars ne =
    let w = fin.insert vars (attempts_name name) (digit_of attempts) in
    let priority = priority_apart name other (digit_of attempts) vars in
    let left = attempts_beside name other ne (digit_of attempts) vars in
    elim (eqb (priority_of vars name) 0) as (λ b. Keeps other vars (cond b (fin.insert w (priority_name name) (codes "10")) w)) [
      | true ↦ kept_alike other vars (fin.insert w (priority_name name) (codes "10")) (priority_beside name other ne (codes "10") w ∙ priority, attempts_apart name other (codes "10") w ∙ left)
      | false ↦ kept_alike other vars w (priority, left)
    ]

-- ---- one name first, and the others low

module _ (attempts : ℕ) (name : List ℕ) (before : Variables) where
  -- a property that each step keeps
  kept_along : (P : Variables → Type 0) → ((v : Variables) (x : List ℕ) → P v → P (ranked attempts name before v x)) → (names : List (List ℕ)) (v : Variables) → P v → P (fold (ranked attempts name before) v names)
  kept_along P keeps [] v h = h
  kept_along P keeps (x ∷ xs) v h = kept_along P keeps xs (ranked attempts name before v x) (keeps v x h)

  low : (v : Variables) (x : List ℕ) → Variables
  low v x = cond (nat_lt 0 (priority_of before x)) (fin.insert v (priority_name x) (codes "10")) v

  module _ (other : List ℕ) (ne : other ≢ name) where
    attempts_kept : (v : Variables) (x : List ℕ) → value (ranked attempts name before v x) (attempts_name other) ≡ value v (attempts_name other)
    attempts_kept v x =
        elim (bytes_eq x name) as (λ b. value (cond b (with_both (codes "20") (digit_of attempts) name v) (cond (nat_lt 0 (priority_of before x)) (fin.insert v (priority_name x) (codes "10")) v)) (attempts_name other) ≡ value v (attempts_name other)) [
          | true ↦ (both_beside (codes "20") (digit_of attempts) name other v ne).1
          | false ↦ elim (nat_lt 0 (priority_of before x)) as (λ b. value (cond b (fin.insert v (priority_name x) (codes "10")) v) (attempts_name other) ≡ value v (attempts_name other)) [
            | true ↦ attempts_apart x other (codes "10") v
            | false ↦ refl
          ]
        ]

    -- where there is no priority, none comes
    down_kept : priority_of before other ≡ 0 → (v : Variables) (x : List ℕ) → value (ranked attempts name before v x) (priority_name other) ≡ value v (priority_name other)
    down_kept zero v x =
        elim (bytes_eq x name) as (λ b. value (cond b (with_both (codes "20") (digit_of attempts) name v) (cond (nat_lt 0 (priority_of before x)) (fin.insert v (priority_name x) (codes "10")) v)) (priority_name other) ≡ value v (priority_name other)) [
          | true ↦ (both_beside (codes "20") (digit_of attempts) name other v ne).0
          | false ↦ elim (nat_lt 0 (priority_of before x)) as (λ b. nat_lt 0 (priority_of before x) ≡ b → value (cond b (fin.insert v (priority_name x) (codes "10")) v) (priority_name other) ≡ value v (priority_name other)) [
            | true ↦ λ above. value-insert_other v (priority_name x) (codes "10") (priority_name other)
                (λ e. true≢false (sym above ∙ ap (λ (k : ℕ). nat_lt 0 k) (ap (λ (n : List ℕ). priority_of before n) (sym (same_by_priority other x e)) ∙ zero)))
            | false ↦ λ above. refl
          ] refl
        ]

    -- where there is one, it stays above 0
    above_kept : (v : Variables) (x : List ℕ) → nat_lt 0 (priority_of v other) ≡ true → nat_lt 0 (priority_of (ranked attempts name before v x) other) ≡ true
    above_kept v x above =
        elim (bytes_eq x name) as (λ b. nat_lt 0 (priority_of (cond b (with_both (codes "20") (digit_of attempts) name v) (cond (nat_lt 0 (priority_of before x)) (fin.insert v (priority_name x) (codes "10")) v)) other) ≡ true) [
          | true ↦ ap (λ (o : Option (List ℕ)). nat_lt 0 (count_of o)) (both_beside (codes "20") (digit_of attempts) name other v ne).0 ∙ above
          | false ↦ elim (nat_lt 0 (priority_of before x)) as (λ b. nat_lt 0 (priority_of (cond b (fin.insert v (priority_name x) (codes "10")) v) other) ≡ true) [
            | true ↦ ap (λ (o : Option (List ℕ)). nat_lt 0 (count_of o)) (value-insert v (priority_name x) (codes "10") (priority_name other))
                ∙ elim (bytes_eq (priority_name other) (priority_name x)) as (λ b. nat_lt 0 (count_of (cond b (Some (codes "10")) (value v (priority_name other)))) ≡ true) [ true ↦ refl | false ↦ above ]
            | false ↦ above
          ]
        ]

  -- the name itself is high once it was met
  abbrev IsHigh : Variables → Type 0
  IsHigh v = (value v (priority_name name) ≡ Some (codes "20")) × (value v (attempts_name name) ≡ Some (digit_of attempts))

  high : (v : Variables) → IsHigh (with_both (codes "20") (digit_of attempts) name v)
  high v = (
    priority_apart name name (digit_of attempts) (fin.insert v (priority_name name) (codes "20")) ∙ value-insert_same v (priority_name name) (codes "20"),
    value-insert_same (fin.insert v (priority_name name) (codes "20")) (attempts_name name) (digit_of attempts),
  )

  high_met : (v : Variables) (x : List ℕ) → bytes_eq x name ≡ true → IsHigh (ranked attempts name before v x)
  high_met v x met = subst (λ (b : Bool). IsHigh (cond b (with_both (codes "20") (digit_of attempts) name v) (cond (nat_lt 0 (priority_of before x)) (fin.insert v (priority_name x) (codes "10")) v))) (sym met) (high v)

  high_kept : (v : Variables) (x : List ℕ) → IsHigh v → IsHigh (ranked attempts name before v x)
  high_kept v x is =
      elim (bytes_eq x name) as (λ b. bytes_eq x name ≡ b → IsHigh (cond b (with_both (codes "20") (digit_of attempts) name v) (cond (nat_lt 0 (priority_of before x)) (fin.insert v (priority_name x) (codes "10")) v))) [
        | true ↦ λ e. high v
        | false ↦ λ e. elim (nat_lt 0 (priority_of before x)) as (λ b. IsHigh (cond b (fin.insert v (priority_name x) (codes "10")) v)) [
          | true ↦ (
            value-insert_other v (priority_name x) (codes "10") (priority_name name) (λ s. true≢false (sym ((bytes_eq-Decides x name).1 (sym (same_by_priority name x s))) ∙ e)) ∙ is.0,
            attempts_apart x name (codes "10") v ∙ is.1,
          )
          | false ↦ is
        ]
      ] refl

  high_along : (names : List (List ℕ)) (v : Variables) → has_word names name ≡ true → IsHigh (fold (ranked attempts name before) v names)
  high_along [] v h = absurd (true≢false (sym h))
  high_along (x ∷ xs) v h =
      ⊎_elim
      (λ met. kept_along IsHigh high_kept xs (ranked attempts name before v x) (high_met v x met))
      (λ later. high_along xs (ranked attempts name before v x) later)
      (or_cases (bytes_eq x name) (has_word xs name) h)

pub primary_keeps : (attempts : ℕ) (names : List (List ℕ)) (name other : List ℕ) (vars : Variables) → other ≢ name → Keeps other vars (made_primary attempts names name vars)
primary_keeps attempts names name other vars ne = (
  (λ down.
      let zero = eqb-true (priority_of vars other) 0 down in
      let same = kept_along attempts name vars (λ (v : Variables). value v (priority_name other) ≡ value vars (priority_name other)) (λ v x h. down_kept attempts name vars other ne zero v x ∙ h) names vars refl in
      ap (λ (o : Option (List ℕ)). eqb (count_of o) 0) same ∙ down),
  (λ good.
      let parts = and_parts (nat_lt 0 (priority_of vars other)) (nat_lt 0 (attempts_of vars other)) good in
      let above = kept_along attempts name vars (λ (v : Variables). nat_lt 0 (priority_of v other) ≡ true) (λ v x h. above_kept attempts name vars other ne v x h) names vars parts.0 in
      let same = kept_along attempts name vars (λ (v : Variables). value v (attempts_name other) ≡ value vars (attempts_name other)) (λ v x h. attempts_kept attempts name vars other ne v x ∙ h) names vars refl in
      and_from (nat_lt 0 (priority_of (made_primary attempts names name vars) other)) (nat_lt 0 (attempts_of (made_primary attempts names name vars) other)) above
      (ap (λ (o : Option (List ℕ)). nat_lt 0 (count_of o)) same ∙ parts.1)),
)

pub bad_down : (name : List ℕ) (vars : Variables) → is_down (marked_bad name vars) name ≡ true
bad_down name vars =
    ap (λ (o : Option (List ℕ)). eqb (count_of o) 0)
    (priority_apart name name (codes "0") (fin.insert vars (priority_name name) (codes "0")) ∙ value-insert_same vars (priority_name name) (codes "0"))

pub primary_good : (attempts : ℕ) (names : List (List ℕ)) (name : List ℕ) (vars : Variables) → (nat_le 1 attempts && nat_le attempts 9) ≡ true → has_word names name ≡ true → is_good (made_primary attempts names name vars) name ≡ true
primary_good attempts names name vars few has =
    let high = high_along attempts name vars names vars has in
    (λ i. nat_lt 0 (count_of (high.0 i)) && nat_lt 0 (count_of (high.1 i))) ∙ digit_counts attempts few

-- ---- the best name is good

module _ (vars : Variables) where
  abbrev IsBestGood : Option (List ℕ) → Type 0
  IsBestGood best = (name : List ℕ) → best ≡ Some name → is_good vars name ≡ true

  better_is_good : (best : Option (List ℕ)) (name : List ℕ) → is_better vars best name ≡ true → is_good vars name ≡ true
  better_is_good None name h = h
  better_is_good (Some b) name h = (and_parts (is_good vars name) (nat_lt (priority_of vars b) (priority_of vars name)) h).0

  best_stays_good : (best : Option (List ℕ)) (x : List ℕ) → IsBestGood best → IsBestGood (best_with vars best x)
  best_stays_good best x good =
      elim (is_better vars best x) as (λ b. is_better vars best x ≡ b → IsBestGood (cond b (Some x) best)) [
        | true ↦ λ e name s. subst (λ (n : List ℕ). is_good vars n ≡ true) (same_Some x name s) (better_is_good best x e)
        | false ↦ λ e. good
      ] refl

  best_along : (names : List (List ℕ)) (best : Option (List ℕ)) → IsBestGood best → IsBestGood (fold (best_with vars) best names)
  best_along [] best good = good
  best_along (x ∷ xs) best good = best_along xs (best_with vars best x) (best_stays_good best x good)

pub not_primary : (vars : Variables) (names : List (List ℕ)) (name : List ℕ) → is_down vars name ≡ true → primary vars names ≢ Some name
not_primary vars names name down is =
    let good = best_along vars names None (λ n e. absurd (cc)) name is in
    let above = (and_parts (nat_lt 0 (priority_of vars name)) (nat_lt 0 (attempts_of vars name)) good).0 in
    let zero = eqb-true (priority_of vars name) 0 down in
    true≢false (sym above ∙ ap (λ (k : ℕ). nat_lt 0 k) zero)

-- ---- a name that was made primary is the best

module _ (attempts : ℕ) (name : List ℕ) (before : Variables) (other : List ℕ) (ne : other ≢ name) where
  abbrev IsLow : Variables → Type 0
  IsLow v = value v (priority_name other) ≡ Some (codes "10")

  low_kept : (v : Variables) (x : List ℕ) → IsLow v → IsLow (ranked attempts name before v x)
  low_kept v x is =
      elim (bytes_eq x name) as (λ b. IsLow (cond b (with_both (codes "20") (digit_of attempts) name v) (cond (nat_lt 0 (priority_of before x)) (fin.insert v (priority_name x) (codes "10")) v))) [
        | true ↦ (both_beside (codes "20") (digit_of attempts) name other v ne).0 ∙ is
        | false ↦ elim (nat_lt 0 (priority_of before x)) as (λ b. IsLow (cond b (fin.insert v (priority_name x) (codes "10")) v)) [
          | true ↦ value-insert v (priority_name x) (codes "10") (priority_name other)
              ∙ elim (bytes_eq (priority_name other) (priority_name x)) as (λ b. cond b (Some (codes "10")) (value v (priority_name other)) ≡ Some (codes "10")) [ true ↦ refl | false ↦ is ]
          | false ↦ is
        ]
      ]

  low_met : nat_lt 0 (priority_of before other) ≡ true → (v : Variables) → IsLow (ranked attempts name before v other)
  low_met above v =
      subst (λ (b : Bool). IsLow (cond b (with_both (codes "20") (digit_of attempts) name v) (cond (nat_lt 0 (priority_of before other)) (fin.insert v (priority_name other) (codes "10")) v))) (sym (bytes_eq_other other name ne))
      (subst (λ (b : Bool). IsLow (cond b (fin.insert v (priority_name other) (codes "10")) v)) (sym above) (value-insert_same v (priority_name other) (codes "10")))

  low_along : nat_lt 0 (priority_of before other) ≡ true → (names : List (List ℕ)) (v : Variables) → has_word names other ≡ true → IsLow (fold (ranked attempts name before) v names)
  low_along above [] v h = absurd (true≢false (sym h))
  low_along above (x ∷ xs) v h =
      ⊎_elim
      (λ met. kept_along attempts name before IsLow low_kept xs (ranked attempts name before v x) (subst (λ (y : List ℕ). IsLow (ranked attempts name before v y)) (sym ((bytes_eq-Decides x other).0 met)) (low_met above v)))
      (λ later. low_along above xs (ranked attempts name before v x) later)
      (or_cases (bytes_eq x other) (has_word xs other) h)

  -- each other name is below the first
  below_first : (names : List (List ℕ)) → has_word names other ≡ true → nat_lt (priority_of (fold (ranked attempts name before) before names) other) 20 ≡ true
  below_first names has =
      ⊎_elim
      (λ above. ap (λ (o : Option (List ℕ)). nat_lt (count_of o) 20) (low_along above names before has))
      (λ none.
      let zero : priority_of before other ≡ 0 = omega (arith, ltb-false 0 (priority_of before other) none) in
      let same = kept_along attempts name before (λ (v : Variables). value v (priority_name other) ≡ value before (priority_name other)) (λ v x h. down_kept attempts name before other ne zero v x ∙ h) names before refl in
      ap (λ (o : Option (List ℕ)). nat_lt (count_of o) 20) same ∙ ap (λ (k : ℕ). nat_lt k 20) zero)
      (cases_Bool (nat_lt 0 (priority_of before other)))

module _ (w : Variables) (name : List ℕ) (high : priority_of w name ≡ 20) (good : is_good w name ≡ true) where
  -- another name than this is below it
  abbrev IsBelow : List ℕ → Type 0
  IsBelow x = x ≢ name → nat_lt (priority_of w x) 20 ≡ true

  abbrev AreBelow : List (List ℕ) → Type 0
  AreBelow [] = Unit {0}
  AreBelow (x ∷ xs) = IsBelow x × AreBelow xs

  abbrev IsBestBelow : Option (List ℕ) → Type 0
  IsBestBelow best = (b : List ℕ) → best ≡ Some b → nat_lt (priority_of w b) 20 ≡ true

  not_above : (x : List ℕ) → IsBelow x → nat_lt (priority_of w name) (priority_of w x) ≡ false
  not_above x below =
      elim (bytes_eq x name) as (λ b. bytes_eq x name ≡ b → nat_lt (priority_of w name) (priority_of w x) ≡ false) [
        | true ↦ λ e. ap (λ (y : List ℕ). nat_lt (priority_of w name) (priority_of w y)) ((bytes_eq-Decides x name).0 e) ∙ ap (λ (k : ℕ). nat_lt k k) high
        | false ↦ λ e. le-ltb (priority_of w name) (priority_of w x) (omega (arith, high, ltb-true (priority_of w x) 20 (below (λ s. true≢false (sym ((bytes_eq-Decides x name).1 s) ∙ e)))))
      ] refl

  stays : (xs : List (List ℕ)) → AreBelow xs → fold (best_with w) (Some name) xs ≡ Some name
  stays [] are = refl
  stays (x ∷ xs) are =
      ap (λ (b : Bool). fold (best_with w) (cond (is_good w x && b) (Some x) (Some name)) xs) (not_above x are.0)
      ∙ elim (is_good w x) as (λ b. fold (best_with w) (cond (b && false) (Some x) (Some name)) xs ≡ Some name) [ true ↦ stays xs are.1 | false ↦ stays xs are.1 ]

  beats : (best : Option (List ℕ)) → IsBestBelow best → is_better w best name ≡ true
  beats None below = good
  beats (Some b) below = and_from (is_good w name) (nat_lt (priority_of w b) (priority_of w name)) good (ap (λ (k : ℕ). nat_lt (priority_of w b) k) high ∙ below b refl)

  best_below : (best : Option (List ℕ)) (x : List ℕ) → IsBestBelow best → nat_lt (priority_of w x) 20 ≡ true → IsBestBelow (best_with w best x)
  best_below best x below here =
      elim (is_better w best x) as (λ b. IsBestBelow (cond b (Some x) best)) [
        | true ↦ λ b s. subst (λ (n : List ℕ). nat_lt (priority_of w n) 20 ≡ true) (same_Some x b s) here
        | false ↦ below
      ]

  comes : (xs : List (List ℕ)) (best : Option (List ℕ)) → AreBelow xs → IsBestBelow best → has_word xs name ≡ true → fold (best_with w) best xs ≡ Some name
  comes [] best are below h = absurd (true≢false (sym h))
  comes (x ∷ xs) best are below h =
      elim (bytes_eq x name) as (λ b. bytes_eq x name ≡ b → (b || has_word xs name) ≡ true → fold (best_with w) (best_with w best x) xs ≡ Some name) [
        | true ↦ λ e s.
            let same = (bytes_eq-Decides x name).0 e in
            ap (λ (y : List ℕ). fold (best_with w) (best_with w best y) xs) same
            ∙ ap (λ (b : Bool). fold (best_with w) (cond b (Some name) best) xs) (beats best below)
            ∙ stays xs are.1
        | false ↦ λ e s. comes xs (best_with w best x) are.1 (best_below best x below (are.0 (λ q. true≢false (sym ((bytes_eq-Decides x name).1 q) ∙ e)))) s
      ] refl h

pub is_primary : (attempts : ℕ) (names : List (List ℕ)) (name : List ℕ) (vars : Variables) → (nat_le 1 attempts && nat_le attempts 9) ≡ true → has_word names name ≡ true → primary (made_primary attempts names name vars) names ≡ Some name
is_primary attempts names name vars few has =
    let w = made_primary attempts names name vars in
    let high = ap count_of (high_along attempts name vars names vars has).0 in
    comes w name high (primary_good attempts names name vars few has) names None (are_below names (λ x h. h)) (λ b s. absurd (cc)) has
  where
    are_below : (xs : List (List ℕ)) → ((x : List ℕ) → has_word xs x ≡ true → has_word names x ≡ true) → AreBelow (made_primary attempts names name vars) name (ap count_of (high_along attempts name vars names vars has).0) (primary_good attempts names name vars few has) xs
    are_below [] sub = tt
    are_below (x ∷ xs) sub = (
      (λ ne. below_first attempts name vars x ne names (sub x (or_left (bytes_eq x x) (has_word xs x) (bytes_eq_same x)))),
      are_below xs (λ y h. sub y (or_right (bytes_eq x y) (has_word xs y) h)),
    )
