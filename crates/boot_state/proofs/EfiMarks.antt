-- What the marks do to EFI's variables.
use Rattle.std.proofs.Common.{◌≡◌, ◌≢◌, ℕ, Bool, true, false, cond, not, ◌&&◌, eqb, List, [], ◌∷◌, length, Option, Some, None, codes, refl, sym, ◌∙◌, ap, subst}
use Rattle.std.specs.Prelude.{filter_map, find, is_some, option_and_then, unwrap_or}
use Rattle.std.specs.FinMap as fin
use Rattle.std.specs.List.{list_all, list_any}
use Rattle.std.specs.Option.{option_map_or, option_or}
use Rattle.std.specs.Str.{bytes_eq}
use Rattle.std.proofs.lemmas.Bool.{and_parts, eqb-true, not-true, not_from_false, or_from, or_left, or_right, true≢false}
use Rattle.std.proofs.lemmas.List.{append_cancel_left}
use Rattle.std.proofs.lemmas.Option.{cond_some, option_and_then_some, same_Some}
use Rattle.std.proofs.lemmas.Slice.Eq.{bytes_eq-Decides}
use Rattle.boot_model.specs.Vars.{Variables}
use Rattle.boot_state.specs.Orders.{has_word, is_comma, joined, value, words_between}
use Rattle.boot_state.specs.Efi.{bad_with, entry_name, first_of, good_with, is_hex_digit, is_down, is_good, is_next, is_number, is_number_of, label_of, made_primary, marked_bad, marked_good, name_at, next_name, next_of, number_in, numbers_of, order_name, order_of, primary, primary_with, rest_of, with_order, without_next}
use Rattle.boot_state.proofs.Lookups.{bytes_eq_other}
use Rattle.boot_state.proofs.Values.{OnFirst, any_filtered, any_found, first_filtered, first_found, none_filtered, none_left, numbers_differ, value-insert_other, value-insert_same, value-put_other, value-remove_other, value-remove_same}
use Rattle.boot_state.proofs.Words.{AreUncut, IsUncut, are_uncut, uncut_filtered, words-put}

-- ---- names of variables

entry_not_next : (number : List ℕ) → is_number number ≡ true → entry_name number ≢ next_name
entry_not_next number is e = true≢false (sym is ∙ ap is_number (append_cancel_left (codes "Boot") number (codes "Next") e))

entry_not_order : (number : List ℕ) → is_number number ≡ true → entry_name number ≢ order_name
entry_not_order number is e = true≢false (sym is ∙ ap is_number (append_cancel_left (codes "Boot") number (codes "Order") e))

abbrev fifth : List ℕ → ℕ
fifth (a ∷ b ∷ c ∷ d ∷ e ∷ rest) = e
fifth _ = 0

next_not_order : next_name ≢ order_name
next_not_order e = numbers_differ 78 79 refl (ap fifth e)

-- ---- entries stay

-- the labels of v are those of w
abbrev Alike : Variables → Variables → Type 0
Alike v w = (number : List ℕ) → label_of v number ≡ label_of w number

alike_by : (v w : Variables) → ((number : List ℕ) → is_number number ≡ true → value v (entry_name number) ≡ value w (entry_name number)) → Alike v w
alike_by v w same number =
    elim (is_number number) as (λ b. is_number number ≡ b → cond b (value v (entry_name number)) None ≡ cond b (value w (entry_name number)) None) [
      | true ↦ λ e. same number e
      | false ↦ λ e. refl
    ] refl

order_alike : (words : List (List ℕ)) (w : Variables) → Alike (with_order words w) w
order_alike words w = alike_by (with_order words w) w (λ number is. value-put_other w order_name (joined 44 words) (entry_name number) (entry_not_order number is))

remove_alike : (w : Variables) → Alike (fin.remove w next_name) w
remove_alike w = alike_by (fin.remove w next_name) w (λ number is. value-remove_other w next_name (entry_name number) (entry_not_next number is))

insert_alike : (text : List ℕ) (w : Variables) → Alike (fin.insert w next_name text) w
insert_alike text w = alike_by (fin.insert w next_name text) w (λ number is. value-insert_other w next_name text (entry_name number) (entry_not_next number is))

number_alike : (v w : Variables) (name number : List ℕ) → Alike v w → is_number_of v name number ≡ is_number_of w name number
number_alike v w name number alike = ap (λ (o : Option (List ℕ)). option_map_or (λ label. bytes_eq label name) o false) (alike number)

-- a number is one name's alone
one_name : (vars : Variables) (name other number : List ℕ) → other ≢ name → is_number_of vars other number ≡ true → not (is_number_of vars name number) ≡ true
one_name vars name other number ne =
    elim (label_of vars number) as (λ o. option_map_or (λ label. bytes_eq label other) o false ≡ true → not (option_map_or (λ label. bytes_eq label name) o false) ≡ true) [
      | None ↦ λ h. refl
      | Some label ↦ λ h. not_from_false (bytes_eq label name) (bytes_eq_other label name (λ e. ne (sym ((bytes_eq-Decides label other).0 h) ∙ e)))
    ]

-- ---- the order and the next boot

module _ (name : List ℕ) (v w : Variables) (alike : Alike w v) where
  -- with the same order
  good_alike : order_of w ≡ order_of v → is_good w name ≡ is_good v name
  good_alike orders = λ i. list_any (λ number. option_map_or (λ label. bytes_eq label name) (alike number i) false) (orders i)

  -- with an order that was written
  good_ordered : (words : List (List ℕ)) → AreUncut is_comma words → is_good (with_order words w) name ≡ list_any (is_number_of v name) words
  good_ordered words are =
      let orders = words-put is_comma 44 refl w order_name words are in
      λ i. list_any (λ number. option_map_or (λ label. bytes_eq label name) ((order_alike words w number ∙ alike number) i) false) (orders i)

  next_ordered : (words : List (List ℕ)) → is_next (with_order words w) name ≡ option_map_or (is_number_of v name) (value w next_name) false
  next_ordered words =
      let next = value-put_other w order_name (joined 44 words) next_name next_not_order in
      λ i. option_map_or (λ number. option_map_or (λ label. bytes_eq label name) ((order_alike words w number ∙ alike number) i) false) (next i) false

  next_alike : is_next w name ≡ option_map_or (is_number_of v name) (value w next_name) false
  next_alike = λ i. option_map_or (λ number. option_map_or (λ label. bytes_eq label name) (alike number i) false) (value w next_name) false

down_from : (vars : Variables) (name : List ℕ) → is_next vars name ≡ false → is_good vars name ≡ false → is_down vars name ≡ true
down_from vars name next good = λ i. not (next i) && not (good i)

down_parts : (vars : Variables) (name : List ℕ) → is_down vars name ≡ true → (is_next vars name ≡ false) × (is_good vars name ≡ false)
down_parts vars name down =
    let parts = and_parts (not (is_next vars name)) (not (is_good vars name)) down in
    (not-true (is_next vars name) parts.0, not-true (is_good vars name) parts.1)

order_same : (v w : Variables) → value w order_name ≡ value v order_name → order_of w ≡ order_of v
order_same v w same = ap (λ (o : Option (List ℕ)). words_between is_comma (unwrap_or o [])) same

-- what is left of the next boot, once it is none of the name's
pub record NextGone (name : List ℕ) (v w : Variables) : Type 0 where
  pub alike : Alike w v
  pub order : order_of w ≡ order_of v
  pub gone : option_map_or (is_number_of v name) (value w next_name) false ≡ false
  pub others : (other : List ℕ) → is_next v other ≡ false → option_map_or (is_number_of v other) (value w next_name) false ≡ false

next_gone : (name : List ℕ) (vars : Variables) → NextGone name vars (without_next name vars)
next_gone name vars =
    elim (is_next vars name) as (λ b. is_next vars name ≡ b → NextGone name vars (cond b (fin.remove vars next_name) vars)) [
      | true ↦ λ e. record {
        alike = remove_alike vars;
        order = order_same vars (fin.remove vars next_name) (value-remove_other vars next_name order_name (λ s. next_not_order (sym s)));
        gone = ap (λ (o : Option (List ℕ)). option_map_or (is_number_of vars name) o false) (value-remove_same vars next_name);
        others = λ other h. ap (λ (o : Option (List ℕ)). option_map_or (is_number_of vars other) o false) (value-remove_same vars next_name);
      }
      | false ↦ λ e. record {
        alike = λ number. refl;
        order = refl;
        gone = e;
        others = λ other h. h;
      }
    ] refl

rest_uncut : (vars : Variables) (name : List ℕ) → AreUncut is_comma (rest_of vars name)
rest_uncut vars name = uncut_filtered is_comma (λ number. not (is_number_of vars name number)) (order_of vars) (are_uncut is_comma (unwrap_or (value vars order_name) []))

-- ---- numbers are words

digit_no_comma : (byte : ℕ) → is_hex_digit byte ≡ true → is_comma byte ≡ false
digit_no_comma byte is =
    elim (eqb byte 44) as (λ b. eqb byte 44 ≡ b → eqb byte 44 ≡ false) [
      | true ↦ λ e. absurd (true≢false (sym (subst (λ (k : ℕ). is_hex_digit k ≡ true) (eqb-true byte 44 e) is)))
      | false ↦ λ e. e
    ] refl

digits_no_comma : (text : List ℕ) → list_all is_hex_digit text ≡ true → list_any is_comma text ≡ false
digits_no_comma [] h = refl
digits_no_comma (byte ∷ text) h =
    let parts = and_parts (is_hex_digit byte) (list_all is_hex_digit text) h in
    or_from (is_comma byte) (list_any is_comma text) (digit_no_comma byte parts.0) (digits_no_comma text parts.1)

number_uncut : (number : List ℕ) → is_number number ≡ true → IsUncut is_comma number
number_uncut number is =
    let parts = and_parts (eqb (length number) 4) (list_all is_hex_digit number) is in
    (ap (λ (k : ℕ). eqb k 0) (eqb-true (length number) 4 parts.0), digits_no_comma number parts.1)

pub is_number_there : (vars : Variables) (name number : List ℕ) → is_number_of vars name number ≡ true → is_number number ≡ true
is_number_there vars name number =
    elim (is_number number) as (λ b. option_map_or (λ label. bytes_eq label name) (cond b (value vars (entry_name number)) None) false ≡ true → b ≡ true) [
      | true ↦ λ h. refl
      | false ↦ λ h. absurd (true≢false (sym h))
    ]

first_uncut : (vars : Variables) (name first : List ℕ) → is_number_of vars name first ≡ true → AreUncut is_comma (first ∷ rest_of vars name)
first_uncut vars name first is = (number_uncut first (is_number_there vars name first is), rest_uncut vars name)

pub first_is : (vars : Variables) (name : List ℕ) → OnFirst (λ first. is_number_of vars name first ≡ true) (numbers_of vars name)
first_is vars name = first_filtered (is_number_of vars name) (filter_map number_in (fin.keys vars))

-- ---- the name itself

module _ (name : List ℕ) (vars : Variables) where
  bad_ordered : is_down (with_order (rest_of vars name) (without_next name vars)) name ≡ true
  bad_ordered =
      let gone = next_gone name vars in
      let w = without_next name vars in
      down_from (with_order (rest_of vars name) w) name
      (next_ordered name vars w gone.alike (rest_of vars name) ∙ gone.gone)
      (good_ordered name vars w gone.alike (rest_of vars name) (rest_uncut vars name) ∙ none_left (is_number_of vars name) (order_of vars))

  bad_unordered : is_good vars name ≡ false → is_down (without_next name vars) name ≡ true
  bad_unordered none =
      let gone = next_gone name vars in
      let w = without_next name vars in
      down_from w name (next_alike name vars w gone.alike ∙ gone.gone) (good_alike name vars w gone.alike gone.order ∙ none)

  bad_down_with : (numbers : List (List ℕ)) (after : Variables) → bad_with numbers name vars ≡ Some after → is_down after name ≡ true
  bad_down_with [] after h = absurd (cc)
  bad_down_with (first ∷ more) after h =
      subst (λ (w : Variables). is_down w name ≡ true) (same_Some _ after h)
      (elim (is_good vars name) as (λ b. is_good vars name ≡ b → is_down (cond b (with_order (rest_of vars name) (without_next name vars)) (without_next name vars)) name ≡ true) [
        | true ↦ λ e. bad_ordered
        | false ↦ λ e. bad_unordered e
      ] refl)

  first_good : (first : List ℕ) (w : Variables) → Alike w vars → is_number_of vars name first ≡ true → is_good (with_order (first ∷ rest_of vars name) w) name ≡ true
  first_good first w alike is =
      good_ordered name vars w alike (first ∷ rest_of vars name) (first_uncut vars name first is) ∙ or_left (is_number_of vars name first) (list_any (is_number_of vars name) (rest_of vars name)) is

  primary_good_with : (numbers : List (List ℕ)) (after : Variables) → OnFirst (λ first. is_number_of vars name first ≡ true) numbers → primary_with false numbers name vars ≡ Some after → is_good after name ≡ true
  primary_good_with [] after is h = absurd (cc)
  primary_good_with (first ∷ more) after is h =
      subst (λ (w : Variables). is_good w name ≡ true) (same_Some _ after h) (first_good first (fin.remove vars next_name) (remove_alike vars) is)

  -- where the next boot alone is told, it is the name's
  primary_next_with : (numbers : List (List ℕ)) (after : Variables) → OnFirst (λ first. is_number_of vars name first ≡ true) numbers → primary_with true numbers name vars ≡ Some after → is_next after name ≡ true
  primary_next_with [] after is h = absurd (cc)
  primary_next_with (first ∷ more) after is h =
      let w = fin.insert vars next_name first in
      subst (λ (w : Variables). is_next w name ≡ true) (same_Some _ after h)
      (next_alike name vars w (insert_alike first vars)
      ∙ ap (λ (o : Option (List ℕ)). option_map_or (is_number_of vars name) o false) (value-insert_same vars next_name first)
      ∙ is)

pub bad_down : (name : List ℕ) (vars after : Variables) → marked_bad name vars ≡ Some after → is_down after name ≡ true
bad_down name vars after h = bad_down_with name vars (numbers_of vars name) after h

pub primary_good : (name : List ℕ) (vars after : Variables) → made_primary false name vars ≡ Some after → is_good after name ≡ true
primary_good name vars after h = primary_good_with name vars (numbers_of vars name) after (first_is vars name) h

pub primary_next : (name : List ℕ) (vars after : Variables) → made_primary true name vars ≡ Some after → is_next after name ≡ true
primary_next name vars after h = primary_next_with name vars (numbers_of vars name) after (first_is vars name) h

-- ---- another name

abbrev pub Keeps : List ℕ → Variables → Variables → Type 0
Keeps name v w = (is_down v name ≡ true → is_down w name ≡ true) × (is_good v name ≡ true → is_good w name ≡ true)

-- without a next boot
pub no_next_keeps : (name : List ℕ) (vars : Variables) → Keeps name vars (fin.remove vars next_name)
no_next_keeps name vars =
    let w = fin.remove vars next_name in
    let alike = remove_alike vars in
    let good = good_alike name vars w alike (order_same vars w (value-remove_other vars next_name order_name (λ s. next_not_order (sym s)))) in
    let next = next_alike name vars w alike ∙ ap (λ (o : Option (List ℕ)). option_map_or (is_number_of vars name) o false) (value-remove_same vars next_name) in (
      (λ down. down_from w name next (good ∙ (down_parts vars name down).1)),
      (λ some. good ∙ some),
    )

module _ (name other : List ℕ) (vars : Variables) (ne : other ≢ name) where
  rest_none : is_good vars other ≡ false → list_any (is_number_of vars other) (rest_of vars name) ≡ false
  rest_none none = none_filtered (is_number_of vars other) (λ number. not (is_number_of vars name number)) (order_of vars) none

  rest_some : is_good vars other ≡ true → list_any (is_number_of vars other) (rest_of vars name) ≡ true
  rest_some some = any_filtered (is_number_of vars other) (λ number. not (is_number_of vars name number)) (order_of vars) (λ number is. one_name vars name other number ne is) some

  not_others : (first : List ℕ) → is_number_of vars name first ≡ true → is_number_of vars other first ≡ false
  not_others first is = not-true (is_number_of vars other first) (one_name vars other name first (λ e. ne (sym e)) is)

  -- an order that begins with a number of the name
  led_keeps : (first : List ℕ) (w : Variables) → Alike w vars → is_number_of vars name first ≡ true → (is_next vars other ≡ false → option_map_or (is_number_of vars other) (value w next_name) false ≡ false) → Keeps other vars (with_order (first ∷ rest_of vars name) w)
  led_keeps first w alike is next =
      let good = good_ordered other vars w alike (first ∷ rest_of vars name) (first_uncut vars name first is) in (
        (λ down.
            let parts = down_parts vars other down in
            down_from (with_order (first ∷ rest_of vars name) w) other
            (next_ordered other vars w alike (first ∷ rest_of vars name) ∙ next parts.0)
            (good ∙ or_from (is_number_of vars other first) (list_any (is_number_of vars other) (rest_of vars name)) (not_others first is) (rest_none parts.1))),
        (λ some. good ∙ or_right (is_number_of vars other first) (list_any (is_number_of vars other) (rest_of vars name)) (rest_some some)),
      )

  bad_ordered_keeps : Keeps other vars (with_order (rest_of vars name) (without_next name vars))
  bad_ordered_keeps =
      let gone = next_gone name vars in
      let w = without_next name vars in
      let good = good_ordered other vars w gone.alike (rest_of vars name) (rest_uncut vars name) in (
        (λ down.
            let parts = down_parts vars other down in
            down_from (with_order (rest_of vars name) w) other
            (next_ordered other vars w gone.alike (rest_of vars name) ∙ gone.others other parts.0)
            (good ∙ rest_none parts.1)),
        (λ some. good ∙ rest_some some),
      )

  bad_unordered_keeps : Keeps other vars (without_next name vars)
  bad_unordered_keeps =
      let gone = next_gone name vars in
      let w = without_next name vars in
      let good = good_alike other vars w gone.alike gone.order in (
        (λ down.
            let parts = down_parts vars other down in
            down_from w other (next_alike other vars w gone.alike ∙ gone.others other parts.0) (good ∙ parts.1)),
        (λ some. good ∙ some),
      )

  bad_keeps_with : (numbers : List (List ℕ)) (after : Variables) → bad_with numbers name vars ≡ Some after → Keeps other vars after
  bad_keeps_with [] after h = absurd (cc)
  bad_keeps_with (first ∷ more) after h =
      subst (λ (w : Variables). Keeps other vars w) (same_Some _ after h)
      (elim (is_good vars name) as (λ b. Keeps other vars (cond b (with_order (rest_of vars name) (without_next name vars)) (without_next name vars))) [
        | true ↦ bad_ordered_keeps
        | false ↦ bad_unordered_keeps
      ])

  good_keeps_with : (numbers : List (List ℕ)) (after : Variables) → OnFirst (λ first. is_number_of vars name first ≡ true) numbers → good_with numbers name vars ≡ Some after → Keeps other vars after
  good_keeps_with [] after is h = absurd (cc)
  good_keeps_with (first ∷ more) after is h = subst (λ (w : Variables). Keeps other vars w) (same_Some _ after h) (led_keeps first vars (λ number. refl) is (λ none. none))

  next_keeps : (first : List ℕ) → is_number_of vars name first ≡ true → Keeps other vars (fin.insert vars next_name first)
  next_keeps first is =
      let w = fin.insert vars next_name first in
      let alike = insert_alike first vars in
      let good = good_alike other vars w alike (order_same vars w (value-insert_other vars next_name first order_name (λ s. next_not_order (sym s)))) in
      let next = next_alike other vars w alike ∙ ap (λ (o : Option (List ℕ)). option_map_or (is_number_of vars other) o false) (value-insert_same vars next_name first) ∙ not_others first is in (
        (λ down. down_from w other next (good ∙ (down_parts vars other down).1)),
        (λ some. good ∙ some),
      )

  primary_keeps_with : (use_next : Bool) (numbers : List (List ℕ)) (after : Variables) → OnFirst (λ first. is_number_of vars name first ≡ true) numbers → primary_with use_next numbers name vars ≡ Some after → Keeps other vars after
  primary_keeps_with use_next [] after is h = absurd (cc)
  primary_keeps_with true (first ∷ more) after is h = subst (λ (w : Variables). Keeps other vars w) (same_Some _ after h) (next_keeps first is)
  primary_keeps_with false (first ∷ more) after is h =
      subst (λ (w : Variables). Keeps other vars w) (same_Some _ after h)
      (led_keeps first (fin.remove vars next_name) (remove_alike vars) is
      (λ none. ap (λ (o : Option (List ℕ)). option_map_or (is_number_of vars other) o false) (value-remove_same vars next_name)))

pub bad_keeps : (name other : List ℕ) (vars after : Variables) → other ≢ name → marked_bad name vars ≡ Some after → Keeps other vars after
bad_keeps name other vars after ne h = bad_keeps_with name other vars ne (numbers_of vars name) after h

pub good_keeps : (name other : List ℕ) (vars after : Variables) → other ≢ name → marked_good name vars ≡ Some after → Keeps other vars after
good_keeps name other vars after ne h = good_keeps_with name other vars ne (numbers_of vars name) after (first_is vars name) h

pub primary_keeps : (use_next : Bool) (name other : List ℕ) (vars after : Variables) → other ≢ name → made_primary use_next name vars ≡ Some after → Keeps other vars after
primary_keeps use_next name other vars after ne h = primary_keeps_with name other vars ne use_next (numbers_of vars name) after (first_is vars name) h

-- ---- the primary name has a number

module _ (vars : Variables) (names : List (List ℕ)) (name : List ℕ) where
  named : (number : List ℕ) → name_at vars names number ≡ Some name → is_number_of vars name number ≡ true
  named number =
      elim (label_of vars number) as (λ o. option_and_then (λ label. cond (has_word names label) (Some label) None) o ≡ Some name → option_map_or (λ label. bytes_eq label name) o false ≡ true) [
        | None ↦ λ h. absurd (cc)
        | Some label ↦ λ h. (bytes_eq-Decides label name).1 (cond_some (has_word names label) label name h).1
      ]

  from_next : next_of vars names ≡ Some name → is_next vars name ≡ true
  from_next =
      elim (value vars next_name) as (λ o. option_and_then (name_at vars names) o ≡ Some name → option_map_or (is_number_of vars name) o false ≡ true) [
        | None ↦ λ h. absurd (cc)
        | Some number ↦ λ h. named number h
      ]

  from_first : first_of vars names ≡ Some name → is_good vars name ≡ true
  from_first h =
      option_and_then_some (name_at vars names) (find (λ number. is_some (name_at vars names number)) (order_of vars)) name h
      (λ number found s. any_found (λ k. is_some (name_at vars names k)) (is_number_of vars name) (order_of vars) number found (named number s))

  either : (o p : Option (List ℕ)) → (o ≡ Some name → ⊥) → (p ≡ Some name → ⊥) → option_or o p ≡ Some name → ⊥
  either None p a b h = b h
  either (Some x) p a b h = a h

pub not_primary : (vars : Variables) (names : List (List ℕ)) (name : List ℕ) → is_down vars name ≡ true → primary vars names ≢ Some name
not_primary vars names name down =
    let parts = down_parts vars name down in
    either vars names name (next_of vars names) (first_of vars names)
    (λ e. true≢false (sym (from_next vars names name e) ∙ parts.0))
    (λ e. true≢false (sym (from_first vars names name e) ∙ parts.1))

-- ---- a name that was made primary is primary

module _ (names : List (List ℕ)) (name : List ℕ) (vars : Variables) (has : has_word names name ≡ true) where
  labelled : (number : List ℕ) → is_number_of vars name number ≡ true → label_of vars number ≡ Some name
  labelled number =
      elim (label_of vars number) as (λ o. option_map_or (λ label. bytes_eq label name) o false ≡ true → o ≡ Some name) [
        | None ↦ λ h. absurd (true≢false (sym h))
        | Some label ↦ λ h. ap (λ (l : List ℕ). Some l) ((bytes_eq-Decides label name).0 h)
      ]

  name_found : (w : Variables) (number : List ℕ) → Alike w vars → is_number_of vars name number ≡ true → name_at w names number ≡ Some name
  name_found w number alike is =
      ap (option_and_then (λ (label : List ℕ). cond (has_word names label) (Some label) None)) (alike number ∙ labelled number is)
      ∙ ap (λ (b : Bool). cond b (Some name) None) has

  led_first : (first : List ℕ) → is_number_of vars name first ≡ true → primary (with_order (first ∷ rest_of vars name) (fin.remove vars next_name)) names ≡ Some name
  led_first first is =
      let w = fin.remove vars next_name in
      let words = first ∷ rest_of vars name in
      let after = with_order words w in
      let found = name_found after first (λ number. order_alike words w number ∙ remove_alike vars number) is in
      let next : value after next_name ≡ None = value-put_other w order_name (joined 44 words) next_name next_not_order ∙ value-remove_same vars next_name in
      let test = λ (number : List ℕ). is_some (name_at after names number) in
      let orders = words-put is_comma 44 refl w order_name words (first_uncut vars name first is) in
      ap (λ (o : Option (List ℕ)). option_or (option_and_then (name_at after names) o) (first_of after names)) next
      ∙ ap (λ (ws : List (List ℕ)). option_and_then (name_at after names) (find test ws)) orders
      ∙ ap (option_and_then (name_at after names)) (first_found test first (rest_of vars name) (ap is_some found))
      ∙ found

  next_first : (first : List ℕ) → is_number_of vars name first ≡ true → primary (fin.insert vars next_name first) names ≡ Some name
  next_first first is =
      let after = fin.insert vars next_name first in
      ap (λ (o : Option (List ℕ)). option_or (option_and_then (name_at after names) o) (first_of after names)) (value-insert_same vars next_name first)
      ∙ ap (λ (o : Option (List ℕ)). option_or o (first_of after names)) (name_found after first (insert_alike first vars) is)

  is_primary_with : (use_next : Bool) (numbers : List (List ℕ)) (after : Variables) → OnFirst (λ first. is_number_of vars name first ≡ true) numbers → primary_with use_next numbers name vars ≡ Some after → primary after names ≡ Some name
  is_primary_with use_next [] after is h = absurd (cc)
  is_primary_with true (first ∷ more) after is h = subst (λ (w : Variables). primary w names ≡ Some name) (same_Some _ after h) (next_first first is)
  is_primary_with false (first ∷ more) after is h = subst (λ (w : Variables). primary w names ≡ Some name) (same_Some _ after h) (led_first first is)

pub is_primary : (use_next : Bool) (names : List (List ℕ)) (name : List ℕ) (vars after : Variables) → has_word names name ≡ true → made_primary use_next name vars ≡ Some after → primary after names ≡ Some name
is_primary use_next names name vars after has h = is_primary_with names name vars has use_next (numbers_of vars name) after (first_is vars name) h
