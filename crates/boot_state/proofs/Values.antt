-- Variables after a change, names of variables that differ, and what a search or a filter keeps.
use Rattle.std.proofs.Common.{◌≡◌, ◌≢◌, ℕ, Bool, true, false, cond, not, ◌||◌, eqb, List, [], ◌∷◌, ◌++◌, Some, None, refl, sym, ◌∙◌, ap, subst}
use Rattle.std.specs.Prelude.{filter, find}
use Rattle.std.specs.FinMap as fin
use Rattle.std.specs.FinMap.{get-insert, get-remove}
use Rattle.std.specs.Cmp.Lexicographic.{nat_list_cmp_total}
use Rattle.std.specs.List.{list_any}
use Rattle.std.specs.Str.{bytes_eq}
use Rattle.std.proofs.lemmas.Bool.{eq-eqb, not-true, or_from, or_parts, true≢false}
use Rattle.std.proofs.lemmas.Map.Text.{is_eq-slice_cmp}
use Rattle.std.proofs.lemmas.Option.{same_Some}
use Rattle.std.proofs.lemmas.Slice.Eq.{bytes_eq-Decides}
use Rattle.boot_model.specs.Vars.{Variables}
use Rattle.boot_state.specs.Orders.{put, value}
use Rattle.boot_state.proofs.Lookups.{bytes_eq_other}

pub bytes_eq_same : (p : List ℕ) → bytes_eq p p ≡ true
bytes_eq_same p = (bytes_eq-Decides p p).1 refl

pub both_true : (b : Bool) → b ≡ true → not b ≡ true → ⊥
both_true b is not_is = true≢false (sym is ∙ not-true b not_is)

-- ---- a map after a change

pub value-insert : (vars : Variables) (name text q : List ℕ) → value (fin.insert vars name text) q ≡ cond (bytes_eq q name) (Some text) (value vars q)
value-insert vars name text q = get-insert nat_list_cmp_total vars name text q ∙ ap (λ (b : Bool). cond b (Some text) (value vars q)) (is_eq-slice_cmp q name)

pub value-insert_same : (vars : Variables) (name text : List ℕ) → value (fin.insert vars name text) name ≡ Some text
value-insert_same vars name text = value-insert vars name text name ∙ ap (λ (b : Bool). cond b (Some text) (value vars name)) (bytes_eq_same name)

pub value-insert_other : (vars : Variables) (name text q : List ℕ) → q ≢ name → value (fin.insert vars name text) q ≡ value vars q
value-insert_other vars name text q other = value-insert vars name text q ∙ ap (λ (b : Bool). cond b (Some text) (value vars q)) (bytes_eq_other q name other)

pub value-remove : (vars : Variables) (name q : List ℕ) → value (fin.remove vars name) q ≡ cond (bytes_eq q name) None (value vars q)
value-remove vars name q = get-remove nat_list_cmp_total vars name q ∙ ap (λ (b : Bool). cond b None (value vars q)) (is_eq-slice_cmp q name)

pub value-remove_same : (vars : Variables) (name : List ℕ) → value (fin.remove vars name) name ≡ None
value-remove_same vars name = value-remove vars name name ∙ ap (λ (b : Bool). cond b None (value vars name)) (bytes_eq_same name)

pub value-remove_other : (vars : Variables) (name q : List ℕ) → q ≢ name → value (fin.remove vars name) q ≡ value vars q
value-remove_other vars name q other = value-remove vars name q ∙ ap (λ (b : Bool). cond b None (value vars q)) (bytes_eq_other q name other)

pub value-put_other : (vars : Variables) (name text q : List ℕ) → q ≢ name → value (put vars name text) q ≡ value vars q
value-put_other vars name [] q other = value-remove_other vars name q other
value-put_other vars name (byte ∷ more) q other = value-insert_other vars name (byte ∷ more) q other

-- ---- names of variables differ by their ends

abbrev pub last_of : ℕ → List ℕ → ℕ
last_of before [] = before
last_of before (byte ∷ more) = last_of byte more

pub last_of-behind : (front : List ℕ) (byte : ℕ) (more : List ℕ) (before : ℕ) → last_of before (front ++ byte ∷ more) ≡ last_of byte more
last_of-behind [] byte more before = refl
last_of-behind (first ∷ front) byte more before = last_of-behind front byte more first

pub numbers_differ : (k j : ℕ) → eqb k j ≡ false → k ≡ j → ⊥
numbers_differ k j differ e = true≢false (sym (eq-eqb k j e) ∙ differ)

-- ---- searches and filters

pub find_passes : {A : Type 0} (p : A → Bool) (xs : List A) (x : A) → find p xs ≡ Some x → p x ≡ true
find_passes p [] x h = absurd (cc)
find_passes {A = A} p (y ∷ ys) x h =
    elim (p y) as (λ b. p y ≡ b → cond b (Some y) (find p ys) ≡ Some x → p x ≡ true) [
      | true ↦ λ e s. subst (λ (z : A). p z ≡ true) (same_Some y x s) e
      | false ↦ λ e s. find_passes p ys x s
    ] refl h

-- what is found is one of them
pub any_found : {A : Type 0} (p q : A → Bool) (xs : List A) (x : A) → find p xs ≡ Some x → q x ≡ true → list_any q xs ≡ true
any_found p q [] x h is = absurd (cc)
any_found {A = A} p q (y ∷ ys) x h is =
    elim (p y) as (λ b. cond b (Some y) (find p ys) ≡ Some x → (q y || list_any q ys) ≡ true) [
      | true ↦ λ s. ap (λ (b : Bool). b || list_any q ys) (ap q (same_Some y x s) ∙ is)
      | false ↦ λ s. elim (q y) as (λ b. (b || list_any q ys) ≡ true) [ true ↦ refl | false ↦ any_found p q ys x s is ]
    ] h

pub none_filtered : {A : Type 0} (p q : A → Bool) (xs : List A) → list_any p xs ≡ false → list_any p (filter q xs) ≡ false
none_filtered p q [] h = refl
none_filtered p q (x ∷ xs) h =
    let parts = or_parts (p x) (list_any p xs) h in
    elim (q x) as (λ b. list_any p (cond b (x ∷ filter q xs) (filter q xs)) ≡ false) [
      | true ↦ or_from (p x) (list_any p (filter q xs)) parts.0 (none_filtered p q xs parts.1)
      | false ↦ none_filtered p q xs parts.1
    ]

pub any_filtered : {A : Type 0} (p q : A → Bool) (xs : List A) → ((x : A) → p x ≡ true → q x ≡ true) → list_any p xs ≡ true → list_any p (filter q xs) ≡ true
any_filtered p q [] keeps h = h
any_filtered p q (x ∷ xs) keeps h =
    elim (q x) as (λ b. q x ≡ b → list_any p (cond b (x ∷ filter q xs) (filter q xs)) ≡ true) [
      | true ↦ λ e. elim (p x) as (λ b. (b || list_any p xs) ≡ true → (b || list_any p (filter q xs)) ≡ true) [ true ↦ λ s. refl | false ↦ λ s. any_filtered p q xs keeps s ] h
      | false ↦ λ e. elim (p x) as (λ b. p x ≡ b → (b || list_any p xs) ≡ true → list_any p (filter q xs) ≡ true) [
        | true ↦ λ is s. absurd (true≢false (sym (keeps x is) ∙ e))
        | false ↦ λ is s. any_filtered p q xs keeps s
      ] refl h
    ] refl

pub none_left : {A : Type 0} (p : A → Bool) (xs : List A) → list_any p (filter (λ x. not (p x)) xs) ≡ false
none_left p [] = refl
none_left p (x ∷ xs) =
    elim (p x) as (λ b. p x ≡ b → list_any p (cond (not b) (x ∷ filter (λ x. not (p x)) xs) (filter (λ x. not (p x)) xs)) ≡ false) [
      | true ↦ λ e. none_left p xs
      | false ↦ λ e. or_from (p x) (list_any p (filter (λ x. not (p x)) xs)) e (none_left p xs)
    ] refl

-- the first one, where there is one
abbrev pub OnFirst : {A : Type 0} → (A → Type 0) → List A → Type 0
OnFirst P [] = Unit {0}
OnFirst P (x ∷ xs) = P x

pub first_filtered : {A : Type 0} (p : A → Bool) (xs : List A) → OnFirst (λ x. p x ≡ true) (filter p xs)
first_filtered p [] = tt
first_filtered p (x ∷ xs) =
    elim (p x) as (λ b. p x ≡ b → OnFirst (λ y. p y ≡ true) (cond b (x ∷ filter p xs) (filter p xs))) [
      | true ↦ λ e. e
      | false ↦ λ e. first_filtered p xs
    ] refl

pub first_found : {A : Type 0} (p : A → Bool) (x : A) (xs : List A) → p x ≡ true → find p (x ∷ xs) ≡ Some x
first_found p x xs is = ap (λ (b : Bool). cond b (Some x) (find p xs)) is
