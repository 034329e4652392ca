-- What the code for types does at each letter.
use Rattle.std.proofs.Common.{◌≡◌, ℕ, zero, suc, ◌+◌, ◌-◌, ◌<◌, ◌≤◌, true, false, ◌||◌, eqb, List, [], length, drop, Option, Some, None, refl, sym, ap, ◌∙◌, arith}
use Rattle.std.proofs.lemmas.List.{nil_from_length}
use Rattle.wire_value.specs.Reading.{◌>>=◌, is_basic, basic_of, head, closed, item_rest, types_until, type_at, one_type, are_types}
use Rattle.wire_value.proofs.Steps.{is_not}

at_leaf : (m a st : ℕ) (s : List ℕ) → (is_basic (head s) || eqb (head s) 118) ≡ true → type_at m a st s ≡ Some (drop 1 s)
unfolding type_at
at_leaf zero a st s e = rw e refl
at_leaf (suc m) a st s e = rw e refl

pub t_leaf : (a st : ℕ) (s : List ℕ) → (is_basic (head s) || eqb (head s) 118) ≡ true → type_at (a + st) a st s ≡ Some (drop 1 s)
t_leaf a st s e = at_leaf (a + st) a st s e

at_empty : (m a st : ℕ) → type_at m a st [] ≡ None
unfolding type_at basic_of
at_empty zero a st = refl
at_empty (suc m) a st = refl

pub t_empty : (a st : ℕ) (s : List ℕ) → length s ≡ 0 → type_at (a + st) a st s ≡ None
t_empty a st s e = rw (nil_from_length s e) (at_empty (a + st) a st)

at_no_array : (m a st : ℕ) (s : List ℕ) → head s ≡ 97 → a ≡ 0 → type_at m a st s ≡ None
unfolding type_at basic_of
at_no_array zero a st s e f = rw e refl
at_no_array (suc m) a st s e f = rw (e, f) refl

pub t_no_array : (a st : ℕ) (s : List ℕ) → head s ≡ 97 → a ≡ 0 → type_at (a + st) a st s ≡ None
t_no_array a st s e f = at_no_array (a + st) a st s e f

at_array : (m a st : ℕ) (s : List ℕ) → m ≡ a + st → head s ≡ 97 → (a ≡ 0 → ⊥) → type_at m a st s ≡ item_rest (type_at ((a - 1) + st) (a - 1) st) (drop 1 s)
unfolding type_at basic_of
at_array zero a st s is e f = absurd (f (omega arith))
at_array (suc m) a st s is e f =
    let n : m ≡ (a - 1) + st = grind arith in
    rw (e, is_not a 0 f) (ap (λ (x : ℕ). item_rest (type_at x (a - 1) st) (drop 1 s)) n)

pub t_array : (a st : ℕ) (s : List ℕ) → head s ≡ 97 → (a ≡ 0 → ⊥) → type_at (a + st) a st s ≡ item_rest (type_at ((a - 1) + st) (a - 1) st) (drop 1 s)
t_array a st s e f = at_array (a + st) a st s refl e f

at_no_struct : (m a st : ℕ) (s : List ℕ) → head s ≡ 40 → st ≡ 0 → type_at m a st s ≡ None
unfolding type_at basic_of
at_no_struct zero a st s e f = rw e refl
at_no_struct (suc m) a st s e f = rw (e, f) refl

pub t_no_struct : (a st : ℕ) (s : List ℕ) → head s ≡ 40 → st ≡ 0 → type_at (a + st) a st s ≡ None
t_no_struct a st s e f = at_no_struct (a + st) a st s e f

abbrev pub struct_rest : ℕ → ℕ → List ℕ → Option (List ℕ)
struct_rest a st s = type_at (a + st) a st s >>= types_until (type_at (a + st) a st) (length s)

at_struct : (m a st : ℕ) (s : List ℕ) → m ≡ a + st → head s ≡ 40 → (st ≡ 0 → ⊥) → type_at m a st s ≡ struct_rest a (st - 1) (drop 1 s)
unfolding type_at basic_of
at_struct zero a st s is e f = absurd (f (omega arith))
at_struct (suc m) a st s is e f =
    let n : m ≡ a + (st - 1) = grind arith in
    rw (e, is_not st 0 f) (ap (λ (x : ℕ). type_at x a (st - 1) (drop 1 s) >>= types_until (type_at x a (st - 1)) (length (drop 1 s))) n)

pub t_struct : (a st : ℕ) (s : List ℕ) → head s ≡ 40 → (st ≡ 0 → ⊥) → type_at (a + st) a st s ≡ struct_rest a (st - 1) (drop 1 s)
t_struct a st s e f = at_struct (a + st) a st s refl e f

pub t_struct_none : (a st : ℕ) (s : List ℕ) → head s ≡ 40 → (st ≡ 0 → ⊥) → None ≡ type_at (a + (st - 1)) a (st - 1) (drop 1 s) → type_at (a + st) a st s ≡ None
t_struct_none a st s e f h = t_struct a st s e f ∙ rw (sym h) refl

pub t_struct_some : (a st : ℕ) (s x : List ℕ) → head s ≡ 40 → (st ≡ 0 → ⊥) → Some x ≡ type_at (a + (st - 1)) a (st - 1) (drop 1 s)
    → type_at (a + st) a st s ≡ types_until (type_at (a + (st - 1)) a (st - 1)) (length (drop 1 s)) x
t_struct_some a st s x e f h = t_struct a st s e f ∙ rw (sym h) refl

at_other : (m a st : ℕ) (s : List ℕ) → (is_basic (head s) || eqb (head s) 118) ≡ false → (head s ≡ 97 → ⊥) → (head s ≡ 40 → ⊥) → type_at m a st s ≡ None
unfolding type_at
at_other zero a st s e f h = rw e refl
at_other (suc m) a st s e f h = rw (e, is_not (head s) 97 f, is_not (head s) 40 h) refl

pub t_other : (a st : ℕ) (s : List ℕ) → (is_basic (head s) || eqb (head s) 118) ≡ false → (head s ≡ 97 → ⊥) → (head s ≡ 40 → ⊥) → type_at (a + st) a st s ≡ None
t_other a st s e f h = at_other (a + st) a st s e f h

-- ---- an array's item

module _ (one : List ℕ → Option (List ℕ)) where
  pub i_type : (s : List ℕ) → (head s ≡ 123 → ⊥) → item_rest one s ≡ one s
  unfolding item_rest
  i_type s e = rw (is_not (head s) 123 e) refl

  pub i_no_key : (s : List ℕ) → head s ≡ 123 → is_basic (head (drop 1 s)) ≡ false → item_rest one s ≡ None
  unfolding item_rest
  i_no_key s e f = rw (e, f) refl

  pub i_none : (s : List ℕ) → head s ≡ 123 → is_basic (head (drop 1 s)) ≡ true → None ≡ one (drop 1 (drop 1 s)) → item_rest one s ≡ None
  unfolding item_rest
  i_none s e f g = rw (e, f, sym g) refl

  pub i_open : (s r : List ℕ) → head s ≡ 123 → is_basic (head (drop 1 s)) ≡ true → Some r ≡ one (drop 1 (drop 1 s)) → (head r ≡ 125 → ⊥) → item_rest one s ≡ None
  unfolding item_rest closed
  i_open s r e f g h = rw (e, f, sym g, is_not (head r) 125 h) refl

  pub i_entry : (s r : List ℕ) → head s ≡ 123 → is_basic (head (drop 1 s)) ≡ true → Some r ≡ one (drop 1 (drop 1 s)) → head r ≡ 125 → item_rest one s ≡ Some (drop 1 r)
  unfolding item_rest closed
  i_entry s r e f g h = rw (e, f, sym g, h) refl

module _ (one : List ℕ → Option (List ℕ)) where
  pub u_end : (most i : ℕ) (s : List ℕ) → i < most → head s ≡ 41 → types_until one (most - i) s ≡ Some (drop 1 s)
  unfolding types_until
  u_end most i s lt e =
      let n : most - i ≡ suc (most - (i + 1)) = omega arith in
      rw n (rw e refl)

  pub u_none : (most i : ℕ) (s : List ℕ) → i < most → (head s ≡ 41 → ⊥) → None ≡ one s → types_until one (most - i) s ≡ None
  unfolding types_until
  u_none most i s lt e f =
      let n : most - i ≡ suc (most - (i + 1)) = omega arith in
      rw n (rw (is_not (head s) 41 e, sym f) refl)

  pub u_more : (most i : ℕ) (s r : List ℕ) → i < most → (head s ≡ 41 → ⊥) → Some r ≡ one s → types_until one (most - i) s ≡ types_until one (most - (i + 1)) r
  unfolding types_until
  u_more most i s r lt e f =
      let n : most - i ≡ suc (most - (i + 1)) = omega arith in
      rw n (rw (is_not (head s) 41 e, sym f) refl)

  pub u_out : (most i : ℕ) (s : List ℕ) → most ≤ i → types_until one (most - i) s ≡ None
  unfolding types_until
  u_out most i s le =
      let n : most - i ≡ 0 = omega arith in
      rw n refl

no_types : (g : ℕ) → are_types g [] ≡ true
unfolding are_types
no_types zero = refl
no_types (suc g) = refl

pub a_done : (n i : ℕ) (s : List ℕ) → length s ≡ 0 → are_types (n - i) s ≡ true
a_done n i s e = rw (nil_from_length s e) (no_types (n - i))

pub a_none : (n i : ℕ) (s : List ℕ) → i < n → (length s ≡ 0 → ⊥) → None ≡ one_type s → are_types (n - i) s ≡ false
unfolding are_types
a_none n i s lt e f =
    let m : n - i ≡ suc (n - (i + 1)) = omega arith in
    rw m (rw (is_not (length s) 0 e, sym f) refl)

pub a_more : (n i : ℕ) (s r : List ℕ) → i < n → (length s ≡ 0 → ⊥) → Some r ≡ one_type s → are_types (n - i) s ≡ are_types (n - (i + 1)) r
unfolding are_types
a_more n i s r lt e f =
    let m : n - i ≡ suc (n - (i + 1)) = omega arith in
    rw m (rw (is_not (length s) 0 e, sym f) refl)

pub a_out : (n i : ℕ) (s : List ℕ) → n ≤ i → are_types (n - i) s ≡ eqb (length s) 0
unfolding are_types
a_out n i s le =
    let m : n - i ≡ 0 = omega arith in
    rw m refl
