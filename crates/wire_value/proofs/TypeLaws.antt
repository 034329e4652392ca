-- What is read as a type is written so, and what a type writes is read.
use Rattle.std.proofs.Common.{◌≡◌, ℕ, zero, suc, ◌+◌, ◌-◌, ◌<◌, ◌≤◌, Bool, true, false, ◌||◌, cond, eqb, List, [], ◌∷◌, ◌++◌, length, get_or, drop, Option, Some, None, refl, sym, ap, subst, ◌∙◌, append_assoc, arith, inl, inr, ◌⊎◌}
use Rattle.std.proofs.lemmas.Bool.{or_cases, eqb-true}
use Rattle.std.proofs.lemmas.List.{length-append}
use Rattle.wire_value.specs.Types.{byte, boolean, int16, uint16, int32, uint32, int64, uint64, double, unix_fd, string, object_path, signature, Basic, fixed, textual, letter, Kind, Kinds, ty_basic, ty_variant, ty_array, ty_dict, ty_struct, no_kinds, and_kind, text, texts, arrays, structs, all_arrays, all_structs, IsType}
use Rattle.wire_value.specs.Reading.{◌>>=◌, if_some, with_letter, basics, basic_of, is_basic, types_until, closed, item_rest, type_at}
use Rattle.wire_value.proofs.Steps.{bind_some, some_is, if_some_is, suc_is_not}

-- ---- letters

pub basic_again : (b : Basic) → basic_of (letter b) ≡ Some b
unfolding basic_of
basic_again (fixed byte) = refl
basic_again (fixed boolean) = refl
basic_again (fixed int16) = refl
basic_again (fixed uint16) = refl
basic_again (fixed int32) = refl
basic_again (fixed uint32) = refl
basic_again (fixed int64) = refl
basic_again (fixed uint64) = refl
basic_again (fixed double) = refl
basic_again (fixed unix_fd) = refl
basic_again (textual string) = refl
basic_again (textual object_path) = refl
basic_again (textual signature) = refl

pub basic_leaf : (b : Basic) → is_basic (letter b) ≡ true
basic_leaf b = rw (basic_again b) refl

pub chosen : {A : Type 0} (b : Bool) (x y : Option A) (z : A) → cond b x y ≡ Some z → ((b ≡ true) × (x ≡ Some z)) ⊎ ((b ≡ false) × (y ≡ Some z))
chosen true x y z e = inl (refl, e)
chosen false x y z e = inr (refl, e)

pub none_some : {A : Type 0} (x : A) → None ≡ Some x → ⊥
none_some x e = cc

with_letter_is : (c : ℕ) (bs : List Basic) (b : Basic) → with_letter c bs ≡ Some b → c ≡ letter b
with_letter_is c [] b e = absurd (none_some b e)
with_letter_is c (x ∷ bs) b e =
    elim (chosen (eqb c (letter x)) (Some x) (with_letter c bs) b e) [
      | inl h ↦ eqb-true _ _ h.0 ∙ ap letter (some_is x b h.1)
      | inr h ↦ with_letter_is c bs b h.1
    ]

pub letter_is : (c : ℕ) (b : Basic) → basic_of c ≡ Some b → c ≡ letter b
unfolding basic_of
letter_is c b e = with_letter_is c basics b e

some_basic : (o : Option Basic) → if_some o (λ b. true) ≡ true → (b : Basic) × (o ≡ Some b)
some_basic (Some b) e = (b, refl)
some_basic None e = absurd cc

pub basic_letter : (c : ℕ) → is_basic c ≡ true → (b : Basic) × (c ≡ letter b)
basic_letter c e = let h = some_basic (basic_of c) e in (h.0, letter_is c h.0 h.1)

pub letter_some : (b : Basic) → 0 < letter b
letter_some (fixed byte) = omega arith
letter_some (fixed boolean) = omega arith
letter_some (fixed int16) = omega arith
letter_some (fixed uint16) = omega arith
letter_some (fixed int32) = omega arith
letter_some (fixed uint32) = omega arith
letter_some (fixed int64) = omega arith
letter_some (fixed uint64) = omega arith
letter_some (fixed double) = omega arith
letter_some (fixed unix_fd) = omega arith
letter_some (textual string) = omega arith
letter_some (textual object_path) = omega arith
letter_some (textual signature) = omega arith

pub not_end : (b : Basic) → eqb (letter b) 41 ≡ false
not_end (fixed byte) = refl
not_end (fixed boolean) = refl
not_end (fixed int16) = refl
not_end (fixed uint16) = refl
not_end (fixed int32) = refl
not_end (fixed uint32) = refl
not_end (fixed int64) = refl
not_end (fixed uint64) = refl
not_end (fixed double) = refl
not_end (fixed unix_fd) = refl
not_end (textual string) = refl
not_end (textual object_path) = refl
not_end (textual signature) = refl

pub not_brace : (b : Basic) → eqb (letter b) 123 ≡ false
not_brace (fixed byte) = refl
not_brace (fixed boolean) = refl
not_brace (fixed int16) = refl
not_brace (fixed uint16) = refl
not_brace (fixed int32) = refl
not_brace (fixed uint32) = refl
not_brace (fixed int64) = refl
not_brace (fixed uint64) = refl
not_brace (fixed double) = refl
not_brace (fixed unix_fd) = refl
not_brace (textual string) = refl
not_brace (textual object_path) = refl
not_brace (textual signature) = refl

pub not_array : (b : Basic) → eqb (letter b) 97 ≡ false
not_array (fixed byte) = refl
not_array (fixed boolean) = refl
not_array (fixed int16) = refl
not_array (fixed uint16) = refl
not_array (fixed int32) = refl
not_array (fixed uint32) = refl
not_array (fixed int64) = refl
not_array (fixed uint64) = refl
not_array (fixed double) = refl
not_array (fixed unix_fd) = refl
not_array (textual string) = refl
not_array (textual object_path) = refl
not_array (textual signature) = refl

pub not_struct : (b : Basic) → eqb (letter b) 40 ≡ false
not_struct (fixed byte) = refl
not_struct (fixed boolean) = refl
not_struct (fixed int16) = refl
not_struct (fixed uint16) = refl
not_struct (fixed int32) = refl
not_struct (fixed uint32) = refl
not_struct (fixed int64) = refl
not_struct (fixed uint64) = refl
not_struct (fixed double) = refl
not_struct (fixed unix_fd) = refl
not_struct (textual string) = refl
not_struct (textual object_path) = refl
not_struct (textual signature) = refl

pub not_variant : (b : Basic) → eqb (letter b) 118 ≡ false
not_variant (fixed byte) = refl
not_variant (fixed boolean) = refl
not_variant (fixed int16) = refl
not_variant (fixed uint16) = refl
not_variant (fixed int32) = refl
not_variant (fixed uint32) = refl
not_variant (fixed int64) = refl
not_variant (fixed uint64) = refl
not_variant (fixed double) = refl
not_variant (fixed unix_fd) = refl
not_variant (textual string) = refl
not_variant (textual object_path) = refl
not_variant (textual signature) = refl

-- ---- types

array_letter : is_basic 97 ≡ false
unfolding basic_of
array_letter = refl

struct_letter : is_basic 40 ≡ false
unfolding basic_of
struct_letter = refl

variant_letter : is_basic 118 ≡ false
unfolding basic_of
variant_letter = refl

pub text_len : (k : Kind) → 1 ≤ length (text k)
text_len (ty_basic b) = omega arith
text_len ty_variant = omega arith
text_len (ty_array k) = omega arith
text_len (ty_dict b k) = omega arith
text_len (ty_struct k ks) = omega arith

until_more : (one : List ℕ → Option (List ℕ)) (g : ℕ) (k : Kind) (x : List ℕ) → types_until one (suc g) (text k ++ x) ≡ (one (text k ++ x) >>= types_until one g)
unfolding types_until
until_more one g (ty_basic b) x = rw (not_end b) refl
until_more one g ty_variant x = refl
until_more one g (ty_array k) x = refl
until_more one g (ty_dict b k) x = refl
until_more one g (ty_struct k ks) x = refl

until_end : (one : List ℕ → Option (List ℕ)) (g : ℕ) (rest : List ℕ) → types_until one (suc g) (41 ∷ rest) ≡ Some rest
unfolding types_until
until_end one g rest = refl

closed_again : (rest : List ℕ) → closed (125 ∷ rest) ≡ Some rest
unfolding closed
closed_again rest = refl

-- a type that is no dict entry's, as an item
item_again : (one : List ℕ → Option (List ℕ)) (k : Kind) (x : List ℕ) → item_rest one (text k ++ x) ≡ one (text k ++ x)
unfolding item_rest
item_again one (ty_basic b) x = rw (not_brace b) refl
item_again one ty_variant x = refl
item_again one (ty_array k) x = refl
item_again one (ty_dict b k) x = refl
item_again one (ty_struct k ks) x = refl

entry_again : (one : List ℕ → Option (List ℕ)) (b : Basic) (k : Kind) (rest : List ℕ) → one (text k ++ (125 ∷ rest)) ≡ Some (125 ∷ rest)
    → item_rest one (123 ∷ (letter b ∷ ((text k ++ 125 ∷ []) ++ rest))) ≡ Some rest
unfolding item_rest
entry_again one b k rest e =
    let s : (text k ++ 125 ∷ []) ++ rest ≡ text k ++ (125 ∷ rest) = append_assoc (text k) (125 ∷ []) rest in
    rw (basic_leaf b, s, e) (closed_again rest)

struct_step : (m a b st : ℕ) (x y z : List ℕ) → b ≡ st → x ≡ y → type_at m a st y ≡ Some z
    → (type_at m a b x >>= types_until (type_at m a b) (length x)) ≡ types_until (type_at m a st) (length y) z
struct_step m a b st x y z e f h = subst (λ (b : ℕ). (type_at m a b x >>= types_until (type_at m a b) (length x)) ≡ types_until (type_at m a st) (length y) z) (sym e)
    (subst (λ (x : List ℕ). (type_at m a st x >>= types_until (type_at m a st) (length x)) ≡ types_until (type_at m a st) (length y) z) (sym f) (rw h refl))

mutual
  unfolding type_at

  pub type_again : (k : Kind) (m a st : ℕ) (rest : List ℕ) → arrays k ≤ a → structs k ≤ st → a + st ≤ m → type_at m a st (text k ++ rest) ≡ Some rest
  type_again (ty_basic b) zero a st rest p q h = rw (basic_leaf b) refl
  type_again (ty_basic b) (suc m) a st rest p q h = rw (basic_leaf b) refl
  type_again ty_variant zero a st rest p q h = rw variant_letter refl
  type_again ty_variant (suc m) a st rest p q h = rw variant_letter refl
  type_again (ty_array k) zero a st rest p q h = absurd (omega arith)
  type_again (ty_array k) (suc m) zero st rest p q h = absurd (omega arith)
  type_again (ty_array k) (suc m) (suc a) st rest p q h =
      let e : suc a - 1 ≡ a = omega arith in
      rw (array_letter, suc_is_not) (ap (λ (x : ℕ). item_rest (type_at m x st) (text k ++ rest)) e ∙ item_again (type_at m a st) k rest ∙ type_again k m a st rest (omega arith) q (omega arith))
  type_again (ty_dict b k) zero a st rest p q h = absurd (omega arith)
  type_again (ty_dict b k) (suc m) zero st rest p q h = absurd (omega arith)
  type_again (ty_dict b k) (suc m) (suc a) st rest p q h =
      let e : suc a - 1 ≡ a = omega arith in
      rw (array_letter, suc_is_not) (ap (λ (x : ℕ). item_rest (type_at m x st) (123 ∷ (letter b ∷ ((text k ++ 125 ∷ []) ++ rest)))) e
      ∙ entry_again (type_at m a st) b k rest (type_again k m a st (125 ∷ rest) (omega arith) q (omega arith)))
  type_again (ty_struct k ks) zero a st rest p q h = absurd (omega arith)
  type_again (ty_struct k ks) (suc m) a zero rest p q h = absurd (omega arith)
  type_again (ty_struct k ks) (suc m) a (suc st) rest p q h =
      let e : suc st - 1 ≡ st = omega arith in
      let s : (text k ++ (texts ks ++ 41 ∷ [])) ++ rest ≡ text k ++ (texts ks ++ (41 ∷ rest)) = simp append_assoc in
      let first = type_again k m a st (texts ks ++ (41 ∷ rest)) (omega arith) (omega arith) (omega arith) in
      let long : length (texts ks) < length (text k ++ (texts ks ++ (41 ∷ rest))) = omega (arith, length-append (text k) (texts ks ++ (41 ∷ rest)), length-append (texts ks) (41 ∷ rest)) in
      rw (struct_letter, suc_is_not) (struct_step m a (suc st - 1) st ((text k ++ (texts ks ++ 41 ∷ [])) ++ rest) (text k ++ (texts ks ++ (41 ∷ rest))) (texts ks ++ (41 ∷ rest)) e s first ∙ types_again ks m a st (length (text k ++ (texts ks ++ (41 ∷ rest)))) rest (omega arith) (omega arith) (omega arith) long)

  pub types_again : (ks : Kinds) (m a st g : ℕ) (rest : List ℕ) → all_arrays ks ≤ a → all_structs ks ≤ st → a + st ≤ m → length (texts ks) < g
      → types_until (type_at m a st) g (texts ks ++ (41 ∷ rest)) ≡ Some rest
  types_again ks m a st zero rest p q h lt = absurd (omega arith)
  types_again no_kinds m a st (suc g) rest p q h lt = until_end (type_at m a st) g rest
  types_again (and_kind k ks) m a st (suc g) rest p q h lt =
      let first = type_again k m a st (texts ks ++ (41 ∷ rest)) (omega arith) (omega arith) h in
      rw (append_assoc (text k) (texts ks) (41 ∷ rest), until_more (type_at m a st) g k (texts ks ++ (41 ∷ rest)), first)
      (types_again ks m a st g rest (omega arith) (omega arith) h (omega (arith, text_len k, length-append (text k) (texts ks))))

pub typed : (k : Kind) → arrays k ≤ 32 → structs k ≤ 32 → IsType (text k)
typed k a b = record { kind = k; is = refl; arrays = a; structs = b }

-- ---- what was read

pub record TakesType (a st : ℕ) (s rest : List ℕ) : Type 0 where
  pub kind : Kind
  pub is : s ≡ text kind ++ rest
  pub arrays : arrays kind ≤ a
  pub structs : structs kind ≤ st

pub record TakesTypes (a st : ℕ) (s rest : List ℕ) : Type 0 where
  pub kinds : Kinds
  pub is : s ≡ texts kinds ++ (41 ∷ rest)
  pub arrays : all_arrays kinds ≤ a
  pub structs : all_structs kinds ≤ st

leaf_takes : (a st c : ℕ) (s rest : List ℕ) → (is_basic c || eqb c 118) ≡ true → Some s ≡ Some rest → TakesType a st (c ∷ s) rest
leaf_takes a st c s rest h e =
    let same = some_is s rest e in
    elim (or_cases (is_basic c) (eqb c 118) h) [
      | inr v ↦ rw (eqb-true _ _ v, same) (record { kind = ty_variant; is = refl; arrays = omega arith; structs = omega arith })
      | inl v ↦
          let b = basic_letter c v in
          rw (b.1, same) (record { kind = ty_basic b.0; is = refl; arrays = omega arith; structs = omega arith })
    ]

pub headed : (s rest : List ℕ) (c : ℕ) → get_or s 0 0 ≡ c → drop 1 s ≡ rest → 0 < c → s ≡ c ∷ rest
headed [] rest c e f h = absurd (omega arith)
headed (x ∷ s) rest c e f h = cc

until_takes : (one : List ℕ → Option (List ℕ)) (a st : ℕ) → ((s rest : List ℕ) → one s ≡ Some rest → TakesType a st s rest)
    → (g : ℕ) (s rest : List ℕ) → types_until one g s ≡ Some rest → TakesTypes a st s rest
unfolding types_until
until_takes one a st takes zero s rest e = absurd cc
until_takes one a st takes (suc g) s rest e =
    elim (chosen (eqb (get_or s 0 0) 41) (Some (drop 1 s)) (one s >>= types_until one g) rest e) [
      | inl h ↦ record { kinds = no_kinds; is = headed s rest 41 (eqb-true _ _ h.0) (some_is (drop 1 s) rest h.1) (omega arith); arrays = omega arith; structs = omega arith }
      | inr h ↦
          let b = bind_some (one s) (types_until one g) rest h.1 in
          let first = takes s b.0 b.1 in
          let others = until_takes one a st takes g b.0 rest b.2 in
          record {
            kinds = and_kind first.kind others.kinds;
            is = first.is ∙ ap (λ (x : List ℕ). text first.kind ++ x) others.is ∙ sym (append_assoc (text first.kind) (texts others.kinds) (41 ∷ rest));
            arrays = omega (arith, first.arrays, others.arrays);
            structs = omega (arith, first.structs, others.structs);
          }
    ]

not_zero : {A : Type 0} (n : ℕ) (x : Option A) (y : A) → cond (eqb n 0) None x ≡ Some y → (0 < n) × (x ≡ Some y)
not_zero zero x y e = absurd cc
not_zero (suc n) x y e = (omega arith, rw suc_is_not at e)

-- an array's type, behind its letter
record TakesItem (a st : ℕ) (s rest : List ℕ) : Type 0 where
  pub kind : Kind
  pub is : 97 ∷ s ≡ text kind ++ rest
  pub arrays : arrays kind ≤ suc a
  pub structs : structs kind ≤ st

item_takes : (one : List ℕ → Option (List ℕ)) (a st : ℕ) → ((s rest : List ℕ) → one s ≡ Some rest → TakesType a st s rest)
    → (s rest : List ℕ) → item_rest one s ≡ Some rest → TakesItem a st s rest
unfolding item_rest closed
item_takes one a st takes s rest e =
    elim (chosen (eqb (get_or s 0 0) 123) _ (one s) rest e) [
      | inr h ↦
          let t = takes s rest h.1 in
          record { kind = ty_array t.kind; is = ap (λ (x : List ℕ). 97 ∷ x) t.is; arrays = omega (arith, t.arrays); structs = t.structs }
      | inl h ↦ elim (chosen (is_basic (get_or (drop 1 s) 0 0)) (one (drop 1 (drop 1 s)) >>= closed) None rest h.1) [
        | inr n ↦ absurd (none_some rest n.1)
        | inl h2 ↦
            let b = basic_letter _ h2.0 in
            let v = bind_some (one (drop 1 (drop 1 s))) closed rest h2.1 in
            let t = takes (drop 1 (drop 1 s)) v.0 v.1 in
            let c = if_some_is (eqb (get_or v.0 0 0) 125) (drop 1 v.0) rest v.2 in
            let close = headed v.0 rest 125 (eqb-true _ _ c.0) c.1 (omega arith) in
            let key = headed (drop 1 s) (drop 1 (drop 1 s)) (letter b.0) b.1 refl (letter_some b.0) in
            let brace = headed s (drop 1 s) 123 (eqb-true _ _ h.0) refl (omega arith) in
            let value : drop 1 (drop 1 s) ≡ (text t.kind ++ 125 ∷ []) ++ rest = t.is ∙ ap (λ (x : List ℕ). text t.kind ++ x) close ∙ sym (append_assoc (text t.kind) (125 ∷ []) rest) in
            record {
              kind = ty_dict b.0 t.kind;
              is = ap (λ (x : List ℕ). 97 ∷ x) (brace ∙ ap (λ (x : List ℕ). 123 ∷ x) (key ∙ ap (λ (x : List ℕ). letter b.0 ∷ x) value));
              arrays = omega (arith, t.arrays);
              structs = t.structs;
            }
      ]
    ]

abbrev nest_at : ℕ → ℕ → ℕ → List ℕ → ℕ → Option (List ℕ)
nest_at m a st s c = cond (eqb c 97) (cond (eqb a 0) None (item_rest (type_at m (a - 1) st) s)) (cond (eqb c 40) (cond (eqb st 0) None (type_at m a (st - 1) s >>= types_until (type_at m a (st - 1)) (length s))) None)

pub type_takes : (m a st : ℕ) (s rest : List ℕ) → type_at m a st s ≡ Some rest → TakesType a st s rest
unfolding type_at basic_of
type_takes zero a st [] rest e = absurd (none_some rest e)
type_takes (suc m) a st [] rest e = absurd (none_some rest e)
type_takes zero a st (c ∷ s) rest e =
    elim (chosen (is_basic c || eqb c 118) (Some s) None rest e) [ inl h ↦ leaf_takes a st c s rest h.0 h.1 | inr h ↦ absurd (none_some rest h.1) ]
type_takes (suc m) a st (c ∷ s) rest e =
    elim (chosen (is_basic c || eqb c 118) (Some s) (nest_at m a st s c) rest e) [
      | inl h ↦ leaf_takes a st c s rest h.0 h.1
      | inr h ↦ elim (chosen (eqb c 97) _ _ rest h.1) [
        | inl p ↦
            let q = not_zero a (item_rest (type_at m (a - 1) st) s) rest p.1 in
            let inner = item_takes (type_at m (a - 1) st) (a - 1) st (type_takes m (a - 1) st) s rest q.1 in
            rw (eqb-true _ _ p.0) (record { kind = inner.kind; is = inner.is; arrays = omega (arith, inner.arrays, q.0); structs = inner.structs })
        | inr n ↦ elim (chosen (eqb c 40) _ _ rest n.1) [
          | inl p ↦
              let q = not_zero st (type_at m a (st - 1) s >>= types_until (type_at m a (st - 1)) (length s)) rest p.1 in
              let b = bind_some (type_at m a (st - 1) s) (types_until (type_at m a (st - 1)) (length s)) rest q.1 in
              let first = type_takes m a (st - 1) s b.0 b.1 in
              let others = until_takes (type_at m a (st - 1)) a (st - 1) (type_takes m a (st - 1)) (length s) b.0 rest b.2 in
              let regroup : text first.kind ++ (texts others.kinds ++ (41 ∷ rest)) ≡ (text first.kind ++ (texts others.kinds ++ 41 ∷ [])) ++ rest = simp append_assoc in
              rw (eqb-true _ _ p.0) (record {
                kind = ty_struct first.kind others.kinds;
                is = ap (λ (x : List ℕ). 40 ∷ x) (first.is ∙ ap (λ (x : List ℕ). text first.kind ++ x) others.is ∙ regroup);
                arrays = omega (arith, first.arrays, others.arrays);
                structs = omega (arith, first.structs, others.structs, q.0);
              })
          | inr n ↦ absurd (none_some rest n.1)
        ]
      ]
    ]
