-- What is checked may stand where it was checked, and what may stand there passes.
use Rattle.std.proofs.Common.{◌≡◌, ℕ, zero, suc, ◌+◌, ◌-◌, ◌<◌, ◌≤◌, ◌^◌, Bool, true, false, ◌||◌, ◌&&◌, not, cond, eqb, leb, ltb, List, [], ◌∷◌, ◌++◌, length, take, drop, Option, Some, None, refl, sym, ap, subst, ◌∙◌, append_assoc, arith, inl, inr}
use Rattle.std.specs.Str.{bytes_eq}
use Rattle.std.proofs.lemmas.Bool.{false≢true, eqb-true, leb-true, ltb-true, le-leb, lt-ltb}
use Rattle.std.proofs.lemmas.Bool.Decides.{nat_tests}
use Rattle.std.proofs.lemmas.List.{length-append, take_at}
use Rattle.std.proofs.lemmas.Slice.Eq.{bytes_eq-Decides}
use Rattle.wire_value.specs.Types.{Textual, string, object_path, signature, letter, fixed_letter, textual_letter, width, Kind, Kinds, ty_basic, ty_variant, ty_array, ty_dict, ty_struct, no_kinds, and_kind, text, texts, arrays, structs, all_arrays, all_structs, IsType, IsItemType}
use Rattle.wire_value.specs.Plain.{Plain, number, words, array, struct, entry, variant, Plains, none, more, sig, sigs, nest, nests}
use Rattle.wire_value.specs.Spelling.{gap, first_item, below, IsTextual, spell, IsValue, AreValues, AreOf}
use Rattle.wire_value.specs.Sizes.{ends, end_all}
use Rattle.wire_value.specs.Reading.{◌>>=◌, head, is_end, one_type}
use Rattle.wire_value.specs.View.{bit}
use Rattle.wire_value.specs.Checking.{is_letter, is_textual, is_variant_type, within, array_within, checked, checked_items, checked_fields}
use Rattle.wire_value.proofs.Steps.{bind_some, if_some_is, both_true, string_takes, string_is}
use Rattle.wire_value.proofs.TypeLaws.{typed, headed, none_some, type_again, text_len, not_struct}
use Rattle.wire_value.proofs.Signatures.{signature_is, signature_again, single_is, single_again, take_front, long_is_not}
use Rattle.wire_value.proofs.Again.{type_goes_on}
use Rattle.wire_value.proofs.ReadSteps.{item_type, entry_type}
use Rattle.wire_value.proofs.Ends.{ends_is, end_is, grows, end_grows}

-- ---- tests

refused : {A : Type 0} (b : Bool) (x : Option A) (y : A) → cond b None x ≡ Some y → (b ≡ false) × (x ≡ Some y)
refused true x y e = absurd (none_some y e)
refused false x y e = (refl, e)

allowed : {A : Type 0} (b : Bool) (x : Option A) (y : A) → cond b x None ≡ Some y → (b ≡ true) × (x ≡ Some y)
allowed true x y e = (refl, e)
allowed false x y e = absurd (none_some y e)

neither : (a b : Bool) → (a || b) ≡ false → (a ≡ false) × (b ≡ false)
neither true b e = absurd (false≢true (sym e))
neither false b e = (refl, e)

not_not : (b : Bool) → not b ≡ false → b ≡ true
not_not true e = refl
not_not false e = absurd (false≢true (sym e))

not_zero : (d : ℕ) → eqb d 0 ≡ false → 1 ≤ d
not_zero zero e = absurd (false≢true (sym e))
not_zero (suc d) e = omega arith

letter_again : (c : ℕ) → is_letter c (c ∷ []) ≡ true
letter_again c = grind (arith, nat_tests)

letter_means : (c : ℕ) (s : List ℕ) → is_letter c s ≡ true → c ∷ [] ≡ s
letter_means c [] e = absurd (false≢true e)
letter_means c (x ∷ []) e = ap (λ (y : ℕ). y ∷ []) (sym (eqb-true x c (both_true (eqb (length (x ∷ [])) 1) (eqb x c) e).1))
letter_means c (x ∷ y ∷ s) e = absurd (omega (arith, eqb-true (length (x ∷ y ∷ s)) 1 (both_true (eqb (length (x ∷ y ∷ s)) 1) (eqb x c) e).0))

textual_means : (k : Textual) (t : List ℕ) → is_textual k t ≡ true → IsTextual k t
textual_means string t e = let b = both_true _ _ e in string_takes t (ltb-true _ _ b.1) b.0
textual_means object_path t e = let b = both_true _ _ e in let c = both_true _ _ b.0 in (string_takes t (ltb-true _ _ c.1) c.0, b.1)
textual_means signature t e = signature_is t e

textual_again : (k : Textual) (t : List ℕ) → IsTextual k t → is_textual k t ≡ true
textual_again string t h = let lt = lt-ltb _ _ h.short in rw (string_is t h, lt) refl
textual_again object_path t h = let lt = lt-ltb _ _ h.0.short in rw (string_is t h.0, lt, h.1) refl
textual_again signature t h = signature_again t h

variant_type : (t : List ℕ) → is_variant_type t ≡ true → IsType t × (length t ≤ 255)
variant_type t e = let b = both_true _ _ e in (single_is t b.1, leb-true _ _ b.0)

variant_again : (t : List ℕ) → IsType t → length t ≤ 255 → is_variant_type t ≡ true
variant_again t h le = let short = le-leb _ _ le in rw (short, single_again t h) refl

bytes_same : (xs ys : List ℕ) → bytes_eq xs ys ≡ true → xs ≡ ys
bytes_same xs ys e = (bytes_eq-Decides xs ys).0 e

bytes_again : (xs : List ℕ) → bytes_eq xs xs ≡ true
bytes_again xs = (bytes_eq-Decides xs xs).1 refl

-- ---- the types inside

record StructType (s : List ℕ) : Type 0 where
  pub kind : Kind
  pub kinds : Kinds
  pub is : s ≡ 40 ∷ (text kind ++ (texts kinds ++ 41 ∷ []))
  pub arrays : all_arrays (and_kind kind kinds) ≤ 32
  pub structs : all_structs (and_kind kind kinds) ≤ 32

struct_of : (k : Kind) (s : List ℕ) → s ≡ text k → arrays k ≤ 32 → structs k ≤ 32 → head s ≡ 40 → StructType s
struct_of (ty_basic b) s is u w e = absurd (false≢true (sym (not_struct b) ∙ rw (sym (ap head is), e) refl))
struct_of ty_variant s is u w e = absurd (omega (arith, ap head is))
struct_of (ty_array k) s is u w e = absurd (omega (arith, ap head is))
struct_of (ty_dict b k) s is u w e = absurd (omega (arith, ap head is))
struct_of (ty_struct k ks) s is u w e = record { kind = k; kinds = ks; is = is; arrays = omega arith; structs = omega arith }

struct_type : (s : List ℕ) → IsItemType s → head s ≡ 40 → StructType s
struct_type s t e = elim t [ inl h ↦ struct_of h.kind s h.is h.arrays h.structs e | inr h ↦ absurd (omega (arith, ap head h.is)) ]

module _ (little : Bool) (limit : ℕ) where
  pub record Checked (d : ℕ) (s : List ℕ) (n : ℕ) (v : Plain) (e : ℕ) : Type 0 where
    pub is : sig v ≡ s
    pub valid : IsValue little n v
    pub nest : nest v ≤ d
    pub ends : ends n v ≡ e
    pub within : e ≤ limit

  record CheckedItems (d : ℕ) (item : List ℕ) (n : ℕ) (vs : Plains) (e : ℕ) : Type 0 where
    pub valid : AreOf little item n vs
    pub nests : nests vs ≤ d
    pub ends : end_all n vs ≡ e
    pub within : e ≤ limit

  pub record CheckedFields (d : ℕ) (s : List ℕ) (n : ℕ) (vs : Plains) (e : ℕ) : Type 0 where
    pub is : sigs vs ≡ s
    pub valid : AreValues little n vs
    pub nests : nests vs ≤ d
    pub ends : end_all n vs ≡ e
    pub within : e ≤ limit

  within_is : (n e : ℕ) → within limit n ≡ Some e → (n ≡ e) × (e ≤ limit)
  within_is n e h = let g = if_some_is (leb n limit) n e h in (g.1, subst (λ (m : ℕ). m ≤ limit) g.1 (leb-true _ _ g.0))

  within_again : (n : ℕ) → n ≤ limit → within limit n ≡ Some n
  within_again n h = let t = le-leb _ _ h in rw t refl

  as_struct : (n : ℕ) (k : Kind) (ks : Kinds) (vs : Plains) → sigs vs ≡ text k ++ texts ks → AreValues little (n + gap 8 n) vs → IsValue little n (struct vs)
  as_struct n k ks none e h = absurd (omega (arith, ap length e, text_len k, length-append (text k) (texts ks)))
  as_struct n k ks (more v vs) e h = h

  mutual
    pub checked_means : (v : Plain) (d n e : ℕ) (s : List ℕ) → IsItemType s → checked limit d s n v ≡ Some e → Checked d s n v e
    checked_means (number f x) d n e s t h =
        let a = allowed (is_letter (fixed_letter f) s && ltb x (below f)) (within limit (n + gap (width f) n + width f)) e h in
        let b = both_true _ _ a.0 in
        let w = within_is _ e a.1 in
        record { is = letter_means _ s b.0; valid = ltb-true _ _ b.1; nest = omega arith; ends = w.0; within = w.1 }
    checked_means (words k x) d n e s t h =
        let a = allowed (is_letter (textual_letter k) s && is_textual k x) (within limit (ends n (words k x))) e h in
        let b = both_true _ _ a.0 in
        let w = within_is _ e a.1 in
        record { is = letter_means _ s b.0; valid = textual_means k x b.1; nest = omega arith; ends = w.0; within = w.1 }
    checked_means (array item vs) d n e s t h =
        let first = first_item item (n + gap 4 n + 4) in
        let a = refused (eqb d 0 || not (eqb (head s) 97 && bytes_eq (drop 1 s) item)) (checked_items limit (d - 1) item first vs >>= array_within first) e h in
        let b = neither _ _ a.0 in
        let some = not_zero d b.0 in
        let c = both_true _ _ (not_not _ b.1) in
        let same : drop 1 s ≡ item = bytes_same _ _ c.1 in
        let at_a : head s ≡ 97 = eqb-true _ _ c.0 in
        let inner : IsItemType item = subst IsItemType same (item_type s t at_a) in
        let o = bind_some (checked_items limit (d - 1) item first vs) (array_within first) e a.1 in
        let items = items_mean vs (d - 1) first o.0 item inner o.1 in
        let g = if_some_is (leb o.0 (first + 2 ^ 26)) o.0 e o.2 in
        let few = leb-true _ _ g.0 in
        record {
          is = ap (λ (x : List ℕ). 97 ∷ x) (sym same) ∙ sym (headed s (drop 1 s) 97 at_a refl (omega arith));
          valid = (inner, omega (arith, end_is little vs first, items.ends, few), items.valid);
          nest = omega (arith, items.nests, some);
          ends = items.ends ∙ g.1;
          within = subst (λ (m : ℕ). m ≤ limit) g.1 items.within;
        }
    checked_means (struct vs) d n e s t h =
        let a = refused (eqb d 0 || not (eqb (head s) 40)) (checked_fields limit (d - 1) (drop 1 s) (n + gap 8 n) vs) e h in
        let b = neither _ _ a.0 in
        let some = not_zero d b.0 in
        let k = struct_type s t (eqb-true _ _ (not_not _ b.1)) in
        let ks = and_kind k.kind k.kinds in
        let members : drop 1 s ≡ texts ks ++ 41 ∷ [] = ap (drop 1) k.is ∙ sym (append_assoc (text k.kind) (texts k.kinds) (41 ∷ [])) in
        let f = fields_mean vs ks (d - 1) (n + gap 8 n) e (41 ∷ []) k.arrays k.structs refl (subst (λ (y : List ℕ). checked_fields limit (d - 1) y (n + gap 8 n) vs ≡ Some e) members a.1) in
        record {
          is = ap (λ (y : List ℕ). 40 ∷ (y ++ 41 ∷ [])) f.is ∙ ap (λ (y : List ℕ). 40 ∷ y) (append_assoc (text k.kind) (texts k.kinds) (41 ∷ [])) ∙ sym k.is;
          valid = as_struct n k.kind k.kinds vs f.is f.valid;
          nest = omega (arith, f.nests, some);
          ends = f.ends;
          within = f.within;
        }
    checked_means (entry k v) d n e s t h =
        let m = n + gap 8 n in
        let r = drop 1 s in
        let a = refused (eqb d 0 || not (eqb (head s) 123)) (checked limit (d - 1) (take 1 r) m k >>= λ o. checked limit (d - 1) (take (length r - 2) (drop 1 r)) o v) e h in
        let b = neither _ _ a.0 in
        let some = not_zero d b.0 in
        let at_brace : head s ≡ 123 = eqb-true _ _ (not_not _ b.1) in
        let y = entry_type s t at_brace in
        let rest : r ≡ letter y.key ∷ (text y.value ++ 125 ∷ []) = ap (drop 1) y.is in
        let key_is : take 1 r ≡ letter y.key ∷ [] = ap (take 1) rest in
        let front : take (suc (length (text y.value ++ 125 ∷ [])) - 2) (text y.value ++ 125 ∷ []) ≡ text y.value = ap (λ (i : ℕ). take i (text y.value ++ 125 ∷ [])) (omega (arith, length-append (text y.value) (125 ∷ []))) ∙ take_at (text y.value) (125 ∷ []) (length (text y.value)) refl in
        let value_is : take (length r - 2) (drop 1 r) ≡ text y.value = ap (λ (x : List ℕ). take (length x - 2) (drop 1 x)) rest ∙ front in
        let o = bind_some (checked limit (d - 1) (take 1 r) m k) (λ o. checked limit (d - 1) (take (length r - 2) (drop 1 r)) o v) e a.1 in
        let single : IsType (letter y.key ∷ []) = record { kind = ty_basic y.key; is = refl; arrays = omega arith; structs = omega arith } in
        let key = checked_means k (d - 1) m o.0 (letter y.key ∷ []) (inl single) (subst (λ (x : List ℕ). checked limit (d - 1) x m k ≡ Some o.0) key_is o.1) in
        let value = checked_means v (d - 1) o.0 e (text y.value) (inl (typed y.value y.arrays y.structs)) (subst (λ (x : List ℕ). checked limit (d - 1) x o.0 v ≡ Some e) value_is o.2) in
        let behind : o.0 ≡ m + length (spell little m k) = sym key.ends ∙ sym (ends_is little k m) in
        record {
          is = ap (λ (x : List ℕ). 123 ∷ (x ++ (sig v ++ 125 ∷ []))) key.is ∙ ap (λ (x : List ℕ). 123 ∷ (letter y.key ∷ (x ++ 125 ∷ []))) value.is ∙ sym y.is ∙ sym (headed s (drop 1 s) 123 at_brace refl (omega arith));
          valid = ((y.key, key.is), subst IsType (sym value.is) (typed y.value y.arrays y.structs), key.valid, subst (λ (i : ℕ). IsValue little i v) behind value.valid);
          nest = omega (arith, key.nest, value.nest, some);
          ends = ap (λ (i : ℕ). ends i v) key.ends ∙ value.ends;
          within = value.within;
        }
    checked_means (variant v) d n e s t h =
        let a = refused (eqb d 0 || not (is_letter 118 s) || not (is_variant_type (sig v))) (checked limit (d - 1) (sig v) (n + 1 + length (sig v) + 1) v) e h in
        let b = neither _ _ a.0 in
        let c = neither _ _ b.0 in
        let some = not_zero d c.0 in
        let short = variant_type (sig v) (not_not _ b.1) in
        let inner = checked_means v (d - 1) (n + 1 + length (sig v) + 1) e (sig v) (inl short.0) a.1 in
        record { is = letter_means 118 s (not_not _ c.1); valid = (short.0, short.1, inner.valid); nest = omega (arith, inner.nest, some); ends = inner.ends; within = inner.within }

    items_mean : (vs : Plains) (d n e : ℕ) (item : List ℕ) → IsItemType item → checked_items limit d item n vs ≡ Some e → CheckedItems d item n vs e
    items_mean none d n e item t h = let w = within_is n e h in record { valid = tt; nests = omega arith; ends = w.0; within = w.1 }
    items_mean (more v vs) d n e item t h =
        let o = bind_some (checked limit d item n v) (λ o. checked_items limit d item o vs) e h in
        let first = checked_means v d n o.0 item t o.1 in
        let others = items_mean vs d o.0 e item t o.2 in
        let behind : o.0 ≡ n + length (spell little n v) = sym first.ends ∙ sym (ends_is little v n) in
        record {
          valid = (first.is, first.valid, subst (λ (i : ℕ). AreOf little item i vs) behind others.valid);
          nests = omega (arith, first.nest, others.nests);
          ends = ap (λ (i : ℕ). end_all i vs) first.ends ∙ others.ends;
          within = others.within;
        }

    pub fields_mean : (vs : Plains) (ks : Kinds) (d n e : ℕ) (tail : List ℕ) → all_arrays ks ≤ 32 → all_structs ks ≤ 32 → is_end tail ≡ true
        → checked_fields limit d (texts ks ++ tail) n vs ≡ Some e → CheckedFields d (texts ks) n vs e
    fields_mean none no_kinds d n e tail u w ended h = let w = within_is n e (allowed (is_end tail) (within limit n) e h).1 in record { is = refl; valid = tt; nests = omega arith; ends = w.0; within = w.1 }
    fields_mean none (and_kind k ks) d n e tail u w ended h =
        let goes_on = type_goes_on k (texts ks ++ tail) in
        absurd (none_some e (rw goes_on at (subst (λ (y : List ℕ). checked_fields limit d y n none ≡ Some e) (append_assoc (text k) (texts ks) tail) h)))
    fields_mean (more v vs) no_kinds d n e tail u w ended h = absurd (none_some e (rw ended at h))
    fields_mean (more v vs) (and_kind k ks) d n e tail u w ended h =
        let s = texts ks ++ tail in
        let h1 = subst (λ (y : List ℕ). checked_fields limit d y n (more v vs) ≡ Some e) (append_assoc (text k) (texts ks) tail) h in
        let h2 = rw (type_goes_on k s, type_again k 64 32 32 s (omega arith) (omega arith) (omega arith), take_front (text k) s) at h1 in
        let o = bind_some (checked limit d (text k) n v) (λ o. checked_fields limit d s o vs) e h2 in
        let single = typed k (omega arith) (omega arith) in
        let first = checked_means v d n o.0 (text k) (inl single) o.1 in
        let others = fields_mean vs ks d o.0 e tail (omega arith) (omega arith) ended o.2 in
        let behind : o.0 ≡ n + length (spell little n v) = sym first.ends ∙ sym (ends_is little v n) in
        record {
          is = ap (λ (y : List ℕ). y ++ sigs vs) first.is ∙ ap (λ (y : List ℕ). text k ++ y) others.is;
          valid = (subst IsType (sym first.is) single, first.valid, subst (λ (i : ℕ). AreValues little i vs) behind others.valid);
          nests = omega (arith, first.nest, others.nests);
          ends = ap (λ (i : ℕ). end_all i vs) first.ends ∙ others.ends;
          within = others.within;
        }

  mutual
    pub checked_again : (v : Plain) (d n : ℕ) → IsValue little n v → nest v ≤ d → ends n v ≤ limit → checked limit d (sig v) n v ≡ Some (ends n v)
    checked_again (number f x) d n is le lt =
        let small = lt-ltb x (below f) is in
        rw (letter_again (fixed_letter f), small) (within_again (n + gap (width f) n + width f) lt)
    checked_again (words k t) d n is le lt = rw (letter_again (textual_letter k), textual_again k t is) (within_again (ends n (words k t)) lt)
    checked_again (array item vs) d n is le lt =
        let first = first_item item (n + gap 4 n + 4) in
        let some : eqb d 0 ≡ false = long_is_not d (omega arith) in
        let items = items_again vs (d - 1) first item is.2 (omega arith) lt in
        let few = le-leb (end_all first vs) (first + 2 ^ 26) (omega (arith, end_is little vs first, is.1)) in
        rw (some, bytes_again item, items, few) refl
    checked_again (struct none) d n is le lt = elim is [ ]
    checked_again (struct (more v vs)) d n is le lt =
        let some : eqb d 0 ≡ false = long_is_not d (omega arith) in
        rw some (fields_again (more v vs) (d - 1) (n + gap 8 n) (41 ∷ []) is (omega arith) refl lt)
    checked_again (entry k v) d n is le lt =
        let m = n + gap 8 n in
        let some : eqb d 0 ≡ false = long_is_not d (omega arith) in
        let r = sig k ++ (sig v ++ 125 ∷ []) in
        let c = letter is.0.0 in
        let rest : r ≡ c ∷ (sig v ++ 125 ∷ []) = ap (λ (x : List ℕ). x ++ (sig v ++ 125 ∷ [])) is.0.1 in
        let key_is : take 1 r ≡ sig k = ap (take 1) rest ∙ sym is.0.1 in
        let front : take (suc (length (sig v ++ 125 ∷ [])) - 2) (sig v ++ 125 ∷ []) ≡ sig v = ap (λ (i : ℕ). take i (sig v ++ 125 ∷ [])) (omega (arith, length-append (sig v) (125 ∷ []))) ∙ take_at (sig v) (125 ∷ []) (length (sig v)) refl in
        let value_is : take (length r - 2) (drop 1 r) ≡ sig v = ap (λ (x : List ℕ). take (length x - 2) (drop 1 x)) rest ∙ front in
        let behind : m + length (spell little m k) ≡ ends m k = ends_is little k m in
        let value_fits : IsValue little (ends m k) v = subst (λ (i : ℕ). IsValue little i v) behind is.3 in
        let key = checked_again k (d - 1) m is.2 (omega arith) (omega (arith, grows (ends m k) v, lt)) in
        let value = checked_again v (d - 1) (ends m k) value_fits (omega arith) lt in
        let key' : checked limit (d - 1) (take 1 r) m k ≡ Some (ends m k) = ap (λ (x : List ℕ). checked limit (d - 1) x m k) key_is ∙ key in
        let value' : checked limit (d - 1) (take (length r - 2) (drop 1 r)) (ends m k) v ≡ Some (ends (ends m k) v) = ap (λ (x : List ℕ). checked limit (d - 1) x (ends m k) v) value_is ∙ value in
        rw (some, key') value'
    checked_again (variant v) d n is le lt =
        let some : eqb d 0 ≡ false = long_is_not d (omega arith) in
        rw (some, variant_again (sig v) is.0 is.1) (checked_again v (d - 1) (n + 1 + length (sig v) + 1) is.2 (omega arith) lt)

    items_again : (vs : Plains) (d n : ℕ) (item : List ℕ) → AreOf little item n vs → nests vs ≤ d → end_all n vs ≤ limit → checked_items limit d item n vs ≡ Some (end_all n vs)
    items_again none d n item are le lt = within_again n lt
    items_again (more v vs) d n item are le lt =
        let behind = ends_is little v n in
        let first = checked_again v d n are.1 (omega arith) (omega (arith, end_grows (ends n v) vs, lt)) in
        let first' : checked limit d item n v ≡ Some (ends n v) = subst (λ (x : List ℕ). checked limit d x n v ≡ Some (ends n v)) are.0 first in
        rw first' (items_again vs d (ends n v) item (subst (λ (i : ℕ). AreOf little item i vs) behind are.2) (omega arith) lt)

    pub fields_again : (vs : Plains) (d n : ℕ) (tail : List ℕ) → AreValues little n vs → nests vs ≤ d → is_end tail ≡ true → end_all n vs ≤ limit → checked_fields limit d (sigs vs ++ tail) n vs ≡ Some (end_all n vs)
    fields_again none d n tail are le ended lt = rw ended (within_again n lt)
    fields_again (more v vs) d n tail are le ended lt =
        let s = sigs vs ++ tail in
        let behind = ends_is little v n in
        let goes_on : is_end (sig v ++ s) ≡ false = subst (λ (x : List ℕ). is_end (x ++ s) ≡ false) (sym are.0.is) (type_goes_on are.0.kind s) in
        let one : one_type (sig v ++ s) ≡ Some s = subst (λ (x : List ℕ). one_type (x ++ s) ≡ Some s) (sym are.0.is) (type_again are.0.kind 64 32 32 s are.0.arrays are.0.structs (omega arith)) in
        let first = checked_again v d n are.1 (omega arith) (omega (arith, end_grows (ends n v) vs, lt)) in
        let others = fields_again vs d (ends n v) tail (subst (λ (i : ℕ). AreValues little i vs) behind are.2) (omega arith) ended lt in
        rw (append_assoc (sig v) (sigs vs) tail, goes_on, one, take_front (sig v) s, first) others

-- a number of a type passes the test for its range

pub number_passes : (b : Bool) (x m : ℕ) → x < m → (b && ltb x m) ≡ b
number_passes true x m h = lt-ltb x m h
number_passes false x m h = refl

pub flag_passes : (b flag : Bool) → (b && ltb (bit flag) 2) ≡ b
flag_passes true true = refl
flag_passes true false = refl
flag_passes false flag = refl
