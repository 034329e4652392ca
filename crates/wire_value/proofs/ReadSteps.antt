-- What the code that reads does at each letter, and at each turn of its loops.
use Rattle.std.proofs.Common.{◌≡◌, ℕ, zero, suc, ◌-◌, ◌<◌, ◌≤◌, Bool, true, false, List, [], ◌∷◌, ◌++◌, length, take, drop, Option, Some, None, option_map, refl, sym, ap, subst, ◌∙◌, arith, inl, inr}
use Rattle.std.proofs.lemmas.Bool.{false≢true}
use Rattle.std.proofs.lemmas.List.{length-append, take_at}
use Rattle.wire_value.specs.Types.{letter, Kind, ty_basic, ty_variant, ty_array, ty_dict, ty_struct, text, arrays, structs, IsType, IsEntryType, IsItemType}
use Rattle.wire_value.specs.Plain.{Plain, Plains, none, more}
use Rattle.wire_value.specs.Spelling.{spell}
use Rattle.wire_value.specs.Reading.{◌>>=◌, At, Read, head, one_type, is_end, leaf_at, items_at, array_at, fields_at, struct_at, entry_at, variant_at, value_at}
use Rattle.wire_value.specs.Gives.{Fails}
use Rattle.wire_value.specs.View.{onto}
use Rattle.wire_value.specs.declared.error.ReadError.{ReadError}
use Rattle.wire_value.specs.declared.error.ReadError.TheVariants as errors
use Rattle.wire_value.proofs.Steps.{is_not, IsBytes}
use Rattle.wire_value.proofs.TypeLaws.{text_len, not_array, not_brace}
use Rattle.wire_value.proofs.Signatures.{long_is_not}
use Rattle.wire_value.proofs.Again.{spell_len}
use Rattle.wire_value.proofs.Found.{item_found}

-- the types inside a type, by its first letter

letter_of : (s : List ℕ) (c : ℕ) (t : List ℕ) → s ≡ c ∷ t → head s ≡ c
letter_of s c t e = ap head e

item_of : (k : Kind) (s : List ℕ) → s ≡ text k → arrays k ≤ 32 → structs k ≤ 32 → head s ≡ 97 → IsItemType (drop 1 s)
item_of (ty_basic b) s is a b2 e = absurd (false≢true (sym (not_array b) ∙ rw (sym (letter_of s (letter b) [] is), e) refl))
item_of ty_variant s is a b e = absurd (omega (arith, ap head is))
item_of (ty_array k) s is a b e = inl (record { kind = k; is = ap (drop 1) is; arrays = omega arith; structs = b })
item_of (ty_dict l k) s is a b e = inr (record { key = l; value = k; is = ap (drop 1) is; arrays = omega arith; structs = b })
item_of (ty_struct k ks) s is a b e = absurd (omega (arith, ap head is))

pub item_type : (s : List ℕ) → IsItemType s → head s ≡ 97 → IsItemType (drop 1 s)
item_type s t e = elim t [ inl h ↦ item_of h.kind s h.is h.arrays h.structs e | inr h ↦ absurd (omega (arith, ap head h.is)) ]

no_brace : (k : Kind) (s : List ℕ) → s ≡ text k → head s ≡ 123 → ⊥
no_brace (ty_basic b) s is e = false≢true (sym (not_brace b) ∙ rw (sym (letter_of s (letter b) [] is), e) refl)
no_brace ty_variant s is e = omega (arith, ap head is)
no_brace (ty_array k) s is e = omega (arith, ap head is)
no_brace (ty_dict l k) s is e = omega (arith, ap head is)
no_brace (ty_struct k ks) s is e = omega (arith, ap head is)

brace_back : (s : List ℕ) → IsEntryType s → 123 ∷ drop 1 s ≡ s
brace_back s h = ap (λ (x : List ℕ). 123 ∷ drop 1 x) h.is ∙ sym h.is

pub entry_type : (s : List ℕ) → IsItemType s → head s ≡ 123 → IsEntryType (123 ∷ drop 1 s)
entry_type s t e = elim t [ inl h ↦ absurd (no_brace h.kind s h.is e) | inr h ↦ subst IsEntryType (sym (brace_back s h)) h ]

pub key_type : (s : List ℕ) → IsEntryType (123 ∷ s) → IsItemType (take 1 s)
key_type s h = inl (record { kind = ty_basic h.key; is = ap (λ (x : List ℕ). take 1 (drop 1 x)) h.is; arrays = omega arith; structs = omega arith })

pub value_type : (s : List ℕ) → IsEntryType (123 ∷ s) → IsItemType (take (length s - 2) (drop 1 s))
value_type s h =
    let is : s ≡ letter h.key ∷ (text h.value ++ 125 ∷ []) = ap (drop 1) h.is in
    let front : take (suc (length (text h.value ++ 125 ∷ [])) - 2) (text h.value ++ 125 ∷ []) ≡ text h.value = ap (λ (m : ℕ). take m (text h.value ++ 125 ∷ [])) (omega (arith, length-append (text h.value) (125 ∷ []))) ∙ take_at (text h.value) (125 ∷ []) (length (text h.value)) refl in
    inl (record { kind = h.value; is = ap (λ (x : List ℕ). take (length x - 2) (drop 1 x)) is ∙ front; arrays = h.arrays; structs = h.structs })

-- an entry's types have three bytes at least
pub entry_len : (s : List ℕ) → IsEntryType (123 ∷ s) → 3 ≤ length s
entry_len s h = omega (arith, ap length h.is, text_len h.value, length-append (text h.value) (125 ∷ []))

pub one_item : (s : List ℕ) → IsType s → IsItemType s
one_item s h = inl h

module _ (little : Bool) where
  pub v_zero : (d : ℕ) (s : List ℕ) (p : At) → d ≡ 0 → value_at d little s p ≡ leaf_at little (head s) p
  unfolding value_at
  v_zero zero s p e = refl
  v_zero (suc d) s p e = absurd (omega arith)

  pub v_array : (d : ℕ) (s : List ℕ) (p : At) → (d ≡ 0 → ⊥) → head s ≡ 97 → value_at d little s p ≡ array_at (value_at (d - 1) little (drop 1 s)) little (drop 1 s) p
  unfolding value_at
  v_array zero s p h e = absurd (h refl)
  v_array (suc d) s p h e = let n : suc d - 1 ≡ d = omega arith in rw e (ap (λ (m : ℕ). array_at (value_at m little (drop 1 s)) little (drop 1 s) p) (sym n))

  pub v_struct : (d : ℕ) (s : List ℕ) (p : At) → (d ≡ 0 → ⊥) → head s ≡ 40 → value_at d little s p ≡ struct_at (value_at (d - 1) little) (drop 1 s) p
  unfolding value_at
  v_struct zero s p h e = absurd (h refl)
  v_struct (suc d) s p h e = let n : suc d - 1 ≡ d = omega arith in rw e (ap (λ (m : ℕ). struct_at (value_at m little) (drop 1 s) p) (sym n))

  pub v_variant : (d : ℕ) (s : List ℕ) (p : At) → (d ≡ 0 → ⊥) → head s ≡ 118 → value_at d little s p ≡ variant_at (value_at (d - 1) little) p
  unfolding value_at
  v_variant zero s p h e = absurd (h refl)
  v_variant (suc d) s p h e = let n : suc d - 1 ≡ d = omega arith in rw e (ap (λ (m : ℕ). variant_at (value_at m little) p) (sym n))

  pub v_entry : (d : ℕ) (s : List ℕ) (p : At) → (d ≡ 0 → ⊥) → head s ≡ 123 → value_at d little s p ≡ entry_at (value_at (d - 1) little) (drop 1 s) p
  unfolding value_at
  v_entry zero s p h e = absurd (h refl)
  v_entry (suc d) s p h e = let n : suc d - 1 ≡ d = omega arith in rw e (ap (λ (m : ℕ). entry_at (value_at m little) (drop 1 s) p) (sym n))

  pub v_leaf : (d : ℕ) (s : List ℕ) (p : At) → (head s ≡ 97 → ⊥) → (head s ≡ 40 → ⊥) → (head s ≡ 123 → ⊥) → (head s ≡ 118 → ⊥) → value_at d little s p ≡ leaf_at little (head s) p
  unfolding value_at
  v_leaf zero s p a b c e = refl
  v_leaf (suc d) s p a b c e = rw (is_not (head s) 97 a, is_not (head s) 40 b, is_not (head s) 123 c, is_not (head s) 118 e) refl

  -- a value takes a byte at least
  pub v_shorter : (d : ℕ) (s : List ℕ) (p : At) (x : Plain × At) → IsItemType s → IsBytes p.1 → value_at d little s p ≡ Some x → length x.1.1 < length p.1
  v_shorter d s p x t fits e =
      let f = item_found little d s p x t fits e in
      omega (arith, spell_len little x.0 p.0 f.valid, ap length f.takes.parts, length-append (spell little p.0 x.0) x.1.1)

pub onto-push : (xs : List Plain) (v : Plain) (vs : Plains) → onto (xs ++ v ∷ []) vs ≡ onto xs (more v vs)
onto-push [] v vs = refl
onto-push (x ∷ xs) v vs = ap (more x) (onto-push xs v vs)

-- ---- items

with_more : (front : List Plain) (v : Plain) (o : Option Plains) → option_map (onto front) (o >>= λ vs. Some (more v vs)) ≡ option_map (onto (front ++ v ∷ [])) o
with_more front v None = refl
with_more front v (Some vs) = ap Some (sym (onto-push front v vs))

pub items_goes_on : (read : Read) (front : List Plain) (g : ℕ) (p : At) (v : Plain) (q : At) (total : Option Plains) → 0 < length p.1 → length p.1 ≤ g → length q.1 < length p.1 → read p ≡ Some (v, q)
    → option_map (onto front) (items_at read g p) ≡ total → (h : ℕ) × (length q.1 ≤ h) × (option_map (onto (front ++ v ∷ [])) (items_at read h q) ≡ total)
unfolding items_at
items_goes_on read front zero p v q total some le shorter e so_far = absurd (omega arith)
items_goes_on read front (suc g) p v q total some le shorter e so_far =
    let not_empty = long_is_not (length p.1) some in
    (g, omega arith, sym (with_more front v (items_at read g q)) ∙ (rw (not_empty, e) at so_far))

items_stops : (read : Read) (front : List Plain) (g : ℕ) (p : At) (total : Option Plains) → 0 < length p.1 → length p.1 ≤ g → read p ≡ None → option_map (onto front) (items_at read g p) ≡ total → total ≡ None
unfolding items_at
items_stops read front zero p total some le e so_far = absurd (omega arith)
items_stops read front (suc g) p total some le e so_far =
    let not_empty = long_is_not (length p.1) some in sym (rw (not_empty, e) at so_far)

pub items_fails : (e : ReadError) (read : Read) (front : List Plain) (p : At) (total : Option Plains) → 0 < length p.1 → Fails e (read p)
    → (g : ℕ) → length p.1 ≤ g → option_map (onto front) (items_at read g p) ≡ total → Fails e total
items_fails errors.NoMemory read front p total some f g le so_far = tt
items_fails errors.Malformed read front p total some f g le so_far = items_stops read front g p total some le f so_far

pub items_over : (read : Read) (front : List Plain) (g : ℕ) (p : At) (total : Option Plains) → length p.1 ≡ 0 → option_map (onto front) (items_at read g p) ≡ total → total ≡ Some (onto front none)
unfolding items_at
items_over read front zero p total e so_far = sym (rw e at so_far)
items_over read front (suc g) p total e so_far = sym (rw e at so_far)

-- ---- fields

abbrev pub fields_front : List Plain → Plains × At → Plains × At
fields_front front x = (onto front x.0, x.1)

fields_with_more : (front : List Plain) (v : Plain) (o : Option (Plains × At)) → option_map (fields_front front) (o >>= λ vs. Some (more v vs.0, vs.1)) ≡ option_map (fields_front (front ++ v ∷ [])) o
fields_with_more front v None = refl
fields_with_more front v (Some vs) = ap (λ (ws : Plains). Some (ws, vs.1)) (sym (onto-push front v vs.0))

pub fields_goes_on : (read : List ℕ → Read) (front : List Plain) (g : ℕ) (s rest : List ℕ) (p : At) (v : Plain) (q : At) (total : Option (Plains × At)) → is_end s ≡ false → one_type s ≡ Some rest
    → length rest < length s → length s < g → read (take (length s - length rest) s) p ≡ Some (v, q) → option_map (fields_front front) (fields_at read g s p) ≡ total
    → (h : ℕ) × (length rest < h) × (option_map (fields_front (front ++ v ∷ [])) (fields_at read h rest q) ≡ total)
unfolding fields_at
fields_goes_on read front zero s rest p v q total ends one shorter le e so_far = absurd (omega arith)
fields_goes_on read front (suc g) s rest p v q total ends one shorter le e so_far =
    (g, omega arith, sym (fields_with_more front v (fields_at read g rest q)) ∙ (rw (ends, one, e) at so_far))

pub fields_no_type : (read : List ℕ → Read) (front : List Plain) (g : ℕ) (s : List ℕ) (p : At) (total : Option (Plains × At)) → is_end s ≡ false → one_type s ≡ None → length s < g
    → option_map (fields_front front) (fields_at read g s p) ≡ total → total ≡ None
unfolding fields_at
fields_no_type read front zero s p total ends one le so_far = absurd (omega arith)
fields_no_type read front (suc g) s p total ends one le so_far = sym (rw (ends, one) at so_far)

fields_stops : (read : List ℕ → Read) (front : List Plain) (g : ℕ) (s rest : List ℕ) (p : At) (total : Option (Plains × At)) → is_end s ≡ false → one_type s ≡ Some rest → length s < g
    → read (take (length s - length rest) s) p ≡ None → option_map (fields_front front) (fields_at read g s p) ≡ total → total ≡ None
unfolding fields_at
fields_stops read front zero s rest p total ends one le e so_far = absurd (omega arith)
fields_stops read front (suc g) s rest p total ends one le e so_far = sym (rw (ends, one, e) at so_far)

pub fields_fails : (e : ReadError) (read : List ℕ → Read) (front : List Plain) (g : ℕ) (s rest : List ℕ) (p : At) (total : Option (Plains × At)) → is_end s ≡ false → one_type s ≡ Some rest → length s < g
    → Fails e (read (take (length s - length rest) s) p) → option_map (fields_front front) (fields_at read g s p) ≡ total → Fails e total
fields_fails errors.NoMemory read front g s rest p total ends one le f so_far = tt
fields_fails errors.Malformed read front g s rest p total ends one le f so_far = fields_stops read front g s rest p total ends one le f so_far

pub fields_over : (read : List ℕ → Read) (front : List Plain) (g : ℕ) (s : List ℕ) (p : At) (total : Option (Plains × At)) → is_end s ≡ true → length s < g
    → option_map (fields_front front) (fields_at read g s p) ≡ total → total ≡ Some (onto front none, p)
unfolding fields_at
fields_over read front zero s p total ends le so_far = absurd (omega arith)
fields_over read front (suc g) s p total ends le so_far = sym (rw ends at so_far)
