-- What is read is spelled so.
use Rattle.std.proofs.Common.{◌≡◌, ℕ, zero, suc, ◌+◌, ◌-◌, ◌≤◌, ◌^◌, Bool, true, false, cond, eqb, leb, List, [], ◌∷◌, ◌++◌, length, take, Option, Some, None, refl, sym, ap, subst, ◌∙◌, append_assoc, arith, inl, inr}
use Rattle.std.proofs.lemmas.Bool.{eqb-true, leb-true}
use Rattle.std.proofs.lemmas.List.{length-append, nil_from_length, take_at}
use Rattle.wire_value.specs.Types.{Textual, string, object_path, signature, uint32, Basic, fixed, textual, letter, fixed_letter, textual_letter, Kind, Kinds, ty_basic, ty_variant, ty_array, ty_dict, ty_struct, no_kinds, and_kind, text, texts, arrays, structs, all_arrays, all_structs, IsType, IsItemType}
use Rattle.wire_value.specs.Plain.{Plain, number, words, array, struct, entry, variant, Plains, none, more, sig, sigs, nest, nests}
use Rattle.wire_value.specs.Spelling.{zeros, gap, word, alignment, first_item, text_spelling, IsTextual, spell, spells, IsValue, AreValues, AreOf}
use Rattle.wire_value.specs.Reading.{◌>>=◌, At, Read, basic_of, is_end, is_signature, is_single, basic_at, textual_at, fixed_at, leaf_at, bytes_at, gap_at, word_at, sign_at, items_at, body_at, array_at, fields_at, struct_at, entry_at, variant_at, value_at}
use Rattle.wire_value.proofs.Steps.{IsBytes, bind_some, if_some_is, some_is, Takes, Takes-then, bytes_take, gap_takes, word_takes, fixed_takes, str_takes, path_takes, sign_takes, length-zeros, length-word}
use Rattle.wire_value.proofs.TypeLaws.{typed, type_again, text_len, basic_again, chosen, not_array, not_struct, not_brace, not_variant}
use Rattle.wire_value.proofs.Signatures.{signature_is, single_is, take_front}
use Rattle.wire_value.proofs.Again.{type_goes_on}

module _ (little : Bool) where
  pub record Found (d : ℕ) (s : List ℕ) (p : At) (x : Plain × At) : Type 0 where
    pub takes : Takes p (spell little p.0 x.0) x.1
    pub is : sig x.0 ≡ s
    pub valid : IsValue little p.0 x.0
    pub nest : nest x.0 ≤ d

  -- what a reader of values of one nesting does at each type
  abbrev pub Finds : ℕ → (List ℕ → Read) → Type 0
  Finds d read = (k : Kind) (p : At) (x : Plain × At) → arrays k ≤ 32 → structs k ≤ 32 → IsBytes p.1 → read (text k) p ≡ Some x → Found d (text k) p x

  record FoundText (k : Textual) (p : At) (t : List ℕ × At) : Type 0 where
    pub takes : Takes p (text_spelling little p.0 k t.0) t.1
    pub valid : IsTextual k t.0

  textual_found : (k : Textual) (p : At) (t : List ℕ × At) → IsBytes p.1 → textual_at little k p ≡ Some t → FoundText k p t
  textual_found string p t fits e = let u = str_takes little p t fits e in record { takes = u.0; valid = u.1 }
  textual_found object_path p t fits e = let u = path_takes little p t fits e in record { takes = u.0; valid = u.1 }
  textual_found signature p t fits e =
      let a = bind_some (sign_at p) (λ t. cond (is_signature t.0) (Some t) None) t e in
      let u = sign_takes p a.0 fits a.1 in
      let g = if_some_is (is_signature a.0.0) a.0 t a.2 in
      subst (FoundText signature p) g.1 (record { takes = u.0; valid = signature_is a.0.0 g.0 })

  basic_found : (b : Basic) (d : ℕ) (p : At) (x : Plain × At) → IsBytes p.1 → basic_at little b p ≡ Some x → Found d (letter b ∷ []) p x
  basic_found (fixed f) d p x fits e =
      let a = bind_some (fixed_at little f p) (λ y. Some (number f y.0, y.1)) x e in
      let t = fixed_takes little f p a.0 fits a.1 in
      subst (Found d (fixed_letter f ∷ []) p) (some_is (number f a.0.0, a.0.1) x a.2) (record { takes = t.0; is = refl; valid = t.1; nest = omega arith })
  basic_found (textual k) d p x fits e =
      let a = bind_some (textual_at little k p) (λ y. Some (words k y.0, y.1)) x e in
      let t = textual_found k p a.0 fits a.1 in
      subst (Found d (textual_letter k ∷ []) p) (some_is (words k a.0.0, a.0.1) x a.2) (record { takes = t.takes; is = refl; valid = t.valid; nest = omega arith })

  leaf_found : (b : Basic) (d : ℕ) (p : At) (x : Plain × At) → IsBytes p.1 → leaf_at little (letter b) p ≡ Some x → Found d (letter b ∷ []) p x
  unfolding leaf_at
  leaf_found b d p x fits e = basic_found b d p x fits (rw (basic_again b) at e)

  -- ---- items

  pub record FoundItems (d : ℕ) (s : List ℕ) (p : At) (vs : Plains) : Type 0 where
    pub whole : p.1 ≡ spells little p.0 vs
    pub valid : AreOf little s p.0 vs
    pub nests : nests vs ≤ d

  items_nil : (b : Bool) (vs : Plains) (o : Option Plains) → cond b (Some none) o ≡ Some vs → o ≡ None → (b ≡ true) × (none ≡ vs)
  items_nil true vs o e f = (refl, some_is none vs e)
  items_nil false vs o e f = absurd (absurd_none vs (sym f ∙ e))
    where
      absurd_none : (vs : Plains) → None ≡ Some vs → ⊥
      absurd_none vs e = cc

  items_end : (d : ℕ) (s : List ℕ) (p : At) (vs : Plains) → eqb (length p.1) 0 ≡ true → none ≡ vs → FoundItems d s p vs
  items_end d s p vs e f = subst (FoundItems d s p) f (record { whole = nil_from_length p.1 (eqb-true _ _ e); valid = tt; nests = omega arith })

  pub items_found : (d : ℕ) (read : Read) (s : List ℕ) → ((p : At) (x : Plain × At) → IsBytes p.1 → read p ≡ Some x → Found d s p x)
      → (g : ℕ) (p : At) (vs : Plains) → IsBytes p.1 → items_at read g p ≡ Some vs → FoundItems d s p vs
  unfolding items_at
  items_found d read s finds zero p vs fits e =
      let a = items_nil (eqb (length p.1) 0) vs None e refl in items_end d s p vs a.0 a.1
  items_found d read s finds (suc g) p vs fits e =
      elim (chosen (eqb (length p.1) 0) (Some none) (read p >>= λ v. items_at read g v.1 >>= λ ws. Some (more v.0 ws)) vs e) [
        | inl h ↦ items_end d s p vs h.0 (some_is none vs h.1)
        | inr h ↦
            let a = bind_some (read p) (λ v. items_at read g v.1 >>= λ ws. Some (more v.0 ws)) vs h.1 in
            let b = bind_some (items_at read g a.0.1) (λ ws. Some (more a.0.0 ws)) vs a.2 in
            let first = finds p a.0 fits a.1 in
            let others = items_found d read s finds g a.0.1 b.0 first.takes.fits b.1 in
            let at_others : a.0.1.1 ≡ spells little (p.0 + length (spell little p.0 a.0.0)) b.0 = subst (λ (m : ℕ). a.0.1.1 ≡ spells little m b.0) first.takes.moves others.whole in
            subst (FoundItems d s p) (some_is (more a.0.0 b.0) vs b.2) (record {
              whole = first.takes.parts ∙ ap (λ (x : List ℕ). spell little p.0 a.0.0 ++ x) at_others;
              valid = (first.is, first.valid, subst (λ (m : ℕ). AreOf little s m b.0) first.takes.moves others.valid);
              nests = omega (arith, first.nest, others.nests);
            })
      ]

  -- the bytes of an array
  record FoundBody (item : List ℕ) (p : At) (b : At × At) : Type 0 where
    pub takes : Takes p (zeros (gap 4 p.0) ++ (word little 4 (length b.0.1) ++ (zeros (gap (alignment item) (p.0 + gap 4 p.0 + 4)) ++ b.0.1))) b.1
    pub from : b.0.0 ≡ first_item item (p.0 + gap 4 p.0 + 4)
    pub bytes : IsBytes b.0.1
    pub short : length b.0.1 ≤ 2 ^ 26

  body_found : (item : List ℕ) (p : At) (x : At × At) → IsBytes p.1 → body_at little item p ≡ Some x → FoundBody item p x
  unfolding body_at
  body_found item p x fits e =
      let a = bind_some (word_at little 4 p) (λ n. gap_at (alignment item) n.1 >>= λ f. bytes_at n.0 f >>= λ b. cond (leb n.0 (2 ^ 26)) (Some ((f.0, b.0), b.1)) None) x e in
      let b = bind_some (gap_at (alignment item) a.0.1) (λ f. bytes_at a.0.0 f >>= λ b. cond (leb a.0.0 (2 ^ 26)) (Some ((f.0, b.0), b.1)) None) x a.2 in
      let c = bind_some (bytes_at a.0.0 b.0) (λ c. cond (leb a.0.0 (2 ^ 26)) (Some ((b.0.0, c.0), c.1)) None) x b.2 in
      let g = if_some_is (leb a.0.0 (2 ^ 26)) ((b.0.0, c.0.0), c.0.1) x c.2 in
      let t1 = word_takes little uint32 p a.0 fits a.1 in
      let t2 = gap_takes (alignment item) a.0.1 b.0 t1.0.fits b.1 in
      let t3 = bytes_take a.0.0 b.0 c.0 t2.fits c.1 in
      let z = zeros (gap 4 p.0) in
      let start : a.0.1.0 ≡ p.0 + gap 4 p.0 + 4 = omega (arith, t1.0.moves, length-append z (word little 4 a.0.0), length-zeros (gap 4 p.0), length-word little 4 a.0.0) in
      let from : b.0.0 ≡ first_item item (p.0 + gap 4 p.0 + 4) = t2.moves ∙ ap (λ (m : ℕ). m + length (zeros (gap (alignment item) m))) start ∙ ap (λ (m : ℕ). p.0 + gap 4 p.0 + 4 + m) (length-zeros (gap (alignment item) (p.0 + gap 4 p.0 + 4))) in
      let t23 = Takes-then a.0.1 (zeros (gap (alignment item) a.0.1.0)) b.0 c.0.0 c.0.1 t2 t3.takes in
      let t23' : Takes a.0.1 (zeros (gap (alignment item) (p.0 + gap 4 p.0 + 4)) ++ c.0.0) c.0.1 = subst (λ (m : ℕ). Takes a.0.1 (zeros (gap (alignment item) m) ++ c.0.0) c.0.1) start t23 in
      let all = Takes-then p (z ++ word little 4 a.0.0) a.0.1 (zeros (gap (alignment item) (p.0 + gap 4 p.0 + 4)) ++ c.0.0) c.0.1 t1.0 t23' in
      let grouped = subst (λ (xs : List ℕ). Takes p xs c.0.1) (append_assoc z (word little 4 a.0.0) (zeros (gap (alignment item) (p.0 + gap 4 p.0 + 4)) ++ c.0.0)) all in
      let counted = subst (λ (m : ℕ). Takes p (z ++ (word little 4 m ++ (zeros (gap (alignment item) (p.0 + gap 4 p.0 + 4)) ++ c.0.0))) c.0.1) (sym t3.len) grouped in
      let few = leb-true _ _ g.0 in
      subst (FoundBody item p) g.1 (record { takes = counted; from = from; bytes = t3.bytes; short = omega (arith, t3.len, few) })

  array_found : (d : ℕ) (read : Read) (item : List ℕ) → IsItemType item → ((p : At) (x : Plain × At) → IsBytes p.1 → read p ≡ Some x → Found d item p x)
      → (p : At) (x : Plain × At) → IsBytes p.1 → array_at read little item p ≡ Some x → Found (suc d) (97 ∷ item) p x
  unfolding array_at
  array_found d read item typed finds p x fits e =
      let b = bind_some (body_at little item p) (λ b. items_at read (length b.0.1) b.0 >>= λ vs. Some (array item vs, b.1)) x e in
      let i = bind_some (items_at read (length b.0.0.1) b.0.0) (λ vs. Some (array item vs, b.0.1)) x b.2 in
      let t = body_found item p b.0 fits b.1 in
      let items = items_found d read item finds (length b.0.0.1) b.0.0 i.0 t.bytes i.1 in
      let first = first_item item (p.0 + gap 4 p.0 + 4) in
      let body : b.0.0.1 ≡ spells little first i.0 = subst (λ (m : ℕ). b.0.0.1 ≡ spells little m i.0) t.from items.whole in
      let spelled = subst (λ (xs : List ℕ). Takes p (zeros (gap 4 p.0) ++ (word little 4 (length xs) ++ (zeros (gap (alignment item) (p.0 + gap 4 p.0 + 4)) ++ xs))) b.0.1) body t.takes in
      let short : length (spells little first i.0) ≤ 2 ^ 26 = subst (λ (xs : List ℕ). length xs ≤ 2 ^ 26) body t.short in
      subst (Found (suc d) (97 ∷ item) p) (some_is (array item i.0, b.0.1) x i.2) (record {
        takes = spelled;
        is = refl;
        valid = (typed, short, subst (λ (m : ℕ). AreOf little item m i.0) t.from items.valid);
        nest = omega (arith, items.nests);
      })

  -- ---- the members of a struct, or of a body

  pub record FoundFields (d : ℕ) (s : List ℕ) (p : At) (x : Plains × At) : Type 0 where
    pub takes : Takes p (spells little p.0 x.0) x.1
    pub is : sigs x.0 ≡ s
    pub valid : AreValues little p.0 x.0
    pub nests : nests x.0 ≤ d

  fields_end : (d : ℕ) (read : List ℕ → Read) (g : ℕ) (tail : List ℕ) (p : At) (x : Plains × At) → is_end tail ≡ true → IsBytes p.1 → fields_at read g tail p ≡ Some x → FoundFields d [] p x
  unfolding fields_at
  fields_end d read zero tail p x ends fits e = absurd cc
  fields_end d read (suc g) tail p x ends fits e =
      subst (FoundFields d [] p) (some_is (none, p) x (rw ends at e)) (record { takes = record { parts = refl; moves = omega arith; fits = fits }; is = refl; valid = tt; nests = omega arith })

  fields_more : (read : List ℕ → Read) (g : ℕ) (k : Kind) (s : List ℕ) (p : At) (x : Plains × At) → arrays k ≤ 32 → structs k ≤ 32 → fields_at read (suc g) (text k ++ s) p ≡ Some x
      → (v : Plain × At) × (read (text k) p ≡ Some v) × ((fields_at read g s v.1 >>= λ vs. Some (more v.0 vs.0, vs.1)) ≡ Some x)
  unfolding fields_at
  fields_more read g k s p x u w e =
      let e1 = rw (type_goes_on k s, type_again k 64 32 32 s u w (omega arith), take_front (text k) s) at e in
      bind_some (read (text k) p) (λ v. fields_at read g s v.1 >>= λ vs. Some (more v.0 vs.0, vs.1)) x e1

  no_fuel : (read : List ℕ → Read) (s : List ℕ) (p : At) (x : Plains × At) → fields_at read zero s p ≡ Some x → ⊥
  unfolding fields_at
  no_fuel read s p x e = cc

  pub fields_found : (d : ℕ) (read : List ℕ → Read) → Finds d read → (ks : Kinds) (g : ℕ) (tail : List ℕ) (p : At) (x : Plains × At) → all_arrays ks ≤ 32 → all_structs ks ≤ 32 → is_end tail ≡ true
      → IsBytes p.1 → fields_at read g (texts ks ++ tail) p ≡ Some x → FoundFields d (texts ks) p x
  fields_found d read finds no_kinds g tail p x u w ends fits e = fields_end d read g tail p x ends fits e
  fields_found d read finds (and_kind k ks) zero tail p x u w ends fits e = absurd (no_fuel read ((text k ++ texts ks) ++ tail) p x e)
  fields_found d read finds (and_kind k ks) (suc g) tail p x u w ends fits e =
      let e1 = rw append_assoc at e in
      let a = fields_more read g k (texts ks ++ tail) p x (omega arith) (omega arith) e1 in
      let b = bind_some (fields_at read g (texts ks ++ tail) a.0.1) (λ vs. Some (more a.0.0 vs.0, vs.1)) x a.2 in
      let first = finds k p a.0 (omega arith) (omega arith) fits a.1 in
      let others = fields_found d read finds ks g tail a.0.1 b.0 (omega arith) (omega arith) ends first.takes.fits b.1 in
      let at_others : Takes a.0.1 (spells little (p.0 + length (spell little p.0 a.0.0)) b.0.0) b.0.1 = subst (λ (m : ℕ). Takes a.0.1 (spells little m b.0.0) b.0.1) first.takes.moves others.takes in
      let single : IsType (sig a.0.0) = subst IsType (sym first.is) (typed k (omega arith) (omega arith)) in
      subst (FoundFields d (text k ++ texts ks) p) (some_is (more a.0.0 b.0.0, b.0.1) x b.2) (record {
        takes = Takes-then p (spell little p.0 a.0.0) a.0.1 (spells little (p.0 + length (spell little p.0 a.0.0)) b.0.0) b.0.1 first.takes at_others;
        is = ap (λ (s : List ℕ). s ++ sigs b.0.0) first.is ∙ ap (λ (s : List ℕ). text k ++ s) others.is;
        valid = (single, first.valid, subst (λ (m : ℕ). AreValues little m b.0.0) first.takes.moves others.valid);
        nests = omega (arith, first.nest, others.nests);
      })

  as_struct : (s : List ℕ) (n : ℕ) (vs : Plains) → 1 ≤ length s → sigs vs ≡ s → AreValues little (n + gap 8 n) vs → IsValue little n (struct vs)
  as_struct s n none long e are = absurd (omega (arith, ap length e))
  as_struct s n (more v vs) long e are = are

  struct_found : (d : ℕ) (read : List ℕ → Read) → Finds d read → (k : Kind) (ks : Kinds) (p : At) (x : Plain × At) → arrays (ty_struct k ks) ≤ 32 → structs (ty_struct k ks) ≤ 32
      → IsBytes p.1 → struct_at read (text k ++ (texts ks ++ 41 ∷ [])) p ≡ Some x → Found (suc d) (text (ty_struct k ks)) p x
  unfolding struct_at
  struct_found d read finds k ks p x u w fits e =
      let s = text k ++ (texts ks ++ 41 ∷ []) in
      let all = and_kind k ks in
      let a = bind_some (gap_at 8 p) (λ q. fields_at read (suc (length s)) s q >>= λ vs. Some (struct vs.0, vs.1)) x e in
      let b = bind_some (fields_at read (suc (length s)) s a.0) (λ vs. Some (struct vs.0, vs.1)) x a.2 in
      let t = gap_takes 8 p a.0 fits a.1 in
      let group : s ≡ (text k ++ texts ks) ++ 41 ∷ [] = sym (append_assoc (text k) (texts ks) (41 ∷ [])) in
      let e1 = subst (λ (y : List ℕ). fields_at read (suc (length s)) y a.0 ≡ Some b.0) group b.1 in
      let f = fields_found d read finds all (suc (length s)) (41 ∷ []) a.0 b.0 (omega arith) (omega arith) refl t.fits e1 in
      let from : a.0.0 ≡ p.0 + gap 8 p.0 = t.moves ∙ ap (λ (m : ℕ). p.0 + m) (length-zeros (gap 8 p.0)) in
      let body = subst (λ (m : ℕ). Takes a.0 (spells little m b.0.0) b.0.1) from f.takes in
      subst (Found (suc d) (text (ty_struct k ks)) p) (some_is (struct b.0.0, b.0.1) x b.2) (record {
        takes = Takes-then p (zeros (gap 8 p.0)) a.0 (spells little (p.0 + gap 8 p.0) b.0.0) b.0.1 t body;
        is = ap (λ (y : List ℕ). 40 ∷ (y ++ 41 ∷ [])) f.is ∙ ap (λ (y : List ℕ). 40 ∷ y) (append_assoc (text k) (texts ks) (41 ∷ []));
        valid = as_struct (texts all) p.0 b.0.0 (omega (arith, text_len k, length-append (text k) (texts ks))) f.is (subst (λ (m : ℕ). AreValues little m b.0.0) from f.valid);
        nest = omega (arith, f.nests);
      })

  variant_found : (d : ℕ) (read : List ℕ → Read) → Finds d read → (p : At) (x : Plain × At) → IsBytes p.1 → variant_at read p ≡ Some x → Found (suc d) (118 ∷ []) p x
  unfolding variant_at
  variant_found d read finds p x fits e =
      let a = bind_some (sign_at p) (λ t. cond (is_single t.0) (read t.0 t.1 >>= λ v. Some (variant v.0, v.1)) None) x e in
      let s = a.0.0 in
      let t = sign_takes p a.0 fits a.1 in
      elim (chosen (is_single s) (read s a.0.1 >>= λ v. Some (variant v.0, v.1)) None x a.2) [
        | inr h ↦ absurd (absurd_none x h.1)
        | inl h ↦
            let single = single_is s h.0 in
            let b = bind_some (read s a.0.1) (λ v. Some (variant v.0, v.1)) x h.1 in
            let f = subst (λ (y : List ℕ). Found d y a.0.1 b.0) (sym single.is) (finds single.kind a.0.1 b.0 single.arrays single.structs t.0.fits (subst (λ (y : List ℕ). read y a.0.1 ≡ Some b.0) single.is b.1)) in
            let len : length (length s ∷ (s ++ 0 ∷ [])) ≡ length s + 2 = omega (arith, length-append s (0 ∷ [])) in
            let from : a.0.1.0 ≡ p.0 + 1 + length s + 1 = omega (arith, t.0.moves, len) in
            let body = subst (λ (m : ℕ). Takes a.0.1 (spell little m b.0.0) b.0.1) from f.takes in
            let both = Takes-then p (length s ∷ (s ++ 0 ∷ [])) a.0.1 (spell little (p.0 + 1 + length s + 1) b.0.0) b.0.1 t.0 body in
            let grouped = subst (λ (xs : List ℕ). Takes p (length s ∷ xs) b.0.1) (append_assoc s (0 ∷ []) (spell little (p.0 + 1 + length s + 1) b.0.0)) both in
            let named = subst (λ (y : List ℕ). Takes p (length y ∷ (y ++ (0 ∷ spell little (p.0 + 1 + length y + 1) b.0.0))) b.0.1) (sym f.is) grouped in
            let at_start : IsValue little (p.0 + 1 + length (sig b.0.0) + 1) b.0.0 = subst (λ (m : ℕ). IsValue little m b.0.0) (from ∙ ap (λ (y : List ℕ). p.0 + 1 + length y + 1) (sym f.is)) f.valid in
            let single' : IsType (sig b.0.0) = subst IsType (sym f.is) single in
            subst (Found (suc d) (118 ∷ []) p) (some_is (variant b.0.0, b.0.1) x b.2) (record {
              takes = named;
              is = refl;
              valid = (single', omega (arith, ap length f.is, t.1), at_start);
              nest = omega (arith, f.nest);
            })
      ]
    where
      absurd_none : (x : Plain × At) → None ≡ Some x → ⊥
      absurd_none x e = cc

  entry_found : (d : ℕ) (read : List ℕ → Read) → Finds d read → (b : Basic) (k : Kind) (p : At) (x : Plain × At) → arrays k ≤ 32 → structs k ≤ 32
      → IsBytes p.1 → entry_at read (letter b ∷ (text k ++ 125 ∷ [])) p ≡ Some x → Found (suc d) (123 ∷ (letter b ∷ (text k ++ 125 ∷ []))) p x
  unfolding entry_at
  entry_found d read finds b k p x u w fits e =
      let s = letter b ∷ (text k ++ 125 ∷ []) in
      let front : take (length s - 2) (text k ++ 125 ∷ []) ≡ text k = ap (λ (m : ℕ). take m (text k ++ 125 ∷ [])) (omega (arith, length-append (text k) (125 ∷ []))) ∙ take_at (text k) (125 ∷ []) (length (text k)) refl in
      let a = bind_some (gap_at 8 p) (λ q. read (letter b ∷ []) q >>= λ y. read (take (length s - 2) (text k ++ 125 ∷ [])) y.1 >>= λ v. Some (entry y.0 v.0, v.1)) x e in
      let y = bind_some (read (letter b ∷ []) a.0) (λ y. read (take (length s - 2) (text k ++ 125 ∷ [])) y.1 >>= λ v. Some (entry y.0 v.0, v.1)) x a.2 in
      let v = bind_some (read (take (length s - 2) (text k ++ 125 ∷ [])) y.0.1) (λ v. Some (entry y.0.0 v.0, v.1)) x y.2 in
      let t = gap_takes 8 p a.0 fits a.1 in
      let from : a.0.0 ≡ p.0 + gap 8 p.0 = t.moves ∙ ap (λ (m : ℕ). p.0 + m) (length-zeros (gap 8 p.0)) in
      let key = finds (ty_basic b) a.0 y.0 (omega arith) (omega arith) t.fits y.1 in
      let value = finds k y.0.1 v.0 u w key.takes.fits (subst (λ (z : List ℕ). read z y.0.1 ≡ Some v.0) front v.1) in
      entry_join d b k p a.0 y.0 v.0 x u w from t key value (some_is (entry y.0.0 v.0.0, v.0.1) x v.2)
    where
      entry_join : (d : ℕ) (b : Basic) (k : Kind) (p q : At) (y v x : Plain × At) → arrays k ≤ 32 → structs k ≤ 32 → q.0 ≡ p.0 + gap 8 p.0
          → Takes p (zeros (gap 8 p.0)) q → Found d (letter b ∷ []) q y → Found d (text k) y.1 v → (entry y.0 v.0, v.1) ≡ x
          → Found (suc d) (123 ∷ (letter b ∷ (text k ++ 125 ∷ []))) p x
      entry_join d b k p q y v x u w from t key value e =
          let m = p.0 + gap 8 p.0 in
          let first : Takes q (spell little m y.0) y.1 = subst (λ (n : ℕ). Takes q (spell little n y.0) y.1) from key.takes in
          let second : y.1.0 ≡ m + length (spell little m y.0) = first.moves ∙ ap (λ (n : ℕ). n + length (spell little m y.0)) from in
          let behind : Takes y.1 (spell little (m + length (spell little m y.0)) v.0) v.1 = subst (λ (n : ℕ). Takes y.1 (spell little n v.0) v.1) second value.takes in
          let both = Takes-then q (spell little m y.0) y.1 (spell little (m + length (spell little m y.0)) v.0) v.1 first behind in
          subst (Found (suc d) (123 ∷ (letter b ∷ (text k ++ 125 ∷ []))) p) e (record {
            takes = Takes-then p (zeros (gap 8 p.0)) q (spell little m y.0 ++ spell little (m + length (spell little m y.0)) v.0) v.1 t both;
            is = ap (λ (s : List ℕ). 123 ∷ (s ++ (sig v.0 ++ 125 ∷ []))) key.is ∙ ap (λ (s : List ℕ). 123 ∷ (letter b ∷ (s ++ 125 ∷ []))) value.is;
            valid = (
              (b, key.is),
              subst IsType (sym value.is) (typed k u w),
              subst (λ (n : ℕ). IsValue little n y.0) from key.valid,
              subst (λ (n : ℕ). IsValue little n v.0) second value.valid,
            );
            nest = omega (arith, key.nest, value.nest);
          })

  -- no container is read as a basic type
  no_leaf : (c : ℕ) (p : At) (x : Plain × At) → basic_of c ≡ None → leaf_at little c p ≡ Some x → ⊥
  unfolding leaf_at
  no_leaf c p x e f = absurd_some x (rw e at f)
    where
      absurd_some : (x : Plain × At) → None ≡ Some x → ⊥
      absurd_some x e = cc

  no_containers : (basic_of 118 ≡ None) × (basic_of 97 ≡ None) × (basic_of 40 ≡ None) × (basic_of 123 ≡ None)
  unfolding basic_of
  no_containers = (refl, refl, refl, refl)

  abbrev entry_type : (b : Basic) (k : Kind) → arrays k ≤ 32 → structs k ≤ 32 → IsItemType (123 ∷ (letter b ∷ (text k ++ 125 ∷ [])))
  entry_type b k u w = inr (record { key = b; value = k; is = refl; arrays = u; structs = w })

  mutual
    unfolding value_at

    pub value_found : (d : ℕ) → Finds d (value_at d little)
    value_found zero (ty_basic b) p x u w fits e = leaf_found b zero p x fits e
    value_found zero ty_variant p x u w fits e = absurd (no_leaf 118 p x no_containers.0 e)
    value_found zero (ty_array k) p x u w fits e = absurd (no_leaf 97 p x no_containers.1 e)
    value_found zero (ty_dict b k) p x u w fits e = absurd (no_leaf 97 p x no_containers.1 e)
    value_found zero (ty_struct k ks) p x u w fits e = absurd (no_leaf 40 p x no_containers.2 e)
    value_found (suc d) (ty_basic b) p x u w fits e = leaf_found b (suc d) p x fits (rw (not_array b, not_struct b, not_brace b, not_variant b) at e)
    value_found (suc d) ty_variant p x u w fits e = variant_found d (value_at d little) (value_found d) p x fits e
    value_found (suc d) (ty_array k) p x u w fits e = array_found d (value_at d little (text k)) (text k) (inl (typed k (omega arith) w)) (λ q y f h. value_found d k q y (omega arith) w f h) p x fits e
    value_found (suc d) (ty_dict b k) p x u w fits e = array_found d (value_at d little (123 ∷ (letter b ∷ (text k ++ 125 ∷ [])))) _ (entry_type b k (omega arith) w) (λ q y f h. pair_found d b k q y (omega arith) w f h) p x fits e
    value_found (suc d) (ty_struct k ks) p x u w fits e = struct_found d (value_at d little) (value_found d) k ks p x u w fits e

    pub pair_found : (d : ℕ) (b : Basic) (k : Kind) (p : At) (x : Plain × At) → arrays k ≤ 32 → structs k ≤ 32 → IsBytes p.1
        → value_at d little (123 ∷ (letter b ∷ (text k ++ 125 ∷ []))) p ≡ Some x → Found d (123 ∷ (letter b ∷ (text k ++ 125 ∷ []))) p x
    pair_found zero b k p x u w fits e = absurd (no_leaf 123 p x no_containers.3 e)
    pair_found (suc d) b k p x u w fits e = entry_found d (value_at d little) (value_found d) b k p x u w fits e

  pub item_found : (d : ℕ) (s : List ℕ) (p : At) (x : Plain × At) → IsItemType s → IsBytes p.1 → value_at d little s p ≡ Some x → Found d s p x
  item_found d s p x t fits e = elim t [
    | inl h ↦ subst (λ (y : List ℕ). Found d y p x) (sym h.is) (value_found d h.kind p x h.arrays h.structs fits (subst (λ (y : List ℕ). value_at d little y p ≡ Some x) h.is e))
    | inr h ↦ subst (λ (y : List ℕ). Found d y p x) (sym h.is) (pair_found d h.key h.value p x h.arrays h.structs fits (subst (λ (y : List ℕ). value_at d little y p ≡ Some x) h.is e))
  ]
