-- What is spelled is read, whatever follows it.
use Rattle.std.proofs.Common.{◌≡◌, ℕ, zero, suc, ◌+◌, ◌-◌, ◌^◌, ◌<◌, ◌≤◌, Bool, true, false, eqb, List, [], ◌∷◌, ◌++◌, length, take, Option, Some, refl, sym, ap, subst, ◌∙◌, append_assoc, arith}
use Rattle.std.proofs.lemmas.Bool.{le-leb}
use Rattle.std.proofs.lemmas.Bool.Decides.{nat_tests}
use Rattle.std.proofs.lemmas.List.{length-append, take_at}
use Rattle.wire_value.specs.Types.{Fixed, Textual, string, object_path, signature, fixed, textual, Basic, byte, boolean, int16, uint16, int32, uint32, int64, uint64, double, unix_fd, letter, fixed_letter, textual_letter, width, Kind, ty_basic, ty_variant, ty_array, ty_dict, ty_struct, text, IsType}
use Rattle.wire_value.specs.Plain.{Plain, number, words, array, struct, entry, variant, Plains, none, more, sig, sigs, nest, nests}
use Rattle.wire_value.specs.Spelling.{zeros, gap, word, alignment, first_item, below, IsTextual, spell, spells, IsValue, AreValues, AreOf}
use Rattle.wire_value.specs.Reading.{At, Read, one_type, is_end, basic_at, leaf_at, items_at, body_at, array_at, fields_at, struct_at, entry_at, variant_at, value_at}
use Rattle.wire_value.proofs.Steps.{suc_is_not, length-zeros, length-word, gap_again, word_again, fixed_again, str_again, path_again, sign_again, bytes_again}
use Rattle.wire_value.proofs.TypeLaws.{text_len, type_again, basic_again, not_end, not_array, not_struct, not_brace, not_variant}
use Rattle.wire_value.proofs.Signatures.{signature_again, single_again, take_front}

items_done : (read : Read) (g n : ℕ) → items_at read g (n, []) ≡ Some none
unfolding items_at
items_done read zero n = refl
items_done read (suc g) n = refl

items_step : (read : Read) (g : ℕ) (p : At) (v : Plain) (q : At) (vs : Plains) → 1 ≤ length p.1 → read p ≡ Some (v, q) → items_at read g q ≡ Some vs
    → items_at read (suc g) p ≡ Some (more v vs)
unfolding items_at
items_step read g p v q vs long e f =
    let not_empty : eqb (length p.1) 0 ≡ false = grind (arith, nat_tests) in
    rw (not_empty, e, f) refl

pub type_goes_on : (k : Kind) (x : List ℕ) → is_end (text k ++ x) ≡ false
type_goes_on (ty_basic b) x = rw (suc_is_not (length x), not_end b) refl
type_goes_on ty_variant x = rw suc_is_not refl
type_goes_on (ty_array k) x = rw suc_is_not refl
type_goes_on (ty_dict b k) x = rw suc_is_not refl
type_goes_on (ty_struct k ks) x = rw suc_is_not refl

fields_done : (read : List ℕ → Read) (g : ℕ) (s : List ℕ) (p : At) → is_end s ≡ true → fields_at read (suc g) s p ≡ Some (none, p)
unfolding fields_at
fields_done read g s p e = rw e refl

pub fields_step : (read : List ℕ → Read) (g : ℕ) (s rest : List ℕ) (p q r : At) (v : Plain) (vs : Plains) (t : IsType s) → read s p ≡ Some (v, q) → fields_at read g rest q ≡ Some (vs, r)
    → fields_at read (suc g) (s ++ rest) p ≡ Some (more v vs, r)
unfolding fields_at
fields_step read g s rest p q r v vs t e f =
    let goes_on : is_end (s ++ rest) ≡ false = subst (λ (x : List ℕ). is_end (x ++ rest) ≡ false) (sym t.is) (type_goes_on t.kind rest) in
    let first : one_type (s ++ rest) ≡ Some rest = subst (λ (x : List ℕ). one_type (x ++ rest) ≡ Some rest) (sym t.is) (type_again t.kind 64 32 32 rest t.arrays t.structs (omega arith)) in
    rw (goes_on, first, take_front s rest, e, f) refl

module _ (little : Bool) where
  body_again : (item : List ℕ) (n : ℕ) (body rest : List ℕ) → length body ≤ 2 ^ 26
      → body_at little item (n, zeros (gap 4 n) ++ (word little 4 (length body) ++ (zeros (gap (alignment item) (n + gap 4 n + 4)) ++ (body ++ rest))))
      ≡ Some ((first_item item (n + gap 4 n + 4), body), (first_item item (n + gap 4 n + 4) + length body, rest))
  unfolding body_at
  body_again item n body rest le =
      let lt : length body < 256 ^ 4 = omega arith in
      let small = le-leb _ _ le in
      rw (
        word_again little 4 n (length body) (zeros (gap (alignment item) (n + gap 4 n + 4)) ++ (body ++ rest)) lt,
        gap_again (alignment item) (n + gap 4 n + 4) (body ++ rest),
        bytes_again (length body) (first_item item (n + gap 4 n + 4)) body rest refl,
        small,
      ) refl

  array_again : (read : Read) (item : List ℕ) (n : ℕ) (vs : Plains) (body rest : List ℕ) → length body ≤ 2 ^ 26
      → items_at read (length body) (first_item item (n + gap 4 n + 4), body) ≡ Some vs
      → array_at read little item (n, zeros (gap 4 n) ++ (word little 4 (length body) ++ (zeros (gap (alignment item) (n + gap 4 n + 4)) ++ (body ++ rest))))
      ≡ Some (array item vs, (first_item item (n + gap 4 n + 4) + length body, rest))
  unfolding array_at
  array_again read item n vs body rest le e = rw (body_again item n body rest le, e) refl

  struct_again : (read : List ℕ → Read) (s : List ℕ) (n : ℕ) (vs : Plains) (body rest : List ℕ) (q : At)
      → fields_at read (suc (length s)) s (n + gap 8 n, body ++ rest) ≡ Some (vs, q)
      → struct_at read s (n, zeros (gap 8 n) ++ (body ++ rest)) ≡ Some (struct vs, q)
  unfolding struct_at
  struct_again read s n vs body rest q e = rw (gap_again 8 n (body ++ rest), e) refl

  entry_again : (read : List ℕ → Read) (t : List ℕ) (c : ℕ) (n : ℕ) (k v : Plain) (body : List ℕ) (q r : At)
      → read (c ∷ []) (n + gap 8 n, body) ≡ Some (k, q) → read t q ≡ Some (v, r)
      → entry_at read (c ∷ (t ++ 125 ∷ [])) (n, zeros (gap 8 n) ++ body) ≡ Some (entry k v, r)
  unfolding entry_at
  entry_again read t c n k v body q r e f =
      let front : take (suc (length (t ++ 125 ∷ [])) - 2) (t ++ 125 ∷ []) ≡ t = ap (λ (m : ℕ). take m (t ++ 125 ∷ [])) (omega (arith, length-append t (125 ∷ []))) ∙ take_at t (125 ∷ []) (length t) refl in
      rw (gap_again 8 n body, e, front, f) refl

  variant_again : (read : List ℕ → Read) (t : List ℕ) (n : ℕ) (v : Plain) (body : List ℕ) (q : At) → IsType t
      → read t (n + 1 + length t + 1, body) ≡ Some (v, q) → variant_at read (n, length t ∷ (t ++ (0 ∷ body))) ≡ Some (variant v, q)
  unfolding variant_at
  variant_again read t n v body q is e = rw (sign_again n t body, single_again t is, e) refl

  pub number_len : (f : Fixed) → 1 ≤ width f
  number_len byte = omega arith
  number_len boolean = omega arith
  number_len int16 = omega arith
  number_len uint16 = omega arith
  number_len int32 = omega arith
  number_len uint32 = omega arith
  number_len int64 = omega arith
  number_len uint64 = omega arith
  number_len double = omega arith
  number_len unix_fd = omega arith

  pub spell_len : (v : Plain) (n : ℕ) → IsValue little n v → 1 ≤ length (spell little n v)
  spell_len (number f x) n is = omega (arith, number_len f, length-append (zeros (gap (width f) n)) (word little (width f) x), length-word little (width f) x)
  spell_len (words string t) n is = omega (arith, length-append (zeros (gap 4 n)) (word little 4 (length t) ++ (t ++ 0 ∷ [])), length-append (word little 4 (length t)) (t ++ 0 ∷ []), length-word little 4 (length t))
  spell_len (words object_path t) n is = omega (arith, length-append (zeros (gap 4 n)) (word little 4 (length t) ++ (t ++ 0 ∷ [])), length-append (word little 4 (length t)) (t ++ 0 ∷ []), length-word little 4 (length t))
  spell_len (words signature t) n is = omega arith
  spell_len (array item vs) n is =
      let body = spells little (first_item item (n + gap 4 n + 4)) vs in
      let rest = zeros (gap (alignment item) (n + gap 4 n + 4)) ++ body in
      omega (arith, length-append (zeros (gap 4 n)) (word little 4 (length body) ++ rest), length-append (word little 4 (length body)) rest, length-word little 4 (length body))
  spell_len (struct none) n is = elim is [ ]
  spell_len (struct (more v vs)) n is =
      let m = n + gap 8 n in
      let rest = spells little (m + length (spell little m v)) vs in
      omega (arith, spell_len v m is.1, length-append (zeros (gap 8 n)) (spell little m v ++ rest), length-append (spell little m v) rest)
  spell_len (entry k v) n is =
      let m = n + gap 8 n in
      let a = spell little m k in
      let b = spell little (m + length a) v in
      omega (arith, spell_len k m is.2, length-append (zeros (gap 8 n)) (a ++ b), length-append a b)
  spell_len (variant v) n is = omega arith

  leaf_is : (b : Basic) (d : ℕ) (p : At) → value_at d little (letter b ∷ []) p ≡ basic_at little b p
  unfolding value_at leaf_at
  leaf_is b zero p = rw (basic_again b) refl
  leaf_is b (suc d) p = rw (not_array b, not_struct b, not_brace b, not_variant b, basic_again b) refl

  array_is : (d : ℕ) (item : List ℕ) (p : At) → value_at (suc d) little (97 ∷ item) p ≡ array_at (value_at d little item) little item p
  unfolding value_at
  array_is d item p = refl

  struct_is : (d : ℕ) (s : List ℕ) (p : At) → value_at (suc d) little (40 ∷ s) p ≡ struct_at (value_at d little) s p
  unfolding value_at
  struct_is d s p = refl

  entry_is : (d : ℕ) (s : List ℕ) (p : At) → value_at (suc d) little (123 ∷ s) p ≡ entry_at (value_at d little) s p
  unfolding value_at
  entry_is d s p = refl

  variant_is : (d : ℕ) (p : At) → value_at (suc d) little (118 ∷ []) p ≡ variant_at (value_at d little) p
  unfolding value_at
  variant_is d p = refl

  reads_at : {A : Type 0} (v : A) (o : Option (A × At)) (m k : ℕ) (rest : List ℕ) → o ≡ Some (v, (m, rest)) → m ≡ k → o ≡ Some (v, (k, rest))
  reads_at v o m k rest e f = e ∙ ap (λ (x : ℕ). Some (v, (x, rest))) f

  number_again : (f : Fixed) (x d n : ℕ) (rest : List ℕ) → x < below f
      → value_at d little (fixed_letter f ∷ []) (n, spell little n (number f x) ++ rest) ≡ Some (number f x, (n + length (spell little n (number f x)), rest))
  number_again f x d n rest is =
      let z = zeros (gap (width f) n) in
      let w = word little (width f) x in
      let e : (z ++ w) ++ rest ≡ z ++ (w ++ rest) = append_assoc z w rest in
      let m : n + gap (width f) n + width f ≡ n + length (z ++ w) = omega (arith, length-append z w, length-word little (width f) x, length-zeros (gap (width f) n)) in
      reads_at (number f x) _ (n + gap (width f) n + width f) _ rest (leaf_is (fixed f) d (n, (z ++ w) ++ rest) ∙ rw (e, fixed_again little f n x rest is) refl) m

  words_end : (n : ℕ) (t : List ℕ) → n + gap 4 n + 4 + length t + 1 ≡ n + length (zeros (gap 4 n) ++ (word little 4 (length t) ++ (t ++ 0 ∷ [])))
  words_end n t =
      let z = zeros (gap 4 n) in
      let w = word little 4 (length t) in
      omega (arith, length-append z (w ++ (t ++ 0 ∷ [])), length-append w (t ++ 0 ∷ []), length-append t (0 ∷ []), length-word little 4 (length t), length-zeros (gap 4 n))

  words_again : (k : Textual) (t : List ℕ) (d n : ℕ) (rest : List ℕ) → IsTextual k t
      → value_at d little (textual_letter k ∷ []) (n, spell little n (words k t) ++ rest) ≡ Some (words k t, (n + length (spell little n (words k t)), rest))
  words_again string t d n rest is =
      let text = zeros (gap 4 n) ++ (word little 4 (length t) ++ (t ++ 0 ∷ [])) in
      let e : text ++ rest ≡ zeros (gap 4 n) ++ (word little 4 (length t) ++ (t ++ (0 ∷ rest))) = simp append_assoc in
      reads_at (words string t) _ (n + gap 4 n + 4 + length t + 1) _ rest (leaf_is (textual string) d (n, text ++ rest) ∙ rw (e, str_again little n t rest is) refl) (words_end n t)
  words_again object_path t d n rest is =
      let text = zeros (gap 4 n) ++ (word little 4 (length t) ++ (t ++ 0 ∷ [])) in
      let e : text ++ rest ≡ zeros (gap 4 n) ++ (word little 4 (length t) ++ (t ++ (0 ∷ rest))) = simp append_assoc in
      reads_at (words object_path t) _ (n + gap 4 n + 4 + length t + 1) _ rest (leaf_is (textual object_path) d (n, text ++ rest) ∙ rw (e, path_again little n t rest is) refl) (words_end n t)
  words_again signature t d n rest is =
      let text = length t ∷ (t ++ 0 ∷ []) in
      let e : text ++ rest ≡ length t ∷ (t ++ (0 ∷ rest)) = simp append_assoc in
      let len : length text ≡ 1 + (length t + 1) = omega (arith, length-append t (0 ∷ [])) in
      reads_at (words signature t) _ (n + 1 + length t + 1) _ rest (leaf_is (textual signature) d (n, text ++ rest) ∙ rw (e, sign_again n t rest, signature_again t is) refl) (omega (arith, len))

  mutual
    pub value_again : (v : Plain) (d n : ℕ) (rest : List ℕ) → IsValue little n v → nest v ≤ d
        → value_at d little (sig v) (n, spell little n v ++ rest) ≡ Some (v, (n + length (spell little n v), rest))
    value_again (number f x) d n rest is le = number_again f x d n rest is
    value_again (words k t) d n rest is le = words_again k t d n rest is
    value_again (array item vs) zero n rest is le = absurd (omega arith)
    value_again (array item vs) (suc d) n rest is le =
        let f = first_item item (n + gap 4 n + 4) in
        let body = spells little f vs in
        let z = zeros (gap 4 n) in
        let w = word little 4 (length body) in
        let y = zeros (gap (alignment item) (n + gap 4 n + 4)) in
        let text = z ++ (w ++ (y ++ body)) in
        let len : length text ≡ gap 4 n + (4 + (gap (alignment item) (n + gap 4 n + 4) + length body)) =
        omega (arith, length-append z (w ++ (y ++ body)), length-append w (y ++ body), length-append y body, length-word little 4 (length body), length-zeros (gap 4 n), length-zeros (gap (alignment item) (n + gap 4 n + 4))) in
        let e : text ++ rest ≡ z ++ (w ++ (y ++ (body ++ rest))) = simp append_assoc in
        let items = items_again vs d f (length body) item is.2 (omega arith) (omega arith) in
        reads_at (array item vs) _ _ _ rest (array_is d item (n, text ++ rest) ∙ ap (λ (x : List ℕ). array_at (value_at d little item) little item (n, x)) e ∙ array_again (value_at d little item) item n vs body rest is.1 items) (omega (arith, len))
    value_again (struct none) d n rest is le = elim is [ ]
    value_again (struct (more v vs)) zero n rest is le = absurd (omega arith)
    value_again (struct (more v vs)) (suc d) n rest is le =
        let m = n + gap 8 n in
        let z = zeros (gap 8 n) in
        let body = spells little m (more v vs) in
        let s = sigs (more v vs) ++ 41 ∷ [] in
        let len : length (z ++ body) ≡ gap 8 n + length body = omega (arith, length-append z body, length-zeros (gap 8 n)) in
        let e : (z ++ body) ++ rest ≡ z ++ (body ++ rest) = append_assoc z body rest in
        let fields = fields_again (more v vs) d m (suc (length s)) (41 ∷ []) rest is (omega arith) refl (omega (arith, length-append (sigs (more v vs)) (41 ∷ []))) in
        reads_at (struct (more v vs)) _ _ _ rest (struct_is d s (n, (z ++ body) ++ rest) ∙ ap (λ (x : List ℕ). struct_at (value_at d little) s (n, x)) e ∙ struct_again (value_at d little) s n (more v vs) body rest _ fields) (omega (arith, len))
    value_again (entry k v) zero n rest is le = absurd (omega arith)
    value_again (entry k v) (suc d) n rest is le =
        let m = n + gap 8 n in
        let z = zeros (gap 8 n) in
        let a = spell little m k in
        let b = spell little (m + length a) v in
        let c = letter is.0.0 in
        let s = sig k ++ (sig v ++ 125 ∷ []) in
        let t = c ∷ (sig v ++ 125 ∷ []) in
        let same : s ≡ t = ap (λ (x : List ℕ). x ++ (sig v ++ 125 ∷ [])) is.0.1 in
        let len : length (z ++ (a ++ b)) ≡ gap 8 n + (length a + length b) = omega (arith, length-append z (a ++ b), length-append a b, length-zeros (gap 8 n)) in
        let e : (z ++ (a ++ b)) ++ rest ≡ z ++ (a ++ (b ++ rest)) = simp append_assoc in
        let key = subst (λ (x : List ℕ). value_at d little x (m, a ++ (b ++ rest)) ≡ Some (k, (m + length a, b ++ rest))) is.0.1 (value_again k d m (b ++ rest) is.2 (omega arith)) in
        let value = value_again v d (m + length a) rest is.3 (omega arith) in
        reads_at (entry k v) _ _ _ rest (entry_is d s (n, (z ++ (a ++ b)) ++ rest) ∙ ap (λ (x : List ℕ). entry_at (value_at d little) s (n, x)) e ∙ ap (λ (x : List ℕ). entry_at (value_at d little) x (n, z ++ (a ++ (b ++ rest)))) same ∙ entry_again (value_at d little) (sig v) c n k v (a ++ (b ++ rest)) _ _ key value) (omega (arith, len))
    value_again (variant v) zero n rest is le = absurd (omega arith)
    value_again (variant v) (suc d) n rest is le =
        let t = sig v in
        let body = spell little (n + 1 + length t + 1) v in
        let text = length t ∷ (t ++ (0 ∷ body)) in
        let e : text ++ rest ≡ length t ∷ (t ++ (0 ∷ (body ++ rest))) = simp append_assoc in
        let len : length text ≡ 1 + (length t + (1 + length body)) = omega (arith, length-append t (0 ∷ body)) in
        let inner = value_again v d (n + 1 + length t + 1) rest is.2 (omega arith) in
        reads_at (variant v) _ _ _ rest (variant_is d (n, text ++ rest) ∙ ap (λ (x : List ℕ). variant_at (value_at d little) (n, x)) e ∙ variant_again (value_at d little) t n v (body ++ rest) _ is.0 inner) (omega (arith, len))

    pub items_again : (vs : Plains) (d n g : ℕ) (item : List ℕ) → AreOf little item n vs → nests vs ≤ d → length (spells little n vs) ≤ g
        → items_at (value_at d little item) g (n, spells little n vs) ≡ Some vs
    items_again none d n g item are le long = items_done (value_at d little item) g n
    items_again (more v vs) d n zero item are le long =
        let a = spell little n v in
        absurd (omega (arith, spell_len v n are.1, length-append a (spells little (n + length a) vs)))
    items_again (more v vs) d n (suc g) item are le long =
        let a = spell little n v in
        let b = spells little (n + length a) vs in
        let len : length (a ++ b) ≡ length a + length b = length-append a b in
        let some : 1 ≤ length a = spell_len v n are.1 in
        let first : value_at d little item (n, a ++ b) ≡ Some (v, (n + length a, b)) =
        subst (λ (x : List ℕ). value_at d little x (n, a ++ b) ≡ Some (v, (n + length a, b))) are.0 (value_again v d n b are.1 (omega arith)) in
        items_step (value_at d little item) g (n, a ++ b) v (n + length a, b) vs (omega (arith, len)) first
        (items_again vs d (n + length a) g item are.2 (omega arith) (omega (arith, len, some, long)))

    pub fields_again : (vs : Plains) (d n g : ℕ) (tail rest : List ℕ) → AreValues little n vs → nests vs ≤ d → is_end tail ≡ true → length (sigs vs) < g
        → fields_at (value_at d little) g (sigs vs ++ tail) (n, spells little n vs ++ rest) ≡ Some (vs, (n + length (spells little n vs), rest))
    fields_again vs d n zero tail rest are le ends long = absurd (omega arith)
    fields_again none d n (suc g) tail rest are le ends long = reads_at none _ n (n + 0) rest (fields_done (value_at d little) g tail (n, rest) ends) (omega arith)
    fields_again (more v vs) d n (suc g) tail rest are le ends long =
        let a = spell little n v in
        let b = spells little (n + length a) vs in
        let s = sig v in
        let len : length (a ++ b) ≡ length a + length b = length-append a b in
        let first : value_at d little s (n, a ++ (b ++ rest)) ≡ Some (v, (n + length a, b ++ rest)) = value_again v d n (b ++ rest) are.1 (omega arith) in
        let some : 1 ≤ length s = omega (arith, ap length are.0.is, text_len are.0.kind) in
        let others = fields_again vs d (n + length a) g tail rest are.2 (omega arith) ends (omega (arith, some, length-append s (sigs vs))) in
        let step = fields_step (value_at d little) g s (sigs vs ++ tail) (n, a ++ (b ++ rest)) (n + length a, b ++ rest) _ v vs are.0 first others in
        let e1 : (s ++ sigs vs) ++ tail ≡ s ++ (sigs vs ++ tail) = append_assoc s (sigs vs) tail in
        let e2 : (a ++ b) ++ rest ≡ a ++ (b ++ rest) = append_assoc a b rest in
        reads_at (more v vs) _ _ _ rest (ap (λ (x : List ℕ). fields_at (value_at d little) (suc g) x (n, (a ++ b) ++ rest)) e1 ∙ ap (λ (x : List ℕ). fields_at (value_at d little) (suc g) (s ++ (sigs vs ++ tail)) (n, x)) e2 ∙ step) (omega (arith, len))
