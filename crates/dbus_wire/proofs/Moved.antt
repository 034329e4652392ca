-- Where a value begins matters only up to multiples of 8.
use Rattle.std.proofs.Common.{◌≡◌, ℕ, zero, suc, ◌+◌, ◌-◌, ◌%◌, ◌≤◌, ◌^◌, Bool, true, false, ◌||◌, cond, eqb, List, [], ◌∷◌, ◌++◌, length, get_or, refl, sym, ap, subst, ◌∙◌, arith}
use Rattle.wire_value.specs.Types.{Fixed, byte, boolean, int16, uint16, int32, uint32, int64, uint64, double, unix_fd, string, object_path, signature, width}
use Rattle.wire_value.specs.Plain.{Plain, number, words, array, struct, entry, variant, Plains, none, more, sig}
use Rattle.wire_value.specs.Spelling.{zeros, gap, word, alignment, first_item, spell, spells, IsValue, AreValues, AreOf}

module _ (n m : ℕ) (same : n % 8 ≡ m % 8) where
  same_1 : gap 1 n ≡ gap 1 m
  unfolding gap
  same_1 = omega arith

  same_2 : gap 2 n ≡ gap 2 m
  unfolding gap
  same_2 = omega arith

  same_4 : gap 4 n ≡ gap 4 m
  unfolding gap
  same_4 = omega arith

  same_8 : gap 8 n ≡ gap 8 m
  unfolding gap
  same_8 = omega arith

  same_width : (f : Fixed) → gap (width f) n ≡ gap (width f) m
  same_width byte = same_1
  same_width boolean = same_4
  same_width int16 = same_2
  same_width uint16 = same_2
  same_width int32 = same_4
  same_width uint32 = same_4
  same_width int64 = same_8
  same_width uint64 = same_8
  same_width double = same_8
  same_width unix_fd = same_4

  same_by : (a b c : Bool) → gap (cond a 1 (cond b 2 (cond c 8 4))) n ≡ gap (cond a 1 (cond b 2 (cond c 8 4))) m
  same_by true b c = same_1
  same_by false true c = same_2
  same_by false false true = same_8
  same_by false false false = same_4

  same_alignment : (s : List ℕ) → gap (alignment s) n ≡ gap (alignment s) m
  unfolding alignment
  same_alignment s =
      let c = get_or s 0 0 in
      same_by (((eqb c 121) || (eqb c 103)) || (eqb c 118)) ((eqb c 110) || (eqb c 113)) (((((eqb c 120) || (eqb c 116)) || (eqb c 100)) || (eqb c 40)) || (eqb c 123))

  same_add : (k l : ℕ) → k ≡ l → (n + k) % 8 ≡ (m + l) % 8
  same_add k l e = omega arith

module _ (little : Bool) where
  abbrev array_text : ℕ → ℕ → List ℕ → List ℕ
  array_text a k body = zeros a ++ (word little 4 (length body) ++ (zeros k ++ body))

  same_length : (n m : ℕ) → n % 8 ≡ m % 8 → gap 4 n ≡ gap 4 m → (n + gap 4 n + 4) % 8 ≡ (m + gap 4 m + 4) % 8
  same_length n m e g = omega arith

  behind_type : (n m : ℕ) → n % 8 ≡ m % 8 → (k : ℕ) → (n + 1 + k + 1) % 8 ≡ (m + 1 + k + 1) % 8
  behind_type n m e k = omega arith

  mutual
    moved_spell : (v : Plain) (n m : ℕ) → n % 8 ≡ m % 8 → spell little n v ≡ spell little m v
    moved_spell (number f x) n m e = ap (λ (k : ℕ). zeros k ++ word little (width f) x) (same_width n m e f)
    moved_spell (words string t) n m e = ap (λ (k : ℕ). zeros k ++ (word little 4 (length t) ++ (t ++ 0 ∷ []))) (same_4 n m e)
    moved_spell (words object_path t) n m e = ap (λ (k : ℕ). zeros k ++ (word little 4 (length t) ++ (t ++ 0 ∷ []))) (same_4 n m e)
    moved_spell (words signature t) n m e = refl
    moved_spell (array item vs) n m e =
        let p = n + gap 4 n + 4 in
        let q = m + gap 4 m + 4 in
        let pq = same_length n m e (same_4 n m e) in
        let h = same_alignment p q pq item in
        let b = moved_spells vs (first_item item p) (first_item item q) (same_add p q pq (gap (alignment item) p) (gap (alignment item) q) h) in
        ap (λ (x : ℕ). array_text x (gap (alignment item) p) (spells little (first_item item p) vs)) (same_4 n m e)
        ∙ ap (λ (x : ℕ). array_text (gap 4 m) x (spells little (first_item item p) vs)) h
        ∙ ap (λ (x : List ℕ). array_text (gap 4 m) (gap (alignment item) q) x) b
    moved_spell (struct vs) n m e =
        let g = same_8 n m e in
        ap (λ (k : ℕ). zeros k ++ spells little (n + gap 8 n) vs) g
        ∙ ap (λ (t : List ℕ). zeros (gap 8 m) ++ t) (moved_spells vs (n + gap 8 n) (m + gap 8 m) (same_add n m e (gap 8 n) (gap 8 m) g))
    moved_spell (entry k v) n m e =
        let g = same_8 n m e in
        let p = n + gap 8 n in
        let q = m + gap 8 m in
        let pq = same_add n m e (gap 8 n) (gap 8 m) g in
        let a = moved_spell k p q pq in
        let b = moved_spell v (p + length (spell little p k)) (q + length (spell little q k)) (same_add p q pq (length (spell little p k)) (length (spell little q k)) (ap length a)) in
        ap (λ (x : ℕ). zeros x ++ (spell little p k ++ spell little (p + length (spell little p k)) v)) g
        ∙ ap (λ (t : List ℕ). zeros (gap 8 m) ++ (t ++ spell little (p + length (spell little p k)) v)) a
        ∙ ap (λ (t : List ℕ). zeros (gap 8 m) ++ (spell little q k ++ t)) b
    moved_spell (variant v) n m e =
        ap (λ (t : List ℕ). length (sig v) ∷ (sig v ++ (0 ∷ t))) (moved_spell v (n + 1 + length (sig v) + 1) (m + 1 + length (sig v) + 1) (behind_type n m e (length (sig v))))

    pub moved_spells : (vs : Plains) (n m : ℕ) → n % 8 ≡ m % 8 → spells little n vs ≡ spells little m vs
    moved_spells none n m e = refl
    moved_spells (more v vs) n m e =
        let a = moved_spell v n m e in
        let b = moved_spells vs (n + length (spell little n v)) (m + length (spell little m v)) (same_add n m e (length (spell little n v)) (length (spell little m v)) (ap length a)) in
        ap (λ (t : List ℕ). t ++ spells little (n + length (spell little n v)) vs) a ∙ ap (λ (t : List ℕ). spell little m v ++ t) b

  mutual
    moved_value : (v : Plain) (n m : ℕ) → n % 8 ≡ m % 8 → IsValue little n v → IsValue little m v
    moved_value (number f x) n m e h = h
    moved_value (words k t) n m e h = h
    moved_value (array item vs) n m e h =
        let p = n + gap 4 n + 4 in
        let q = m + gap 4 m + 4 in
        let pq = same_length n m e (same_4 n m e) in
        let first = same_add p q pq (gap (alignment item) p) (gap (alignment item) q) (same_alignment p q pq item) in
        (h.0, subst (λ (t : List ℕ). length t ≤ 2 ^ 26) (moved_spells vs (first_item item p) (first_item item q) first) h.1, moved_of item vs (first_item item p) (first_item item q) first h.2)
    moved_value (struct none) n m e h = h
    moved_value (struct (more v vs)) n m e h = moved_values (more v vs) (n + gap 8 n) (m + gap 8 m) (same_add n m e (gap 8 n) (gap 8 m) (same_8 n m e)) h
    moved_value (entry k v) n m e h =
        let p = n + gap 8 n in
        let q = m + gap 8 m in
        let pq = same_add n m e (gap 8 n) (gap 8 m) (same_8 n m e) in
        (h.0, h.1, moved_value k p q pq h.2, moved_value v (p + length (spell little p k)) (q + length (spell little q k)) (same_add p q pq (length (spell little p k)) (length (spell little q k)) (ap length (moved_spell k p q pq))) h.3)
    moved_value (variant v) n m e h = (h.0, h.1, moved_value v (n + 1 + length (sig v) + 1) (m + 1 + length (sig v) + 1) (behind_type n m e (length (sig v))) h.2)

    pub moved_values : (vs : Plains) (n m : ℕ) → n % 8 ≡ m % 8 → AreValues little n vs → AreValues little m vs
    moved_values none n m e h = tt
    moved_values (more v vs) n m e h =
        (h.0, moved_value v n m e h.1, moved_values vs (n + length (spell little n v)) (m + length (spell little m v)) (same_add n m e (length (spell little n v)) (length (spell little m v)) (ap length (moved_spell v n m e))) h.2)

    moved_of : (item : List ℕ) (vs : Plains) (n m : ℕ) → n % 8 ≡ m % 8 → AreOf little item n vs → AreOf little item m vs
    moved_of item none n m e h = tt
    moved_of item (more v vs) n m e h =
        (h.0, moved_value v n m e h.1, moved_of item vs (n + length (spell little n v)) (m + length (spell little m v)) (same_add n m e (length (spell little n v)) (length (spell little m v)) (ap length (moved_spell v n m e))) h.2)
