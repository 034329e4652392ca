-- A spelling is as long as it says.
use Rattle.std.proofs.Common.{◌≡◌, ℕ, ◌+◌, ◌≤◌, Bool, true, List, [], ◌∷◌, ◌++◌, length, ap, ◌∙◌, arith}
use Rattle.std.proofs.lemmas.List.{length-append}
use Rattle.wire_value.specs.Types.{string, object_path, signature, width}
use Rattle.wire_value.specs.Plain.{Plain, number, words, array, struct, entry, variant, Plains, none, more, sig}
use Rattle.wire_value.specs.Spelling.{zeros, gap, word, alignment, first_item, spell, spells, AreValues, AreOf}
use Rattle.wire_value.specs.Sizes.{ends, end_all, Each}
use Rattle.wire_value.proofs.Steps.{length-zeros, length-word}

module _ (little : Bool) where
  text_ends : (n : ℕ) (t : List ℕ) → n + length (zeros (gap 4 n) ++ (word little 4 (length t) ++ (t ++ 0 ∷ []))) ≡ n + gap 4 n + 4 + length t + 1
  text_ends n t = omega (arith, length-append (zeros (gap 4 n)) (word little 4 (length t) ++ (t ++ 0 ∷ [])), length-append (word little 4 (length t)) (t ++ 0 ∷ []), length-append t (0 ∷ []), length-word little 4 (length t), length-zeros (gap 4 n))

  mutual
    pub ends_is : (v : Plain) (n : ℕ) → n + length (spell little n v) ≡ ends n v
    ends_is (number f x) n = omega (arith, length-append (zeros (gap (width f) n)) (word little (width f) x), length-word little (width f) x, length-zeros (gap (width f) n))
    ends_is (words string t) n = text_ends n t
    ends_is (words object_path t) n = text_ends n t
    ends_is (words signature t) n = omega (arith, length-append t (0 ∷ []))
    ends_is (array item vs) n =
        let s = n + gap 4 n + 4 in
        let body = spells little (first_item item s) vs in
        let y = zeros (gap (alignment item) s) in
        omega (arith, end_is vs (first_item item s), length-append (zeros (gap 4 n)) (word little 4 (length body) ++ (y ++ body)), length-append (word little 4 (length body)) (y ++ body), length-append y body, length-word little 4 (length body), length-zeros (gap 4 n), length-zeros (gap (alignment item) s))
    ends_is (struct vs) n =
        let body = spells little (n + gap 8 n) vs in
        omega (arith, end_is vs (n + gap 8 n), length-append (zeros (gap 8 n)) body, length-zeros (gap 8 n))
    ends_is (entry k v) n =
        let m = n + gap 8 n in
        let a = spell little m k in
        let b = spell little (m + length a) v in
        omega (arith, length-append (zeros (gap 8 n)) (a ++ b), length-append a b, length-zeros (gap 8 n), ends_is v (m + length a)) ∙ ap (λ (o : ℕ). ends o v) (ends_is k m)
    ends_is (variant v) n =
        let m = n + 1 + length (sig v) + 1 in
        omega (arith, ends_is v m, length-append (sig v) (0 ∷ spell little m v))

    pub end_is : (vs : Plains) (n : ℕ) → n + length (spells little n vs) ≡ end_all n vs
    end_is none n = omega arith
    end_is (more v vs) n =
        let a = spell little n v in
        let b = spells little (n + length a) vs in
        omega (arith, length-append a b, end_is vs (n + length a)) ∙ ap (λ (m : ℕ). end_all m vs) (ends_is v n)

  pub each_of : (item : List ℕ) (n : ℕ) (vs : Plains) → AreOf little item n vs → Each little n vs
  each_of item n none h = tt
  each_of item n (more v vs) h = (h.1, each_of item (n + length (spell little n v)) vs h.2)

  pub each_value : (n : ℕ) (vs : Plains) → AreValues little n vs → Each little n vs
  each_value n none h = tt
  each_value n (more v vs) h = (h.1, each_value (n + length (spell little n v)) vs h.2)

pub grows : (n : ℕ) (v : Plain) → n ≤ ends n v
grows n v = omega (arith, ends_is true v n)

pub end_grows : (n : ℕ) (vs : Plains) → n ≤ end_all n vs
end_grows n vs = omega (arith, end_is true vs n)
