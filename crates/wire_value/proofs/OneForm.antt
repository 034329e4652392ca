-- Equal texts are read equally, so one text spells one value and no spelling begins another.
use Rattle.std.proofs.Common.{◌≡◌, ℕ, suc, ◌+◌, ◌<◌, max, Bool, List, [], ◌++◌, length, Some, refl, sym, ap, ◌∙◌, arith}
use Rattle.std.proofs.lemmas.List.{append-nil}
use Rattle.wire_value.specs.Plain.{Plain, Plains, sig, sigs, nest, nests}
use Rattle.wire_value.specs.Spelling.{spell, spells, IsValue, AreValues}
use Rattle.wire_value.specs.Reading.{At, value_at, fields_at}
use Rattle.wire_value.specs.Laws.{OneValue, NoPrefix, OneSequence, NoSequencePrefix, ReadsBack}
use Rattle.wire_value.proofs.Steps.{some_is}
use Rattle.wire_value.proofs.Again.{value_again, fields_again}

module _ (little : Bool) (n : ℕ) where
  one_reading : (v w : Plain) (x y : List ℕ) → IsValue little n v → IsValue little n w → sig v ≡ sig w
      → spell little n v ++ x ≡ spell little n w ++ y → (v ≡ w) × (x ≡ y)
  one_reading v w x y p q same e =
      let d = max (nest v) (nest w) in
      let a = value_again little v d n x p (omega arith) in
      let b = value_again little w d n y q (omega arith) in
      let c : value_at d little (sig w) (n, spell little n w ++ y) ≡ Some (v, (n + length (spell little n v), x)) =
      ap (λ (t : List ℕ). value_at d little (sig w) (n, t)) (sym e) ∙ ap (λ (s : List ℕ). value_at d little s (n, spell little n v ++ x)) (sym same) ∙ a in
      let both = some_is (v, (n + length (spell little n v), x)) (w, (n + length (spell little n w), y)) (sym c ∙ b) in
      (ap (λ (t : Plain × At). t.0) both, ap (λ (t : Plain × At). t.1.1) both)

  one_reading_all : (vs ws : Plains) (x y : List ℕ) → AreValues little n vs → AreValues little n ws → sigs vs ≡ sigs ws
      → spells little n vs ++ x ≡ spells little n ws ++ y → (vs ≡ ws) × (x ≡ y)
  one_reading_all vs ws x y p q same e =
      let d = max (nests vs) (nests ws) in
      let g = suc (length (sigs vs)) in
      let long : length (sigs ws) < g = omega (arith, ap length same) in
      let a = fields_again little vs d n g [] x p (omega arith) refl (omega arith) in
      let b = fields_again little ws d n g [] y q (omega arith) refl long in
      let s : sigs vs ++ [] ≡ sigs ws ++ [] = ap (λ (t : List ℕ). t ++ []) same in
      let c : fields_at (value_at d little) g (sigs ws ++ []) (n, spells little n ws ++ y) ≡ Some (vs, (n + length (spells little n vs), x)) =
      ap (λ (t : List ℕ). fields_at (value_at d little) g (sigs ws ++ []) (n, t)) (sym e) ∙ ap (λ (t : List ℕ). fields_at (value_at d little) g t (n, spells little n vs ++ x)) (sym s) ∙ a in
      let both = some_is (vs, (n + length (spells little n vs), x)) (ws, (n + length (spells little n ws), y)) (sym c ∙ b) in
      (ap (λ (t : Plains × At). t.0) both, ap (λ (t : Plains × At). t.1.1) both)

pub one_value_law : OneValue
one_value_law little d e n v w text p q same =
    (one_reading little n v w [] [] p.valid q.valid same (ap (λ (t : List ℕ). t ++ []) (sym p.is ∙ q.is))).0

pub no_prefix_law : NoPrefix
no_prefix_law little d e n v w short long rest p q same is =
    let seen : spell little n v ++ rest ≡ spell little n w ++ [] = ap (λ (t : List ℕ). t ++ rest) (sym p.is) ∙ sym is ∙ q.is ∙ sym (append-nil (spell little n w)) in
    (one_reading little n v w rest [] p.valid q.valid same seen).1

pub one_sequence_law : OneSequence
one_sequence_law little d e n vs ws text p q same =
    (one_reading_all little n vs ws [] [] p.valid q.valid same (ap (λ (t : List ℕ). t ++ []) (sym p.is ∙ q.is))).0

pub no_sequence_prefix_law : NoSequencePrefix
no_sequence_prefix_law little d e n vs ws short long rest p q same is =
    let seen : spells little n vs ++ rest ≡ spells little n ws ++ [] = ap (λ (t : List ℕ). t ++ rest) (sym p.is) ∙ sym is ∙ q.is ∙ sym (append-nil (spells little n ws)) in
    (one_reading_all little n vs ws rest [] p.valid q.valid same seen).1

pub reads_back_law : ReadsBack
reads_back_law little d n vs rest are le = record {
  text = spells little n vs;
  spells = record { is = refl; valid = are; nests = le };
  typed = refl;
  front = refl;
  behind = refl;
}
