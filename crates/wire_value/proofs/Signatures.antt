-- The two tests of a text: a signature, and one complete type.
use Rattle.std.proofs.Common.{◌≡◌, ℕ, zero, suc, ◌-◌, ◌<◌, ◌≤◌, Bool, true, false, ◌&&◌, eqb, List, [], ◌∷◌, ◌++◌, length, take, Option, Some, None, ◌↔◌, refl, sym, ap, subst, ◌∙◌, arith}
use Rattle.std.proofs.lemmas.Bool.{eqb-true, false≢true, leb-true}
use Rattle.std.proofs.lemmas.Bool.Decides.{nat_tests}
use Rattle.std.proofs.lemmas.List.{length-append, append-nil, nil_from_length, take_at}
use Rattle.wire_value.specs.Types.{Kind, Kinds, no_kinds, and_kind, text, texts, arrays, structs, all_arrays, all_structs, IsType, IsSignature}
use Rattle.wire_value.specs.Reading.{one_type, if_some, are_types, is_signature, is_single}
use Rattle.wire_value.proofs.Steps.{suc_is_not}
use Rattle.wire_value.proofs.TypeLaws.{type_again, type_takes, text_len}

if_some_true : {A : Type 0} (o : Option A) (f : A → Bool) → if_some o f ≡ true → (x : A) × (o ≡ Some x) × (f x ≡ true)
if_some_true None f e = absurd (false≢true e)
if_some_true (Some x) f e = (x, refl, e)

pub long_is_not : (n : ℕ) → 1 ≤ n → eqb n 0 ≡ false
long_is_not n h = grind (arith, nat_tests)

one_type_again : (k : Kind) (rest : List ℕ) → arrays k ≤ 32 → structs k ≤ 32 → one_type (text k ++ rest) ≡ Some rest
one_type_again k rest p q = type_again k 64 32 32 rest p q (omega arith)

are_more : (g : ℕ) (k : Kind) (x : List ℕ) → are_types (suc g) (text k ++ x) ≡ if_some (one_type (text k ++ x)) (are_types g)
unfolding are_types
are_more g k x =
    let some : eqb (length (text k ++ x)) 0 ≡ false = long_is_not (length (text k ++ x)) (omega (arith, text_len k, length-append (text k) x)) in
    rw some refl

are_types_again : (ks : Kinds) (g : ℕ) → all_arrays ks ≤ 32 → all_structs ks ≤ 32 → length (texts ks) ≤ g → are_types g (texts ks) ≡ true
unfolding are_types
are_types_again no_kinds zero p q h = refl
are_types_again no_kinds (suc g) p q h = refl
are_types_again (and_kind k ks) zero p q h = absurd (omega (arith, text_len k, length-append (text k) (texts ks)))
are_types_again (and_kind k ks) (suc g) p q h =
    are_more g k (texts ks) ∙ rw (one_type_again k (texts ks) (omega arith) (omega arith)) (are_types_again ks g (omega arith) (omega arith) (omega (arith, text_len k, length-append (text k) (texts ks))))

record AreKinds (s : List ℕ) : Type 0 where
  pub kinds : Kinds
  pub is : s ≡ texts kinds
  pub arrays : all_arrays kinds ≤ 32
  pub structs : all_structs kinds ≤ 32

are_types_take : (g : ℕ) (s : List ℕ) → are_types g s ≡ true → AreKinds s
unfolding are_types
are_types_take zero s e = rw (nil_from_length s (eqb-true _ _ e)) (record { kinds = no_kinds; is = refl; arrays = omega arith; structs = omega arith })
are_types_take (suc g) [] e = record { kinds = no_kinds; is = refl; arrays = omega arith; structs = omega arith }
are_types_take (suc g) (c ∷ s) e =
    let a = if_some_true (one_type (c ∷ s)) (are_types g) (rw suc_is_not at e) in
    let first = type_takes 64 32 32 (c ∷ s) a.0 a.1 in
    let others = are_types_take g a.0 a.2 in
    record {
      kinds = and_kind first.kind others.kinds;
      is = first.is ∙ ap (λ (x : List ℕ). text first.kind ++ x) others.is;
      arrays = omega (arith, first.arrays, others.arrays);
      structs = omega (arith, first.structs, others.structs);
    }

both_true : (a b : Bool) → (a && b) ≡ true → (a ≡ true) × (b ≡ true)
both_true true b e = (refl, e)
both_true false b e = absurd (false≢true e)

pub signature_is : (s : List ℕ) → is_signature s ≡ true → IsSignature s
signature_is s e =
    let b = both_true _ _ e in
    let k = are_types_take (length s) s b.1 in
    record { kinds = k.kinds; is = k.is; short = leb-true _ _ b.0; arrays = k.arrays; structs = k.structs }

pub signature_again : (s : List ℕ) → IsSignature s → is_signature s ≡ true
signature_again s h =
    let short = h.short in
    let same : length (texts h.kinds) ≤ length s = omega (arith, ap length h.is) in
    let types : are_types (length s) s ≡ true = subst (λ (x : List ℕ). are_types (length s) x ≡ true) (sym h.is) (are_types_again h.kinds (length s) h.arrays h.structs same) in
    rw types (grind (arith, nat_tests))

pub single_is : (s : List ℕ) → is_single s ≡ true → IsType s
single_is s e =
    let a = if_some_true (one_type s) (λ rest. eqb (length rest) 0) e in
    let t = type_takes 64 32 32 s a.0 a.1 in
    let nothing : a.0 ≡ [] = nil_from_length a.0 (eqb-true _ _ a.2) in
    record { kind = t.kind; is = t.is ∙ ap (λ (x : List ℕ). text t.kind ++ x) nothing ∙ append-nil (text t.kind); arrays = t.arrays; structs = t.structs }

pub single_again : (s : List ℕ) → IsType s → is_single s ≡ true
single_again s h =
    let whole : s ≡ text h.kind ++ [] = h.is ∙ sym (append-nil (text h.kind)) in
    subst (λ (x : List ℕ). is_single x ≡ true) (sym whole) (rw (one_type_again h.kind [] h.arrays h.structs) refl)

pub take_front : (a b : List ℕ) → take (length (a ++ b) - length b) (a ++ b) ≡ a
take_front a b =
    let e : length (a ++ b) - length b ≡ length a = omega (arith, length-append a b) in
    ap (λ (k : ℕ). take k (a ++ b)) e ∙ take_at a b (length a) refl

-- the first type of a text is a type, and takes a byte at least
pub type_front : (s r : List ℕ) → Some r ≡ one_type s → IsType (take (length s - length r) s) × (length r < length s)
type_front s r e =
    let t = type_takes 64 32 32 s r (sym e) in
    let front : take (length s - length r) s ≡ text t.kind = subst (λ (x : List ℕ). take (length x - length r) x ≡ text t.kind) (sym t.is) (take_front (text t.kind) r) in
    (record { kind = t.kind; is = front; arrays = t.arrays; structs = t.structs }, omega (arith, ap length t.is, text_len t.kind, length-append (text t.kind) r))

pub signature_means : (s : List ℕ) → (is_signature s ≡ true) ↔ IsSignature s
signature_means s = (signature_is s, signature_again s)

pub single_means : (s : List ℕ) → (is_single s ≡ true) ↔ IsType s
single_means s = (single_is s, single_again s)
