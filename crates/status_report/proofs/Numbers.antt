-- The numbers of slots, one more at a time.
use Rattle.std.proofs.Common.{◌≡◌, ℕ, List, [], ◌++◌, ◌+◌, suc, zero, refl, ap, sym, subst, ◌∙◌, append_assoc, arith, codes, cond, decimal}
use Rattle.std.specs.List.{flat_map, range_with_len}
use Rattle.std.proofs.lemmas.Bool.{ne_eqb}
use Rattle.std.proofs.lemmas.List.{append-nil}
use Rattle.status_report.specs.Words.{next_number, numbers}

-- of a text for each number, that of the last one stands at the end
flat_last : (g : ℕ → List ℕ) (a n : ℕ) → flat_map g (range_with_len a (suc n)) ≡ flat_map g (range_with_len a n) ++ g (a + n)
flat_last g a zero = append-nil (g a) ∙ ap g (omega arith)
flat_last g a (suc n) =
    ap (λ x. g a ++ x) (flat_last g (a + 1) n)
    ∙ sym (append_assoc (g a) (flat_map g (range_with_len (a + 1) n)) (g (a + 1 + n)))
    ∙ ap (λ k. (g a ++ flat_map g (range_with_len (a + 1) n)) ++ g k) (omega arith)

number_put : (k : ℕ) → numbers (suc k) ≡ numbers k ++ next_number (suc k)
number_put zero = append-nil (decimal 1)
number_put (suc k) =
    let blank : ℕ → List ℕ = λ n. codes " " ++ decimal n in
    ap (λ x. decimal 1 ++ x) (flat_last blank 2 k)
    ∙ sym (append_assoc (decimal 1) (flat_map blank (range_with_len 2 k)) (blank (2 + k)))
    ∙ ap (λ n. numbers (suc k) ++ blank n) (omega arith)
    ∙ ap (λ b. numbers (suc k) ++ cond b (decimal (suc (suc k))) (blank (suc (suc k)))) (sym (ne_eqb (suc (suc k)) 1 (λ e. absurd (omega (arith, e)))))

pub numbers_push : (k : ℕ) → numbers (k + 1) ≡ numbers k ++ next_number (k + 1)
numbers_push k = subst (λ n. numbers n ≡ numbers k ++ next_number n) (omega arith) (number_put k)
