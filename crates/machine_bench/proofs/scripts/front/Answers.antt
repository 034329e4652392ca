use Rattle.std.proofs.Common.{◌≡◌, ◌⊎◌, ⊎_elim, ℕ, ◌<◌, ◌≤◌, List, length, take, Result, Ok, Err, IfOk, ◌∙◌, ap, sym, arith, min}
use Rattle.std.proofs.lemmas.Bool.Decides.{nat_tests}
use Rattle.std.proofs.lemmas.List.{take_all}
use Rattle.machine_bench.proofs.scripts.front.Goals as goal

lt_or_le : (i n : ℕ) → (i < n) ⊎ (n ≤ i)
lt_or_le i n = grind (arith, nat_tests)

-- no more than all is taken
take-min : (xs : List ℕ) (n k : ℕ) → k ≡ min (length xs) n → take k xs ≡ take n xs
take-min xs n k is =
    ⊎_elim
    (λ less. let same : k ≡ length xs = omega (arith, is, less) in ap (λ (j : ℕ). take j xs) same ∙ take_all (length xs) xs (omega arith) ∙ sym (take_all n xs (omega (arith, less))))
    (λ more. let same : k ≡ n = omega (arith, is, more) in ap (λ (j : ℕ). take j xs) same)
    (lt_or_le (length xs) n)

taken : {E : Type 0} (r : Result (List ℕ) E) (xs : List ℕ) (n k : ℕ) → k ≡ min (length xs) n → IfOk r (λ kept. kept ≡ take k xs) → IfOk r (λ kept. kept ≡ take n xs)
taken (Ok kept) xs n k is h = h ∙ take-min xs n k is
taken (Err e) xs n k is h = tt

pub returns : goal.returns
returns c = taken _ c.args.bytes.now 65536 c.min.result c.min.ensures c.copy_bytes.ensures
