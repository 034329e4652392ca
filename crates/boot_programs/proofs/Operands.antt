-- The words that follow an option.
use Rattle.std.proofs.Common.{◌≡◌, ℕ, ◌-◌, ◌≤◌, Bool, true, cond, List, [], ◌∷◌, ◌++◌, length, take, drop, get_or, Option, Some, None, refl, sym, ◌∙◌, ap, append_assoc, bytes_eq, arith}
use Rattle.std.specs.Option.{option_map}
use Rattle.std.proofs.lemmas.List.{length-drop, take_all}
use Rattle.boot_programs.specs.Barebox.{operands}

two_first : (left : List (List ℕ)) (word operand : List ℕ) → 2 ≤ length left → word ≡ get_or left 0 word → operand ≡ get_or left 1 operand → left ≡ word ∷ operand ∷ drop 2 left
two_first [] word operand h a b = absurd (omega arith)
two_first (x ∷ []) word operand h a b = absurd (omega arith)
two_first (x ∷ y ∷ left) word operand h a b = λ i. sym a i ∷ sym b i ∷ left

two_taken : (left : List (List ℕ)) → 2 ≤ length left → take (length left - 2) (drop 2 left) ≡ drop 2 left
two_taken left h = take_all (length left - 2) (drop 2 left) (simp length-drop (omega arith))

one_found : (found : List (List ℕ)) (operand : List ℕ) (o : Option (List (List ℕ))) → option_map (λ (rest : List (List ℕ)). found ++ rest) (option_map (λ (rest : List (List ℕ)). operand ∷ rest) o) ≡ option_map (λ (rest : List (List ℕ)). (found ++ operand ∷ []) ++ rest) o
one_found found operand None = refl
one_found found operand (Some rest) = ap Some (sym (append_assoc found (operand ∷ []) rest))

-- where a word after the option is found, what is found and what is left still make the whole
pub operand_found : (option : List ℕ) (left rest found more : List (List ℕ)) (word operand : List ℕ) (whole : Option (List (List ℕ))) → 2 ≤ length left → word ≡ get_or left 0 word → operand ≡ get_or left 1 operand
    → rest ≡ take (length left - 2) (drop 2 left) → bytes_eq word option ≡ true → more ≡ found ++ operand ∷ []
    → option_map (λ (r : List (List ℕ)). found ++ r) (operands option left) ≡ whole → option_map (λ (r : List (List ℕ)). more ++ r) (operands option rest) ≡ whole
operand_found option left rest found more word operand whole long a b cut same pushed so_far =
    ap (λ (m : List (List ℕ)). option_map (λ (r : List (List ℕ)). m ++ r) (operands option rest)) pushed
    ∙ ap (λ (l : List (List ℕ)). option_map (λ (r : List (List ℕ)). (found ++ operand ∷ []) ++ r) (operands option l)) (cut ∙ two_taken left long)
    ∙ sym (one_found found operand (operands option (drop 2 left)))
    ∙ ap (λ (t : Bool). option_map (λ (r : List (List ℕ)). found ++ r) (cond t (option_map (λ (r : List (List ℕ)). operand ∷ r) (operands option (drop 2 left))) None)) (sym same)
    ∙ ap (λ (l : List (List ℕ)). option_map (λ (r : List (List ℕ)). found ++ r) (operands option l)) (sym (two_first left word operand long a b))
    ∙ so_far
