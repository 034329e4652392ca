-- The lines of what a program prints.
use Rattle.std.proofs.Common.{◌≡◌, ℕ, ◌+◌, Bool, true, false, cond, not, List, [], ◌∷◌, ◌++◌, map, length, take, append_assoc, refl, ◌∙◌, ap, arith}
use Rattle.std.specs.List.{flat_map, list_all, list_any, position_or_len, prefix_len}
use Rattle.std.proofs.Math.Seq.{take-append_seam}
use Rattle.std.proofs.lemmas.Bool.{and_parts, not-true, or_parts}
use Rattle.boot_outputs.specs.Texts.{first_line, is_line_end, lines_of}
use Rattle.boot_outputs.specs.Plain.{lacks}
use Rattle.boot_outputs.proofs.Lines.{lines_of-line}

-- each on a line of its own
pub lines_of-flat_map : {X : Type 0} (f : X → List ℕ) (xs : List X) → list_all (λ x. lacks 10 (f x)) xs ≡ true → lines_of (flat_map (λ x. f x ++ 10 ∷ []) xs) ≡ map f xs
lines_of-flat_map f [] h = refl
lines_of-flat_map {X = X} f (x ∷ xs) h =
    let parts = and_parts (lacks 10 (f x)) (list_all (λ x. lacks 10 (f x)) xs) h in
    let rest = flat_map (λ (x : X). f x ++ 10 ∷ []) xs in
    ap lines_of (append_assoc (f x) (10 ∷ []) rest)
    ∙ lines_of-line (f x) rest (not-true (list_any is_line_end (f x)) parts.0)
    ∙ ap (λ (ls : List (List ℕ)). f x ∷ ls) (lines_of-flat_map f xs parts.1)

end_at : (line rest : List ℕ) → list_any is_line_end line ≡ false → position_or_len is_line_end (line ++ 10 ∷ rest) ≡ length line
end_at [] rest h = refl
end_at (byte ∷ line) rest h =
    let parts = or_parts (is_line_end byte) (list_any is_line_end line) h in
    let later = end_at line rest parts.1 in
    ap (λ (b : Bool). cond (not b) (1 + prefix_len (λ b. not (is_line_end b)) (line ++ 10 ∷ rest)) 0) parts.0 ∙ omega arith

-- the first of them
pub first_line-line : (line rest : List ℕ) → lacks 10 line ≡ true → first_line (line ++ 10 ∷ rest) ≡ line
first_line-line line rest h =
    ap (λ (n : ℕ). take n (line ++ 10 ∷ rest)) (end_at line rest (not-true (list_any is_line_end line) h)) ∙ take-append_seam line (10 ∷ rest)
