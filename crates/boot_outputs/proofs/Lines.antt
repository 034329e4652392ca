-- The lines of a text, and the pieces between its line feeds.
use Rattle.std.proofs.Common.{◌≡◌, ◌⊎◌, ⊎_elim, inl, inr, ℕ, suc, Bool, true, false, cond, ◌&&◌, eqb, List, [], ◌∷◌, ◌++◌, length, Option, Some, None, refl, sym, ◌∙◌, ap, arith}
use Rattle.std.specs.List.{cons_option, filter_map, list_all, list_any, onto_first, slice_split, zip}
use Rattle.std.specs.Str.Lines.{lines, lines_of_parts}
use Rattle.std.specs.FinMap as fin
use Rattle.std.proofs.lemmas.Bool.{or_parts}
use Rattle.std.proofs.lemmas.Bool.Decides.{nat_tests}
use Rattle.boot_model.specs.Vars.{Variables}
use Rattle.boot_outputs.specs.Texts.{is_line_end, lines_of, with_all, with_setting}

-- a line and what follows it
pub lines_of-line : (line rest : List ℕ) → list_any is_line_end line ≡ false → lines_of (line ++ 10 ∷ rest) ≡ line ∷ lines_of rest
lines_of-line [] rest h = refl
lines_of-line (byte ∷ line) rest h =
    let parts = or_parts (is_line_end byte) (list_any is_line_end line) h in
    ap (λ (b : Bool). cond b ([] ∷ lines_of (line ++ 10 ∷ rest)) (onto_first byte (lines_of (line ++ 10 ∷ rest)))) parts.0
    ∙ ap (λ (ls : List (List ℕ)). onto_first byte ls) (lines_of-line line rest parts.1)

-- the pieces are the lines, and maybe one more that is empty
abbrev pub IsCut : List (List ℕ) → List (List ℕ) → Type 0
IsCut pieces lines = (pieces ≡ lines) ⊎ (pieces ≡ lines ++ [] ∷ [])

cut_onto : (byte : ℕ) (pieces lines : List (List ℕ)) → IsCut pieces lines → IsCut (onto_first byte pieces) (onto_first byte lines)
cut_onto byte pieces lines (inl e) = inl (ap (onto_first byte) e)
cut_onto byte pieces [] (inr e) = inl (ap (onto_first byte) e)
cut_onto byte pieces (line ∷ lines) (inr e) = inr (ap (onto_first byte) e)

pub cut_into_lines : (text : List ℕ) → IsCut (slice_split is_line_end text) (lines_of text)
cut_into_lines [] = inr refl
cut_into_lines (byte ∷ text) =
    elim (is_line_end byte) as (λ b. IsCut (cond b ([] ∷ slice_split is_line_end text) (onto_first byte (slice_split is_line_end text))) (cond b ([] ∷ lines_of text) (onto_first byte (lines_of text)))) [
      | true ↦ ⊎_elim (λ e. inl (ap (λ (ls : List (List ℕ)). [] ∷ ls) e)) (λ e. inr (ap (λ (ls : List (List ℕ)). [] ∷ ls) e)) (cut_into_lines text)
      | false ↦ cut_onto byte (slice_split is_line_end text) (lines_of text) (cut_into_lines text)
    ]

-- where an empty line says nothing, both say the same
filter_map_push : {X : Type 0} (f : List ℕ → Option X) (lines : List (List ℕ)) → f [] ≡ None → filter_map f (lines ++ [] ∷ []) ≡ filter_map f lines
filter_map_push {X = X} f [] h = ap (λ (o : Option X). cons_option o []) h
filter_map_push {X = X} f (line ∷ lines) h = ap (λ (xs : List X). cons_option (f line) xs) (filter_map_push f lines h)

pub filter_map-pieces : {X : Type 0} (f : List ℕ → Option X) (text : List ℕ) → f [] ≡ None → filter_map f (slice_split is_line_end text) ≡ filter_map f (lines_of text)
filter_map-pieces f text h = ⊎_elim (λ e. ap (filter_map f) e) (λ e. ap (filter_map f) e ∙ filter_map_push f (lines_of text) h) (cut_into_lines text)

list_all_push : (test : List ℕ → Bool) (lines : List (List ℕ)) → test [] ≡ true → list_all test (lines ++ [] ∷ []) ≡ list_all test lines
list_all_push test [] h = ap (λ (b : Bool). b && true) h
list_all_push test (line ∷ lines) h = ap (λ (b : Bool). test line && b) (list_all_push test lines h)

pub list_all-pieces : (test : List ℕ → Bool) (text : List ℕ) → test [] ≡ true → list_all test (slice_split is_line_end text) ≡ list_all test (lines_of text)
list_all-pieces test text h = ⊎_elim (λ e. ap (list_all test) e) (λ e. ap (list_all test) e ∙ list_all_push test (lines_of text) h) (cut_into_lines text)

-- one line more
pub with_all_more : (f : List ℕ → Option (List ℕ × List ℕ)) (read : Variables) (lines : List (List ℕ)) (line : List ℕ) → with_all read (filter_map f (lines ++ line ∷ [])) ≡ with_setting (with_all read (filter_map f lines)) (f line)
with_all_more f read [] line = elim (f line) as (λ o. with_all read (cons_option o []) ≡ with_setting read o) [ None ↦ refl | Some pair ↦ refl ]
with_all_more f read (first ∷ lines) line =
    elim (f first) as (λ o. with_all read (cons_option o (filter_map f (lines ++ line ∷ []))) ≡ with_setting (with_all read (cons_option o (filter_map f lines))) (f line)) [
      | None ↦ with_all_more f read lines line
      | Some pair ↦ with_all_more f (fin.insert read pair.0 pair.1) lines line
    ]

-- ---- how many lines there are

abbrev full : List (List ℕ) → List (List ℕ)
full [] = []
full (x ∷ []) = cond (eqb (length x) 0) [] (x ∷ [])
full (x ∷ y ∷ more) = x ∷ full (y ∷ more)

not_empty : (n : ℕ) → eqb (suc n) 0 ≡ false
not_empty n = grind (arith, nat_tests)

full_onto : (byte : ℕ) (first : List ℕ) (more : List (List ℕ)) → onto_first byte (full (first ∷ more)) ≡ full ((byte ∷ first) ∷ more)
full_onto byte [] [] = refl
full_onto byte (x ∷ xs) [] =
    ap (λ (b : Bool). onto_first byte (cond b [] ((x ∷ xs) ∷ []))) (not_empty (length xs))
    ∙ ap (λ (b : Bool). cond b [] ((byte ∷ x ∷ xs) ∷ [])) (sym (not_empty (length (x ∷ xs))))
full_onto byte first (y ∷ more) = refl

lines_full : (text : List ℕ) → (first : List ℕ) × (more : List (List ℕ)) × (slice_split is_line_end text ≡ first ∷ more) × (lines_of text ≡ full (first ∷ more))
lines_full [] = ([], [], refl, refl)
lines_full (byte ∷ text) =
    let rest = lines_full text in
    elim (is_line_end byte) as (λ b. (first : List ℕ) × (more : List (List ℕ)) × (cond b ([] ∷ slice_split is_line_end text) (onto_first byte (slice_split is_line_end text)) ≡ first ∷ more) × (cond b ([] ∷ lines_of text) (onto_first byte (lines_of text)) ≡ full (first ∷ more))) [
      | true ↦ ([], rest.0 ∷ rest.1, ap (λ (ls : List (List ℕ)). [] ∷ ls) rest.2, ap (λ (ls : List (List ℕ)). [] ∷ ls) rest.3)
      | false ↦ (byte ∷ rest.0, rest.1, ap (onto_first byte) rest.2, ap (onto_first byte) rest.3 ∙ full_onto byte rest.0 rest.1)
    ]

length-parts : (pieces : List (List ℕ)) → length (lines_of_parts pieces) ≡ length (full pieces)
length-parts [] = refl
length-parts (x ∷ []) = elim (eqb (length x) 0) as (λ b. length (cond b [] (x ∷ [])) ≡ length (cond b [] (x ∷ []))) [ true ↦ refl | false ↦ refl ]
length-parts (x ∷ y ∷ more) = ap (λ (n : ℕ). suc n) (length-parts (y ∷ more))

-- as many as where a carriage return at a line's end is dropped
pub length-lines : (text : List ℕ) → length (lines text) ≡ length (lines_of text)
length-lines text =
    let whole = lines_full text in
    ap (λ (pieces : List (List ℕ)). length (lines_of_parts pieces)) whole.2 ∙ length-parts (whole.0 ∷ whole.1) ∙ ap length (sym whole.3)

-- as many names as lines take up the lines, and not the empty piece behind them
zip_push : (names lines : List (List ℕ)) → length lines ≡ length names → zip names (lines ++ [] ∷ []) ≡ zip names lines
zip_push [] [] h = refl
zip_push [] (line ∷ lines) h = absurd (omega arith)
zip_push (name ∷ names) [] h = absurd (omega arith)
zip_push (name ∷ names) (line ∷ lines) h = ap (λ (pairs : List (List ℕ × List ℕ)). (name, line) ∷ pairs) (zip_push names lines (omega arith))

pub zip-pieces : (names : List (List ℕ)) (text : List ℕ) → length (lines_of text) ≡ length names → zip names (slice_split is_line_end text) ≡ zip names (lines_of text)
zip-pieces names text h = ⊎_elim (λ e. ap (zip names) e) (λ e. ap (zip names) e ∙ zip_push names (lines_of text) h) (cut_into_lines text)

-- one variable more
pub with_all-push : (read : Variables) (pairs : List (List ℕ × List ℕ)) (name text : List ℕ) → with_all read (pairs ++ (name, text) ∷ []) ≡ fin.insert (with_all read pairs) name text
with_all-push read [] name text = refl
with_all-push read (pair ∷ pairs) name text = with_all-push (fin.insert read pair.0 pair.1) pairs name text
