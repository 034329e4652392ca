-- Words on lists that several definitions use.
use Rattle.std.specs.Prelude.{ℕ, Bool, List, [], ◌∷◌, Option, Some, None, option_map, find, if◌then◌else◌}
use Rattle.std.specs.List.{list_any}
use Rattle.std.specs.Str.{bytes_eq}

-- the first of them, where there is one
abbrev pub or_else : {A : Type 0} → Option A → Option A → Option A
or_else (Some x) other = Some x
or_else None other = other

-- the first answer that f gives along a list
abbrev pub first_of : {A B : Type 0} → (A → Option B) → List A → Option B
first_of f [] = None
first_of f (x ∷ xs) = or_else (f x) (first_of f xs)

-- the value beside the first equal text
abbrev pub value_beside : {A : Type 0} → List (List ℕ × A) → List ℕ → Option A
value_beside rows text = option_map (λ r. r.1) (find (λ r. bytes_eq text r.0) rows)

-- the text is one of these words
abbrev pub is_among : List (List ℕ) → List ℕ → Bool
is_among words text = list_any (λ w. bytes_eq text w) words

-- a value that passes a test
abbrev pub keep_if : {A : Type 0} → (A → Bool) → Option A → Option A
keep_if test None = None
keep_if test (Some x) = if test x then Some x else None
