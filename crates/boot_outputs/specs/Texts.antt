-- The lines of a printed text, and the variables that are read from them.
use Rattle.std.specs.Prelude.{◌≡◌, ℕ, ◌==◌, Bool, true, false, List, [], ◌∷◌, length, drop, fold, nat_eq, Option, Some, None, Result, IfOk, if◌then◌else◌}
use Rattle.std.specs.List.{before_first, onto_first, starts_with}
use Rattle.std.specs.FinMap as fin
use Rattle.boot_model.specs.Vars.{Variables}

-- a line feed
abbrev pub is_line_end : ℕ → Bool
is_line_end byte = byte == 10

-- the lines of a text: each ends with a line feed, which the last may lack
abbrev pub lines_of : List ℕ → List (List ℕ)
lines_of [] = []
lines_of (byte ∷ text) = if is_line_end byte then [] ∷ lines_of text else onto_first byte (lines_of text)

-- the first line; where there is none, it is empty
abbrev pub first_line : List ℕ → List ℕ
first_line text = before_first is_line_end text

-- what follows a front
abbrev pub behind : List ℕ → List ℕ → Option (List ℕ)
behind front text = if starts_with nat_eq text front then Some (drop (length front) text) else None

-- the variables with these, one after another, so that of one that is repeated the last counts
abbrev pub with_all : Variables → List (List ℕ × List ℕ) → Variables
with_all vars pairs = fold (λ before pair. fin.insert before pair.0 pair.1) vars pairs

-- the variables with this one, where it is one
abbrev pub with_setting : Variables → Option (List ℕ × List ℕ) → Variables
with_setting vars None = vars
with_setting vars (Some pair) = fin.insert vars pair.0 pair.1

-- a text was taken, and tells the variables after it; or it is not in its form, and the variables stay
abbrev pub IsTaken : Bool → Variables → Variables → Option Variables → Type 0
IsTaken true before after told = told ≡ Some after
IsTaken false before after told = (told ≡ None) × (after ≡ before)

-- the same of a call that answers whether it took the text, unless memory ran out
abbrev pub Takes : {E : Type 0} → Result Bool E → Variables → Variables → Option Variables → Type 0
Takes result before after told = IfOk result (λ taken. IsTaken taken before after told)
