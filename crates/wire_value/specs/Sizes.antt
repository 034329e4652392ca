-- Where a value ends that begins at an offset. It is the same in either byte order.
use Rattle.std.specs.Prelude.{◌≡◌, ℕ, ◌+◌, Bool, List, ◌++◌, length, ⊤, Result, OnOk}
use Rattle.wire_value.specs.Types.{string, object_path, signature, width}
use Rattle.wire_value.specs.Plain.{Plain, number, words, array, struct, entry, variant, Plains, none, more, sig}
use Rattle.wire_value.specs.Spelling.{zeros, gap, word, first_item, IsValue, spell}

abbrev mutual
  pub ends : ℕ → Plain → ℕ
  ends n (number f x) = n + gap (width f) n + width f
  ends n (words string t) = n + gap 4 n + 4 + length t + 1
  ends n (words object_path t) = n + gap 4 n + 4 + length t + 1
  ends n (words signature t) = n + 1 + length t + 1
  ends n (array item vs) = end_all (first_item item (n + gap 4 n + 4)) vs
  ends n (struct vs) = end_all (n + gap 8 n) vs
  ends n (entry k v) = ends (ends (n + gap 8 n) k) v
  ends n (variant v) = ends (n + 1 + length (sig v) + 1) v

  pub end_all : ℕ → Plains → ℕ
  end_all n none = n
  end_all n (more v vs) = end_all (ends n v) vs

-- where the items of an array begin that begins at an offset
abbrev pub first_in : List ℕ → ℕ → ℕ
first_in item n = first_item item (n + gap 4 n + 4)

-- a number with its padding
abbrev pub padded : Bool → ℕ → ℕ → ℕ → List ℕ
padded little k x n = zeros (gap k n) ++ word little k x

-- the first multiple of an alignment from an offset on
abbrev pub aligned : ℕ → ℕ → ℕ
aligned k n = n + gap k n

-- where the value of a variant begins, behind its type
abbrev pub behind_type : ℕ → Plain → ℕ
behind_type n v = n + 1 + length (sig v) + 1

-- a writer that has memory leaves the bytes of before with the text behind them that belongs at their end
abbrev pub Adds : {X E : Type 0} → Result X E → List ℕ → List ℕ → (ℕ → List ℕ) → Type 0
Adds result old new text = OnOk result (new ≡ old ++ text (length old))

abbrev pub AddsValue : {X E : Type 0} → Bool → Result X E → List ℕ → List ℕ → Plain → Type 0
AddsValue little result old new v = Adds result old new (λ n. spell little n v)

-- each of the values, one after the other, may stand where it does
abbrev pub Each : Bool → ℕ → Plains → Type 0
Each little n none = ⊤
Each little n (more v vs) = IsValue little n v × Each little (n + length (spell little n v)) vs
