-- Settings: words of the form `name=value`.
use Rattle.std.specs.Prelude.{ℕ, ◌==◌, List, [], ◌∷◌, ◌++◌, length, Option, Some, None, nat_lt, if◌then◌else◌}
use Rattle.std.specs.Option.{option_and_then}
use Rattle.std.specs.List.{position_or_len, before_first, after_first}
use Rattle.std.specs.FinMap.{insert}
use Rattle.boot_model.specs.Vars.{Variables}

-- `name=value`
abbrev pub spelled : List ℕ → List ℕ → List ℕ
spelled name text = name ++ 61 ∷ text

-- the same, as a line
abbrev pub setting_line : List ℕ → List ℕ → List ℕ
setting_line name text = spelled name text ++ 10 ∷ []

-- the name and the value of such a word, cut at the first `=`
abbrev pub setting : List ℕ → Option (List ℕ × List ℕ)
setting word =
    if nat_lt (position_or_len (λ b. b == 61) word) (length word)
    then Some (before_first (λ b. b == 61) word, after_first (λ b. b == 61) word)
    else None

-- the variables after these settings, one after another; none where a word is no setting
abbrev pub with_settings : Variables → List (List ℕ) → Option Variables
with_settings vars [] = Some vars
with_settings vars (word ∷ words) = option_and_then (λ s. with_settings (insert vars s.0 s.1) words) (setting word)
