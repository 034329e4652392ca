-- Words that are put behind others.
use Rattle.std.specs.Prelude.{ℕ, ◌==◌, not, List, [], ◌∷◌, filter, length}
use Rattle.boot_state.specs.Orders.{each_once, has_word}

-- the words that are none of these, each once
abbrev pub new_words : List (List ℕ) → List (List ℕ) → List (List ℕ)
new_words seen words = filter (λ word. not (has_word seen word)) (each_once words)

-- a word, unless it is empty
abbrev pub word_if_any : List ℕ → List (List ℕ)
word_if_any word = filter (λ w. not (length w == 0)) (word ∷ [])
