-- Orders and counts, as the variables of a boot loader hold them.
use Rattle.std.specs.Prelude.{ℕ, ◌+◌, ◌==◌, Bool, ◌&&◌, ◌||◌, not, List, [], ◌∷◌, length, filter, Option, option_and_then, unwrap_or}
use Rattle.std.specs.FinMap as fin
use Rattle.std.specs.List.{join_with_byte, list_all, list_any, slice_split}
use Rattle.std.specs.Str.{bytes_eq}
use Rattle.boot_model.specs.Vars.{Variables}
use Rattle.updater_text.specs.Numbers.{number_of}

-- the value of a variable
abbrev pub value : Variables → List ℕ → Option (List ℕ)
value vars name = fin.get vars name

-- the variables after one was set, where an empty value sets none
abbrev pub put : Variables → List ℕ → List ℕ → Variables
put vars name [] = fin.remove vars name
put vars name (byte ∷ more) = fin.insert vars name (byte ∷ more)

-- the number that a value spells; one that is missing, or spells none, counts as 0
abbrev pub count_of : Option (List ℕ) → ℕ
count_of text = unwrap_or (option_and_then number_of text) 0

-- a count from 0 to 9 as text
abbrev pub digit_of : ℕ → List ℕ
digit_of count = (48 + count) ∷ []

-- a byte between the words of an order: a space or a tab
abbrev pub is_blank : ℕ → Bool
is_blank byte = (byte == 32) || (byte == 9)

-- and between the numbers of EFI's
abbrev pub is_comma : ℕ → Bool
is_comma byte = byte == 44

-- the words between such bytes
abbrev pub words_between : (ℕ → Bool) → List ℕ → List (List ℕ)
words_between is_gap text = filter (λ word. not (length word == 0)) (slice_split is_gap text)

-- the words of an order between blanks; one that is missing has none
abbrev pub words_at : Variables → List ℕ → List (List ℕ)
words_at vars name = words_between is_blank (unwrap_or (value vars name) [])

-- words with one byte between each two
abbrev pub joined : ℕ → List (List ℕ) → List ℕ
joined gap words = join_with_byte gap words

-- this is one of the words
abbrev pub has_word : List (List ℕ) → List ℕ → Bool
has_word words word = list_any (λ w. bytes_eq w word) words

-- the words but this one
abbrev pub without_word : List (List ℕ) → List ℕ → List (List ℕ)
without_word words word = filter (λ w. not (bytes_eq w word)) words

-- each word once, at its first place
abbrev pub each_once : List (List ℕ) → List (List ℕ)
each_once [] = []
each_once (word ∷ words) = word ∷ without_word (each_once words) word

-- what follows a name that is put first: the other words of the order, each once, or the other names where the order has no word
abbrev pub others : List (List ℕ) → List ℕ → List (List ℕ) → List (List ℕ)
others names name [] = without_word names name
others names name (word ∷ words) = without_word (each_once (word ∷ words)) name

-- a name can stand in each order: it is not empty, and no blank and no comma is in it
abbrev pub is_word : List ℕ → Bool
is_word name = not (length name == 0) && list_all (λ byte. not (is_blank byte || is_comma byte)) name
