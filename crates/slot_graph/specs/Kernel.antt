-- The words of a kernel command line (kernel-command-line(7), and RAUC's chapter Integration for its own words).
use Rattle.std.specs.Prelude.{ℕ, ◌==◌, Bool, ◌||◌, List, length, take, drop, find, Option, option_map}
use Rattle.std.specs.List.{list_any, slice_split}
use Rattle.std.specs.Str.{bytes_eq}
use Rattle.keyfile.specs.Lines.{is_blank}

-- a byte between words: a space, a tab or a line feed
abbrev pub is_gap : ℕ → Bool
is_gap byte = is_blank byte || (byte == 10)

-- the words of a command line
abbrev pub kernel_words : List ℕ → List (List ℕ)
kernel_words line = slice_split is_gap line

-- this is one of the words
abbrev pub has_word : List ℕ → List ℕ → Bool
has_word line word = list_any (λ w. bytes_eq w word) (kernel_words line)

-- the word begins so
abbrev pub has_front : List ℕ → List ℕ → Bool
has_front front word = bytes_eq (take (length front) word) front

-- what follows this front in the first word that begins with it
abbrev pub value_behind : List ℕ → List ℕ → Option (List ℕ)
value_behind line front = option_map (drop (length front)) (find (has_front front) (kernel_words line))
