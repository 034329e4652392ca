-- Mounted file systems, as /proc/mounts lists them (proc_mounts(5), fstab(5)).
use Rattle.std.specs.Prelude.{◌≡◌, ◌<◌, ℕ, ◌==◌, not, List, [], ◌∷◌, codes, length, filter, filter_map, Option, Some, None}
use Rattle.std.specs.List.{slice_split}
use Rattle.keyfile.specs.Lines.{is_blank}
use Rattle.conf_forms.specs.Lists.{value_beside}
use Rattle.slot_graph.specs.declared.mounted.Mount.{Mount}

-- the words of a line, which stand between blanks
abbrev pub mount_words : List ℕ → List (List ℕ)
mount_words line = filter (λ word. not (length word == 0)) (slice_split is_blank line)

-- the bytes that escapes stand for: a space, a tab, a line feed and a backslash, by their octal numbers
abbrev pub escapes : List (List ℕ × ℕ)
escapes = (codes "\\040", 32) ∷ (codes "\\011", 9) ∷ (codes "\\012", 10) ∷ (codes "\\134", 92) ∷ []

-- the byte that four bytes stand for, where they are one of these
abbrev pub escaped_byte : List ℕ → Option ℕ
escaped_byte text = value_beside escapes text

-- a byte and one text, or else another text
abbrev pub with_first : Option ℕ → List ℕ → List ℕ → List ℕ
with_first (Some byte) text other = byte ∷ text
with_first None text other = other

-- a word with its escapes read, from the first on
abbrev pub word_text : List ℕ → List ℕ
word_text (slash ∷ a ∷ b ∷ c ∷ more) = with_first (escaped_byte (slash ∷ a ∷ b ∷ c ∷ [])) (word_text more) (slash ∷ word_text (a ∷ b ∷ c ∷ more))
word_text (byte ∷ more) = byte ∷ word_text more
word_text [] = []

-- a word stands for this byte and then for what the rest of it, which is shorter, stands for
abbrev pub IsSplit : List ℕ → ℕ → List ℕ → Type 0
IsSplit word byte rest = (word_text word ≡ byte ∷ word_text rest) × (length rest < length word)

-- a word whose first byte, where it has one, stands for itself
abbrev pub IsPlain : List ℕ → Type 0
IsPlain [] = Unit {0}
IsPlain (byte ∷ rest) = word_text (byte ∷ rest) ≡ byte ∷ word_text rest

-- the device and the mount point of a line with these words, where there are two
abbrev pub mount_in : List (List ℕ) → Option Mount
mount_in (device ∷ point ∷ more) = Some (record { device = word_text device; point = word_text point })
mount_in words = None

-- what is mounted, by the lines in their order
abbrev pub mounts_of : List ℕ → List Mount
mounts_of text = filter_map (λ line. mount_in (mount_words line)) (slice_split (λ byte. byte == 10) text)
