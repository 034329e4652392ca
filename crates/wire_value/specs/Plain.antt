-- The values of messages, without where they lie in memory.
use Rattle.std.specs.Prelude.{◌≡◌, ℕ, suc, max, List, [], ◌∷◌, ◌++◌}
use Rattle.wire_value.specs.Types.{Fixed, Textual, Basic, fixed_letter, textual_letter, letter}

mutual
  pub data Plain : Type 0 where
    -- a number of a fixed type; one with a sign in two's complement, a double by its bits
    number : Fixed → ℕ → Plain
    words : Textual → List ℕ → Plain
    -- the type of its items, and the items
    array : List ℕ → Plains → Plain
    struct : Plains → Plain
    -- a dict entry: a key and a value
    entry : Plain → Plain → Plain
    variant : Plain → Plain

  pub data Plains : Type 0 where
    none : Plains
    more : Plain → Plains → Plains

abbrev mutual
  -- the type of a value, as it is written in a signature
  pub sig : Plain → List ℕ
  sig (number f x) = fixed_letter f ∷ []
  sig (words k t) = textual_letter k ∷ []
  sig (array item vs) = 97 ∷ item
  sig (struct vs) = 40 ∷ (sigs vs ++ 41 ∷ [])
  sig (entry k v) = 123 ∷ (sig k ++ (sig v ++ 125 ∷ []))
  sig (variant v) = 118 ∷ []

  pub sigs : Plains → List ℕ
  sigs none = []
  sigs (more v vs) = sig v ++ sigs vs

abbrev mutual
  -- how many containers nest in a value: arrays, structs, dict entries and variants
  pub nest : Plain → ℕ
  nest (number f x) = 0
  nest (words k t) = 0
  nest (array item vs) = suc (nests vs)
  nest (struct vs) = suc (nests vs)
  nest (entry k v) = suc (max (nest k) (nest v))
  nest (variant v) = suc (nest v)

  pub nests : Plains → ℕ
  nests none = 0
  nests (more v vs) = max (nest v) (nests vs)

-- a value of a basic type, as the key of a dict entry has to be
abbrev pub IsKey : Plain → Type 0
IsKey k = (b : Basic) × (sig k ≡ letter b ∷ [])
