-- What the grammar of values promises.
use Rattle.std.specs.Prelude.{◌≡◌, ℕ, ◌+◌, ◌≤◌, Bool, List, [], ◌++◌, length}
use Rattle.wire_value.specs.Plain.{Plain, Plains, sig, sigs, nests}
use Rattle.wire_value.specs.Spelling.{Spells, SpellsAll, spells, AreValues}
use Rattle.wire_value.specs.Standing.{StandAll}

-- One text at an offset spells at most one value of a type.
abbrev pub OneValue : Type 0
OneValue = (little : Bool) (d e n : ℕ) (v w : Plain) (text : List ℕ)
    → Spells little d n v text → Spells little e n w text → sig v ≡ sig w → v ≡ w

-- No spelling of a type begins another one of it.
abbrev pub NoPrefix : Type 0
NoPrefix = (little : Bool) (d e n : ℕ) (v w : Plain) (short long rest : List ℕ)
    → Spells little d n v short → Spells little e n w long → sig v ≡ sig w → long ≡ short ++ rest → rest ≡ []

-- The same of values one after the other, as in a body, by their signature.
abbrev pub OneSequence : Type 0
OneSequence = (little : Bool) (d e n : ℕ) (vs ws : Plains) (text : List ℕ)
    → SpellsAll little d n vs text → SpellsAll little e n ws text → sigs vs ≡ sigs ws → vs ≡ ws

abbrev pub NoSequencePrefix : Type 0
NoSequencePrefix = (little : Bool) (d e n : ℕ) (vs ws : Plains) (short long rest : List ℕ)
    → SpellsAll little d n vs short → SpellsAll little e n ws long → sigs vs ≡ sigs ws → long ≡ short ++ rest → rest ≡ []

-- What is spelled reads back, whatever follows it.
abbrev pub ReadsBack : Type 0
ReadsBack = (little : Bool) (d n : ℕ) (vs : Plains) (rest : List ℕ) → AreValues little n vs → nests vs ≤ d
    → StandAll little d (sigs vs) (n, spells little n vs ++ rest) vs (n + length (spells little n vs), rest)
