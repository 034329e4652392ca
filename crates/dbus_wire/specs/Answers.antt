-- What read_message answers.
use Rattle.std.specs.Prelude.{◌≡◌, ℕ, ◌+◌, ◌<◌, ◌≤◌, ⊤, ◌⊎◌, Bool, List, ◌++◌, length, take, slice_index, Result, Ok, Err}
use Rattle.updater_text.specs.declared.stops.Lack.{Lack}
use Rattle.updater_text.specs.declared.stops.Lack.TheVariants as lack
use Rattle.dbus_wire.specs.Spelling.{PlainMessage, Spells, order}
use Rattle.dbus_wire.specs.Reading.{Answer, need, got, bad, too_large, answer, stated}
use Rattle.dbus_wire.specs.MessageView.{plain}
use Rattle.dbus_wire.specs.declared.refusal.WireRefusal.{WireRefusal}
use Rattle.dbus_wire.specs.declared.refusal.WireRefusal.TheVariants as refusal
use Rattle.dbus_wire.specs.declared.read.Progress.{Progress}
use Rattle.dbus_wire.specs.declared.read.Progress.TheVariants as progress

abbrev pub Answered : Type 0
Answered = Result Progress (Lack WireRefusal)

-- the bytes lack nothing of a message that may be read
abbrev pub IsThere : Answer → Type 0
IsThere (need more) = ⊥
IsThere (got m n) = ⊤
IsThere bad = ⊤
IsThere (too_large n) = ⊥

abbrev pub AnswersWhole : Answer → Answered → Type 0
AnswersWhole a (Ok (progress.Need more)) = a ≡ need more
AnswersWhole a (Ok (progress.Got m used)) = a ≡ got (plain m) used
AnswersWhole a (Err (lack.Refused refusal.Bad)) = a ≡ bad
AnswersWhole a (Err (lack.Refused (refusal.TooLarge n))) = a ≡ too_large n
AnswersWhole a (Err lack.NoMemory) = IsThere a

abbrev pub Answers : List ℕ → Answered → Type 0
Answers bytes result = AnswersWhole (answer bytes) result

abbrev pub Refuses : Answered → WireRefusal → Type 0
Refuses result why = result ≡ Err (lack.Refused why)

-- ---- in words of the grammar

-- the first 16 bytes are there, and begin as a message does
pub record Opens (little : Bool) (bytes : List ℕ) : Type 0 where
  pub long : 16 ≤ length bytes
  pub order : slice_index bytes 0 ≡ order little
  pub version : slice_index bytes 3 ≡ 1

-- so many bytes are missing: of the first 16, or of a message of at most 1 MiB
abbrev pub Lacks : List ℕ → ℕ → Type 0
Lacks bytes more =
    ((length bytes < 16) × (length bytes + more ≡ 16))
    ⊎ ((little : Bool) × Opens little bytes × (stated little bytes ≤ 1048576) × (0 < more)
    × (length bytes + more ≡ stated little bytes))

-- the bytes state a message of so many bytes, which are more than 1 MiB
abbrev pub StatesTooMuch : List ℕ → ℕ → Type 0
StatesTooMuch bytes n =
    (little : Bool) × Opens little bytes × (stated little bytes ≡ n) × (1048576 < n)

-- no spelling begins with the bytes or is their beginning
abbrev pub NoMessage : List ℕ → Type 0
NoMessage bytes = (m : PlainMessage) (text rest : List ℕ) → Spells text m
    → ((bytes ≡ text ++ rest) ⊎ (text ≡ bytes ++ rest)) → ⊥

-- all that a message states is there, or what is there begins as no message does
abbrev pub HasAll : List ℕ → Type 0
HasAll bytes =
    (16 ≤ length bytes) × ((n : ℕ) → Lacks bytes n → ⊥) × ((n : ℕ) → StatesTooMuch bytes n → ⊥)

-- a message that was got is spelled by as many bytes as it used
abbrev pub GotIsSpelled : List ℕ → Answered → Type 0
GotIsSpelled bytes (Ok (progress.Got m used)) =
    (used ≤ length bytes) × Spells (take used bytes) (plain m)
GotIsSpelled bytes _ = ⊤

-- this message of so many bytes was got, or memory ran out
abbrev pub Gets : PlainMessage → ℕ → Answered → Type 0
Gets m n (Ok (progress.Got k used)) = (plain k ≡ m) × (used ≡ n)
Gets m n (Err lack.NoMemory) = ⊤
Gets m n _ = ⊥

-- each spelling that the bytes begin with is got
abbrev pub GetsSpelled : List ℕ → Answered → Type 0
GetsSpelled bytes result = (m : PlainMessage) (text rest : List ℕ) → Spells text m
    → length text ≤ 1048576 → bytes ≡ text ++ rest → Gets m (length text) result

-- of a spelling that is not all there more bytes are needed, and never more than are missing
abbrev pub NeedsRest : List ℕ → Answered → Type 0
NeedsRest bytes result = (m : PlainMessage) (text rest : List ℕ) → Spells text m
    → length text ≤ 1048576 → text ≡ bytes ++ rest → 0 < length rest
    → (more : ℕ) × (result ≡ Ok (progress.Need more)) × (0 < more) × (more ≤ length rest)
    × (16 ≤ length bytes → more ≡ length rest)

-- refused as bad, or out of memory
abbrev pub RefusedOrNoMemory : Answered → Type 0
RefusedOrNoMemory (Err (lack.Refused refusal.Bad)) = ⊤
RefusedOrNoMemory (Err lack.NoMemory) = ⊤
RefusedOrNoMemory _ = ⊥
