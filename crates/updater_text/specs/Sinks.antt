-- What sinks hold after puts.
use Rattle.std.specs.Prelude.{◌≡◌, ◌≤◌, ◌-◌, ◌==◌, ℕ, Bool, true, false, ◌||◌, ◌&&◌, List, [], ◌∷◌, ◌++◌, length, Option, Some, None, nat_lt, if◌then◌else◌}
use Rattle.std.specs.List.{list_any}
use Rattle.updater_text.specs.Counts.{CountRose, next_count}

-- what is seen of a sink: its bytes, where it tells them, and how often a put has failed
pub record Shown : Type 0 where
  pub told : Option (List ℕ)
  pub faults : ℕ

-- all of the text was appended, or only a part of its front
abbrev pub AppendsFront : List ℕ → List ℕ → List ℕ → Bool → Type 0
AppendsFront old new text true = new ≡ old ++ text
AppendsFront old new text false = (part : List ℕ) × (rest : List ℕ) × (text ≡ part ++ rest) × (new ≡ old ++ part)

-- the same of a sink that tells; one that told goes on telling
abbrev pub AppendsWhereTold : Option (List ℕ) → Option (List ℕ) → List ℕ → Bool → Type 0
AppendsWhereTold (Some old) (Some new) text whole = AppendsFront old new text whole
AppendsWhereTold (Some old) None text whole = ⊥
AppendsWhereTold None new text whole = Unit {0}

-- a text was put: it is whole on the sink, or else a put failed
pub record Put (old new : Shown) (text : List ℕ) (whole : Bool) : Type 0 where
  pub bytes : AppendsWhereTold old.told new.told text whole
  pub kept : old.faults ≤ new.faults
  pub cause : whole ≡ false → CountRose old.faults new.faults

-- a line more after texts that were whole or not: nothing is put for no text, nor after a failed put
abbrev pub WritesText : Shown → Shown → List ℕ → Bool → Bool → Type 0
WritesText old new [] before after = (new ≡ old) × (after ≡ before)
WritesText old new (b ∷ bs) true after = Put old new (b ∷ bs) after
WritesText old new (b ∷ bs) false after = (new ≡ old) × (after ≡ false)

-- a text went to each of two sinks, and `told` says whether both are whole
pub record WritesBoth (out out' err err' : Shown) (text_out text_err : List ℕ) (told : Bool) : Type 0 where
  pub out_whole : Bool
  pub err_whole : Bool
  pub on_out : WritesText out out' text_out true out_whole
  pub on_err : WritesText err err' text_err true err_whole
  pub both : told ≡ (out_whole && err_whole)

-- a sink in memory: its bytes, the room left, the numbers of the puts that fail, and its counts
pub record Shelf : Type 0 where
  pub held : List ℕ
  pub left : ℕ
  pub fails : List ℕ
  pub puts : ℕ
  pub faults : ℕ

-- its next put of so many bytes fails: by its number, or for want of room
abbrev pub refuses : Shelf → ℕ → Bool
refuses shelf more = list_any (λ number. number == next_count shelf.puts) shelf.fails || nat_lt shelf.left more

-- after a put, which appends all or nothing
abbrev pub after_put : Shelf → List ℕ → Shelf
after_put shelf bytes =
    if refuses shelf (length bytes)
    then record shelf { puts = next_count shelf.puts; faults = next_count shelf.faults }
    else record shelf { held = shelf.held ++ bytes; left = shelf.left - length bytes; puts = next_count shelf.puts }
