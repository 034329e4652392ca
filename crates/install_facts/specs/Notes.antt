-- The notes of how far an install is.
use Rattle.std.specs.Prelude.{ℕ, List, [], ◌∷◌, ◌++◌}
use Rattle.keyfile.specs.Groups.{Text}
use Rattle.updater_text.specs.Sinks.{Shown}
use Rattle.install_facts.specs.declared.report.Note.{Note}

abbrev pub note : ℕ → Text → Note
note percent text = record { percent = percent; text = text }

-- where a report stood for a start and notes, it stands for the same start and these notes with some more
abbrev pub AddsNotes : (Shown → List Note → Type 0) → (Shown → List Note → Type 0) → List Note → Type 0
AddsNotes before after more = (start : Shown) (notes : List Note) → before start notes → after start (notes ++ more)

-- with one more
abbrev pub AddsNote : (Shown → List Note → Type 0) → (Shown → List Note → Type 0) → ℕ → Text → Type 0
AddsNote before after percent text = AddsNotes before after (note percent text ∷ [])
